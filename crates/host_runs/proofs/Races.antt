-- Of two finishes that race, one finds a row that is not the one that it read.
use Rattle.std.proofs.Common.{◌≡◌, None, Some, sym, ◌∙◌, ap, arith}
use Rattle.std.proofs.lemmas.Option.{same_Some}
use Rattle.cose.specs.Schemes.{Validity}
use Rattle.authdata.specs.Flags.{is_set, BE}
use Rattle.verification.specs.Records.{Credential}
use Rattle.site_state.specs.Sessions.{ForRegistration, ForSignIn}
use Rattle.site_state.specs.Table.{signed_in}
use Rattle.host_runs.specs.Rows.{Races}

pub races : (first second : Validity) → Races first second
races first second = record {
  answers_once = λ old new later key e f c d r t x y. let bad : None ≡ Some (ForSignIn f) = sym x.deletes.0 ∙ y.session in absurd cc;
  registers_once = λ old new later key e f r t x y. let bad : None ≡ Some (ForRegistration f) = sym x.deletes.0 ∙ y.session in absurd cc;
  counts_once = λ old new later key other e f c r t x grown same y.
      let changed = signed_in x.auth.sign_count (is_set x.auth.flags BE) c in
      let one : changed ≡ c = same_Some changed c (sym x.writes.0 ∙ ap new.credentials (sym same) ∙ y.credential) in
      let count : x.auth.sign_count ≡ c.sign_count = ap (λ (z : Credential). z.sign_count) one in
      omega (arith, grown, count);
}
