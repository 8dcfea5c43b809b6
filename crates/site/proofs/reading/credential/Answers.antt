-- What is owed of `credential`.
use Rattle.std.proofs.Common.{◌≡◌, ◌<◌, ◌^◌, false, refl, sym, subst, arith}
use Rattle.ccbor.specs.Viewing.{shown}
use Rattle.cose.specs.Keys.{KeyOf}
use Rattle.cose.specs.declared.key.CoseKey.{CoseKey}
use Rattle.site.specs.Saved.{needs_version_4}
use Rattle.site.proofs.Credentials.{credential_found}
use Rattle.site.proofs.reading.credential.Goals as goal

pub returns-clause-read : goal.returns-clause-read
returns-clause-read c =
    let m = c.in_ok-found.found in
    let read = c.in-Ok-try_from.ensures in
    let small : c.in-Ok-try_from.sign_count < 2 ^ 32 = omega arith in
    let key = subst (λ (k : CoseKey). KeyOf k (shown m.key)) (sym c.in_ok-to_key.ensures) c.in-Ok.ensures.found in
    credential_found c.args.version (shown c.args.value.now) (shown m.key) m.id.now m.user.now m.sign_count m.eligible m.retired c.in_ok-found.ensures
    c.in_ok-from_slice.field-0.items c.in_ok-from_slice-2.field-0.items c.in_ok-to_key.field-0 c.in-Ok-try_from.sign_count c.is_some.result
    c.in_ok-from_slice.ensures.items c.in_ok-from_slice-2.ensures.items key read.1 small (c.if-not-are_marks.ensures.0 refl)
    (subst (λ (l : CoseKey). c.args.version < 4 → needs_version_4 m.id.now l ≡ false) (sym c.in_ok-to_key.ensures)
    (c.if-not-is_early.ensures.0 refl)) c.is_some.ensures
