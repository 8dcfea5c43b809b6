-- What is owed of `judge`.
use Rattle.std.proofs.Common.{◌≡◌, List, ℕ, Bool, false, refl, subst}
use Rattle.std.specs.Prelude.{option_map}
use Rattle.std.proofs.lemmas.Result.{err_from_is_err_and}
use Rattle.verification.specs.Views.{registration_parts_view, registration_view}
use Rattle.verification.proofs.Registrations.{all_pass, table_fails}
use Rattle.site_rows.specs.Held.{HasNone}
use Rattle.site_stored.specs.Private.{TellsHad, judged_by}
use Rattle.site_stored.proofs.Finishing.{told_same}
use Rattle.site_stored.proofs.registration.judge.Goals as goal

pub returns-in_err-verified-clause-refused : goal.returns-in_err-verified-clause-refused
returns-in_err-verified-clause-refused g c =
    let p = err_from_is_err_and c.from_residual.result c.from_residual.ensures.1 in
    rw (p.1, p.2) (
      (record { clean = λ clean. clean; view = λ clean. refl; shape = refl }, refl),
      λ clean placed holds is_registered tells.
          c.in_err-verified.ensures.refused is_registered c.args.is_full,
    )

pub returns-in_err-credential-clause-refused : goal.returns-in_err-credential-clause-refused
returns-in_err-credential-clause-refused g c =
    let p = err_from_is_err_and c.from_residual-in_err-credential.result c.from_residual-in_err-credential.ensures.1 in
    let why = c.in_err-credential.ensures.refused in
    let accepted = c.in_ok-verified.ensures.accepted in
    rw (p.1, p.2, why.1) (
      (c.in_ok-is_registered.ensures.reads.same, c.in_ok-is_registered.ensures.reads.kept),
      λ clean placed holds is_registered tells.
          let had = subst (λ id. TellsHad placed id c.in_ok-is_registered.is_registered) c.id.ensures (c.in_ok-is_registered.ensures.told clean placed holds) in
          let told = told_same placed is_registered _ c.in_ok-is_registered.is_registered tells had in
          let x = judged_by c.args.party.now c.args.policy (option_map (λ s. registration_view s.now) c.args.session)
          (registration_parts_view c.args.response.now) is_registered c.args.is_full in
          table_fails (g.V.Verifier.valid c.args.verifier.now) x why.0 (accepted.1 is_registered c.args.is_full) (why.2 x accepted.0 told refl),
    )

pub returns-clause-accepted : goal.returns-clause-accepted
returns-clause-accepted g c =
    let accepted = c.in_ok-verified.ensures.accepted in
    let judged = λ (is_registered : List ℕ → Bool). judged_by c.args.party.now c.args.policy (option_map (λ s. registration_view s.now) c.args.session)
    (registration_parts_view c.args.response.now) is_registered c.args.is_full in
    let steps = c.in_ok-credential.ensures.passes (judged (λ _. c.in_ok-is_registered.is_registered)) accepted.0 refl refl in
    let tells = accepted.0 in
    let v = c.in_ok-verified.verified in
    let new : c.in_ok-is_registered.is_registered ≡ false = steps.0 tells.0 v.auth_data v.credential tells.1 in
    record {
      open_session = (accepted.1 (λ _. false) false).0;
      room = steps.1.0;
      attests = (tells.0, tells.1, tells.2);
      fresh = λ clean placed holds. subst (HasNone placed) c.id.ensures
          (subst (TellsHad placed c.id.result.now) new (c.in_ok-is_registered.ensures.told clean placed holds));
      passes = λ clean placed holds is_registered told.
          let had = subst (λ id. TellsHad placed id c.in_ok-is_registered.is_registered) c.id.ensures (c.in_ok-is_registered.ensures.told clean placed holds) in
          let same = told_same placed is_registered _ c.in_ok-is_registered.is_registered told had in
          all_pass (g.V.Verifier.valid c.args.verifier.now) (judged is_registered) (accepted.1 is_registered c.args.is_full)
          (c.in_ok-credential.ensures.passes (judged is_registered) accepted.0 same refl);
    }
