-- What is owed of `Site::finish_registration_parts`.
use Rattle.std.proofs.Common.{◌≡◌, ◌≤◌, ◌∙◌, ap, sym, subst, ◌++◌, ◌∷◌, []}
use Rattle.std.specs.Prelude.{None, is_some, option_map}
use Rattle.std.proofs.lemmas.Result.{err_from_is_err_and}
use Rattle.verification.specs.Registration.{IsFirstFailing, PassesRegistration}
use Rattle.verification.specs.RegistrationAnswers.{IsRefused}
use Rattle.verification.specs.Views.{registration_view, registration_parts_view}
use Rattle.site_state.specs.Table.{row_of}
use Rattle.verification.proofs.Registrations.{all_pass, table_fails}
use Rattle.site.proofs.Judged.{admitted_as, has_room, is_full, looser_id, no_row, row_limits, said_full, said_row, same_registration, same_row}
use Rattle.site.proofs.Judged.{same_state, some_seen}
use Rattle.site.proofs.site.Site.finish_registration_parts.Goals as goal

pub returns-in_err-verified-clause-refused : goal.returns-in_err-verified-clause-refused
returns-in_err-verified-clause-refused g c =
    let p = err_from_is_err_and c.from_residual.result c.from_residual.ensures.1 in
    let table = c.self.inside.table in
    let same = same_registration c.self.inside.party c.self.inside.policy (registration_parts_view c.args.response.now) (λ id. is_some (row_of id table))
    (is_full table) _ _ c.registration-expected.ensures.expected in
    rw (p.1, p.2, ← c.self.view_is) (subst (λ x. IsRefused (g.V.Verifier.valid c.args.verifier.now) x c.in_err-verified.field-0.0) same
    (c.in_err-verified.ensures.refused (λ id. is_some (row_of id table)) (is_full table)))

pub returns-in_err-admitted-clause-refused : goal.returns-in_err-admitted-clause-refused
returns-in_err-admitted-clause-refused g c =
    let p = err_from_is_err_and c.from_residual-in_err-admitted.result c.from_residual-in_err-admitted.ensures.1 in
    let table = c.self.inside.table in
    let accepted = c.in_ok-verified.ensures.accepted in
    let same = same_registration c.self.inside.party c.self.inside.policy (registration_parts_view c.args.response.now) (λ id. is_some (row_of id table))
    (is_full table) _ _ c.registration-expected.ensures.expected in
    let taken = ap (λ id. is_some (row_of id table)) (sym c.id.ensures)
    ∙ said_row c.has-is_registered.result (row_of c.id.result.now table) c.has-is_registered.ensures in
    rw (p.1, p.2, ← c.self.view_is) (subst (λ x. IsFirstFailing (g.V.Verifier.valid c.args.verifier.now) x c.in_err-admitted.field-0.0) same
    (table_fails (g.V.Verifier.valid c.args.verifier.now) _ c.in_err-admitted.field-0.0 (accepted.1 (λ id. is_some (row_of id table)) (is_full table))
    (c.in_err-admitted.ensures.refused _ accepted.0 taken (said_full c.is_full.result table c.is_full.ensures))))

pub unwrap-requires : goal.unwrap-requires
unwrap-requires g c =
    let table = c.self.inside.table in
    let steps = c.in_ok-verified.ensures.accepted.1 (λ id. is_some (row_of id table)) (is_full table) in
    some_seen (λ s. registration_view s.now) c.registration-expected.result steps.0

pub push-requires-clause-limits : goal.push-requires-clause-limits
push-requires-clause-limits g c =
    let tells = c.in_ok-verified.ensures.accepted.0 in
    let open_for = sym c.registration-expected.ensures.expected ∙ ap (option_map (λ s. registration_view s.now)) c.unwrap.ensures in
    let v = c.in_ok-verified.verified in
    let limits = row_limits c.self.inside.party.profile v.auth_data v.credential _ _ _ tells.1.auth_data.0 tells.1.attested
    (c.in_ok-id.ensures.items ∙ ap (λ w. w.id) c.in_ok-admitted.ensures.admitted) (c.in_ok-user.ensures.items ∙ c.deref.ensures.value)
    (c.registration-expected.ensures.limits (registration_view c.unwrap.result.now) open_for) in
    (looser_id c.self.inside.party.profile _ limits.0, limits.1)

pub push-requires-clause-absent : goal.push-requires-clause-absent
push-requires-clause-absent g c =
    let table = c.self.inside.table in
    let accepted = c.in_ok-verified.ensures.accepted in
    let tells = accepted.0 in
    let taken = ap (λ id. is_some (row_of id table)) (sym c.id.ensures)
    ∙ said_row c.has-is_registered.result (row_of c.id.result.now table) c.has-is_registered.ensures in
    let steps = c.in_ok-admitted.ensures.passes
    (admitted_as c.self.inside.party c.self.inside.policy (registration_parts_view c.args.response.now) table
    (option_map (λ s. registration_view s.now) c.registration-expected.result))
    tells taken (said_full c.is_full.result table c.is_full.ensures) in
    let v = c.in_ok-verified.verified in
    subst (λ id. row_of id table ≡ None) (sym (c.in_ok-id.ensures.items ∙ ap (λ w. w.id) c.in_ok-admitted.ensures.admitted))
    (no_row (row_of v.credential.id table) (steps.0 tells.0 v.auth_data v.credential tells.1))

pub push-requires-clause-room : goal.push-requires-clause-room
push-requires-clause-room g c =
    let table = c.self.inside.table in
    let accepted = c.in_ok-verified.ensures.accepted in
    let taken = ap (λ id. is_some (row_of id table)) (sym c.id.ensures)
    ∙ said_row c.has-is_registered.result (row_of c.id.result.now table) c.has-is_registered.ensures in
    let steps = c.in_ok-admitted.ensures.passes
    (admitted_as c.self.inside.party c.self.inside.policy (registration_parts_view c.args.response.now) table
    (option_map (λ s. registration_view s.now) c.registration-expected.result))
    accepted.0 taken (said_full c.is_full.result table c.is_full.ensures) in
    has_room table steps.1.0

pub returns-clause-accepted : goal.returns-clause-accepted
returns-clause-accepted g c =
    let table = c.self.inside.table in
    let accepted = c.in_ok-verified.ensures.accepted in
    let tells = accepted.0 in
    let same = same_registration c.self.inside.party c.self.inside.policy (registration_parts_view c.args.response.now) (λ id. is_some (row_of id table))
    (is_full table) _ _ c.registration-expected.ensures.expected in
    let taken = ap (λ id. is_some (row_of id table)) (sym c.id.ensures)
    ∙ said_row c.has-is_registered.result (row_of c.id.result.now table) c.has-is_registered.ensures in
    let x = admitted_as c.self.inside.party c.self.inside.policy (registration_parts_view c.args.response.now) table
    (option_map (λ s. registration_view s.now) c.registration-expected.result) in
    let steps = c.in_ok-admitted.ensures.passes x accepted.0 taken (said_full c.is_full.result table c.is_full.ensures) in
    rw (← c.self.view_is) (
      subst (PassesRegistration (g.V.Verifier.valid c.args.verifier.now)) same
          (all_pass (g.V.Verifier.valid c.args.verifier.now) x (accepted.1 (λ id. is_some (row_of id table)) (is_full table)) steps),
      (
        tells.0,
        c.in_ok-verified.verified.auth_data,
        c.in_ok-verified.verified.credential,
        tells.1,
        c.in_ok-credential.ensures.items ∙ ap (λ v. v.id) c.in_ok-admitted.ensures.admitted,
      ),
    )

pub returns-clause-after : goal.returns-clause-after
returns-clause-after g c =
    let tells = c.in_ok-verified.ensures.accepted.0 in
    let open_for = sym c.registration-expected.ensures.expected ∙ ap (option_map (λ s. registration_view s.now)) c.unwrap.ensures in
    let e = registration_view c.unwrap.result.now in
    let given = c.in_ok-admitted.ensures.admitted in
    rw (← c.self.view_is) (
      e,
      tells.0,
      c.in_ok-verified.verified.auth_data,
      c.in_ok-verified.verified.credential,
      open_for,
      tells.1,
      same_state c.self.inside.party c.self.inside.policy c.push.new.self _ c.close.new.self _
          (c.in_ok-push.ensures.pushed ∙ ap (λ row. c.self.inside.table ++ row ∷ [])
          (same_row (c.in_ok-id.ensures.items ∙ ap (λ v. v.id) given) (c.in_ok-user.ensures.items ∙ c.deref.ensures.value)
          (c.in_ok-key.ensures ∙ ap (λ v. v.key) given) (ap (λ v. v.sign_count) given) (ap (λ v. v.eligible) given)))
          c.close.ensures.closed,
    )

pub invariant_of-self-2 : goal.invariant_of-self-2
invariant_of-self-2 g c =
    let tells = c.in_ok-verified.ensures.accepted.0 in
    let open_for = sym c.registration-expected.ensures.expected ∙ ap (option_map (λ s. registration_view s.now)) c.unwrap.ensures in
    let v = c.in_ok-verified.verified in
    let limits = row_limits c.self.inside.party.profile v.auth_data v.credential _ _ _ tells.1.auth_data.0 tells.1.attested
    (c.in_ok-id.ensures.items ∙ ap (λ w. w.id) c.in_ok-admitted.ensures.admitted) (c.in_ok-user.ensures.items ∙ c.deref.ensures.value)
    (c.registration-expected.ensures.limits (registration_view c.unwrap.result.now) open_for) in (
      c.in_ok-push.ensures.limits c.self.inside.party.profile c.self.invariant.0 limits,
      c.self.invariant.1,
      subst (λ s. 1 ≤ s.next) (sym c.close.ensures.closed) c.self.invariant.2,
    )
