-- What is owed of `Site::finish_parts`.
use Rattle.std.proofs.Common.{◌≡◌, ◌≤◌, ◌∙◌, ap, refl, sym, subst}
use Rattle.authdata.specs.Layout.{lent_auth_view}
use Rattle.std.specs.Prelude.{IfSome, Some, option_map, slice_get}
use Rattle.std.proofs.lemmas.Option.{same_Some}
use Rattle.std.proofs.lemmas.Result.{err_from_is_err_and}
use Rattle.verification.specs.SignInAnswers.{IsRefused}
use Rattle.verification.specs.SignIn.{PassesSignIn}
use Rattle.verification.specs.Views.{assertion_parts_view, credential_view}
use Rattle.site_state.proofs.RowLemmas.{found_id}
use Rattle.site.proofs.Judged.{same_attempt, same_change, same_state}
use Rattle.site.proofs.site.Site.finish_parts.Goals as goal

pub returns-in_err-verified-clause-refused : goal.returns-in_err-verified-clause-refused
returns-in_err-verified-clause-refused g c =
    let p = err_from_is_err_and c.from_residual.result c.from_residual.ensures.1 in
    let same = same_attempt c.self.inside.party (assertion_parts_view c.args.response.now) _ _ _ _ c.sign_in.ensures (c.credential_in.ensures
    ∙ c.find-found.ensures.row) in
    rw (p.1, p.2, ← c.self.view_is)
    (subst (λ x. IsRefused (g.V.Verifier.valid c.args.verifier.now) x c.in_err-verified.field-0.0) same c.in_err-verified.ensures.refused)

pub returns-clause-accepted : goal.returns-clause-accepted
returns-clause-accepted g c =
    let same = same_attempt c.self.inside.party (assertion_parts_view c.args.response.now) _ _ _ _ c.sign_in.ensures (c.credential_in.ensures
    ∙ c.find-found.ensures.row) in
    let tells = c.in_ok-verified.ensures.accepted.1 in
    let there = sym (ap (option_map (λ x. credential_view x.1)) c.unwrap-place.ensures) ∙ c.find-found.ensures.row in
    rw (← c.self.view_is) (
      subst (PassesSignIn (g.V.Verifier.valid c.args.verifier.now)) same c.in_ok-verified.ensures.accepted.0,
      (
        λ row is. c.in_ok-signed_in.ensures.0 ∙ ap (λ x. x.user) (same_Some (credential_view c.unwrap-place.result.1) row (there ∙ is)),
        c.in_ok-signed_in.ensures.1,
        (lent_auth_view c.in_ok-verified.verified.auth_data, tells, c.in_ok-signed_in.ensures.2 ∙ c.backed_up.ensures),
      ),
    )

pub returns-clause-after : goal.returns-clause-after
returns-clause-after g c =
    let tells = c.in_ok-verified.ensures.accepted.1 in
    let there = sym (ap (option_map (λ x. credential_view x.1)) c.unwrap-place.ensures) ∙ c.find-found.ensures.row in
    let row = credential_view c.unwrap-place.result.1 in
    let place = subst (λ o. IfSome o (λ x. slice_get c.self.inside.table x.0 ≡ Some (credential_view x.1))) c.unwrap-place.ensures c.find-found.ensures.place in
    let id = found_id c.args.response.now.credential.now c.self.inside.table row (sym there) in
    rw (← c.self.view_is) (
      lent_auth_view c.in_ok-verified.verified.auth_data,
      tells,
      same_state c.self.inside.party c.self.inside.policy c.store.new.self _ c.close.new.self _
          (c.store.ensures.stored row place
          ∙ same_change c.self.inside.table row.id c.args.response.now.credential.now c.in_ok-verified.verified.auth_data.sign_count
          (lent_auth_view c.in_ok-verified.verified.auth_data).sign_count c.eligible.result _ id refl c.eligible.ensures)
          c.close.ensures.closed,
    )

pub invariant_of-self : goal.invariant_of-self
invariant_of-self g c = (
  c.store.ensures.limits c.self.inside.party.profile c.self.invariant.0,
  c.self.invariant.1,
  subst (λ s. 1 ≤ s.next) (sym c.close.ensures.closed) c.self.invariant.2,
)
