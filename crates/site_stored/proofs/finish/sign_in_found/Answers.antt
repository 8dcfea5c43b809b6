-- What is owed of `sign_in_found`.
use Rattle.std.proofs.Common.{◌∙◌, ◌<◌, ℕ, ap, arith, inl, inr, pos, refl, rules, sym, subst}
use Rattle.authdata.specs.Layout.{lent_auth_view}
use Rattle.std.specs.FinMap as finite
use Rattle.std.specs.Option.{option_copied}
use Rattle.verification.specs.SignIn.{PassesSignIn}
use Rattle.verification.specs.Views.{assertion_parts_view, sign_in_view}
use Rattle.site_state.specs.RowViews.{row_view}
use Rattle.site_rows.specs.Held.{IsWritten}
use Rattle.site_rows.specs.Details.{IsDetailed, detail_row, used}
use Rattle.site_stored.proofs.Signing.{same_attempt, same_counted}
use Rattle.site_rows.proofs.Causes.{passed_up}
use Rattle.sqlite_trees.specs.View.{IsStorableRow}
use Rattle.site_rows.specs.Rows.{credential_row}
use Rattle.site_stored.specs.declared.failure.FinishFailure.TheVariants as finishes
use Rattle.site_stored.proofs.Causes.{caused_as, caused_since}
use Rattle.site_stored.proofs.Held.{details_stay}
use Rattle.site_stored.proofs.SessionTexts.{some_seen}
use Rattle.site_stored.proofs.finish.sign_in_found.Goals as goal

pub overflow_cast-now : goal.overflow_cast-now
overflow_cast-now g c =
    let fits : c.args.now < 9223372036854775808 = some_seen (λ e. sign_in_view e.now) _ c.args.session c.requires.fits c.in_ok-verified.ensures.accepted.0.0 in
    omega (arith, fits)

pub returns-clause-accepted : goal.returns-clause-accepted
returns-clause-accepted g c =
    let tells = c.in_ok-verified.ensures.accepted.1 in
    let same = same_attempt c.args.party.now (assertion_parts_view c.args.response.now) _ _ _ _ refl c.credential_in.ensures in
    let at = c.unwrap-found.result.now in
    let row = c.lent-credential.ensures in
    record {
      at = at;
      data_read = lent_auth_view c.in_ok-verified.verified.auth_data;
      is = sym c.as_ref.ensures.value ∙ ap option_copied c.unwrap-found.ensures;
      passes = subst (PassesSignIn (g.V.Verifier.valid c.args.verifier.now)) same c.in_ok-verified.ensures.accepted.0;
      read = tells;
      user = c.in_ok-signed_in.ensures.copied.0 ∙ ap (λ x. x.user) row;
      credential = c.in_ok-signed_in.ensures.copied.1;
      told = c.in_ok-signed_in.ensures.copied.2;
      written = λ clean. (
        g.S.Store.view c.set.new.self.store,
        λ placed holds there.
            let is = c.counted.ensures ∙ same_counted _ _ _ _ _ _ row refl refl in
            subst (λ x. IsWritten (g.S.Store.view c.args.held.now.store) (g.S.Store.view c.set.new.self.store) (finite.insert placed at.place x)) is
            (c.in_ok-set.ensures.written (c.in_ok-mark_used.ensures.writes.quiet.clean clean) placed (row_view at.credential) holds there (ap (λ x. x.id) is) (ap (λ x. x.user) is)),
        subst (λ n. IsDetailed (g.S.Store.view c.set.new.self.store) (g.S.Store.view c.mark_used.new.self.store)
            (λ details. finite.insert details at.place (used n (finite.get details at.place)))) (search rules) (c.in_ok-mark_used.ensures.used clean),
      );
    }

pub returns-in_err-set-clause-cause : goal.returns-in_err-set-clause-cause
returns-in_err-set-clause-cause g c = λ clean.
    let old = g.S.Store.view c.args.held.now.store in
    let tells = c.in_ok-verified.ensures.accepted.1 in
    let at = c.unwrap-found.result.now in
    let is = c.counted.ensures ∙ same_counted _ _ _ _ _ _ c.lent-credential.ensures refl refl in
    passed_up c.from_residual-in_err-set.result (finishes.Store c.in_err-set.field-0.0) _ c.from_residual-in_err-set.ensures.1
    (caused_as old _ _ _ _ _ _ _
    (λ no. (
      at,
      sym c.as_ref.ensures.value ∙ ap option_copied c.unwrap-found.ensures,
      inl (lent_auth_view c.in_ok-verified.verified.auth_data, tells, subst (λ x. ¬ IsStorableRow (old.reals 0) (credential_row at.place x)) is no),
    )) (λ no. no) (c.in_err-set.ensures.cause clean))

pub returns-in_err-mark_used-clause-cause : goal.returns-in_err-mark_used-clause-cause
returns-in_err-mark_used-clause-cause g c = λ clean.
    let old = g.S.Store.view c.args.held.now.store in
    let mid = g.S.Store.view c.set.new.self.store in
    let tells = c.in_ok-verified.ensures.accepted.1 in
    let at = c.unwrap-found.result.now in
    let is = c.counted.ensures ∙ same_counted _ _ _ _ _ _ c.lent-credential.ensures refl refl in
    passed_up c.from_residual-in_err-mark_used.result (finishes.Store c.in_err-mark_used.field-0.0) _ c.from_residual-in_err-mark_used.ensures.1
    (caused_since old mid _ _ _ _ _ _ _ _ c.in_ok-set.ensures.writes.quiet.counts
    (λ no. (
      at,
      sym c.as_ref.ensures.value ∙ ap option_copied c.unwrap-found.ensures,
      inr (λ placed holds there details d.
          let w = c.in_ok-set.ensures.written (c.in_err-mark_used.ensures.writes.quiet.clean clean) placed (row_view at.credential) holds there (ap (λ x. x.id) is) (ap (λ x. x.user) is) in
          subst (λ (k : ℕ → ℕ). ¬ IsStorableRow (k 5) (detail_row at.place (used (pos c.args.now) (finite.get details at.place)))) c.in_ok-set.ensures.writes.reals
          (subst (λ n. ¬ IsStorableRow (mid.reals 5) (detail_row at.place (used n (finite.get details at.place)))) (search rules)
          (no details (details_stay old mid _ details w d)))),
    )) (λ no. no) (c.in_err-mark_used.ensures.cause clean))
