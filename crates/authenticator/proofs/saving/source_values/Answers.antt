-- What is owed of `source_values`.
use Rattle.std.proofs.Common.{◌+◌, [], ◌∷◌, ap, sym, ◌∙◌, subst, map, take}
use Rattle.std.proofs.lemmas.List.{map-append}
use Rattle.ccbor.specs.View.{view}
use Rattle.authenticator.specs.Views.{credential_sources_view}
use Rattle.authenticator.proofs.SavedValues.{AreValues, next_value}
use Rattle.authenticator.proofs.saving.source_values.Goals as goal

pub loop-credential-preserved : goal.loop-credential-preserved
loop-credential-preserved c =
    let l = c.loop-credential in
    let value = c.in_ok-source_value.field-0 in
    let made = c.in_ok-source_value.ensures in
    let pushed = ap (map view) c.in_ok-push.ensures.items ∙ map-append view l.values.items (value ∷ []) in
    subst (AreValues (credential_sources_view (take (l.credential-index + 1) c.args.credentials.now))) (sym pushed)
    (next_value c.args.credentials.now l.credential-index c.credential-item.result (map view l.values.items) (view value) c.loop-credential-test.true
    (sym c.credential-item.is) l.invariant made.source made.fits made.value)
