-- What is owed of `read_credential`.
use Rattle.std.proofs.Common.{◌≡◌, ap, sym, ◌∙◌}
use Rattle.std.proofs.lemmas.Option.{same_Some}
use Rattle.cose.specs.Keys.{lent_key_view}
use Rattle.verification.specs.Views.{credential_view}
use Rattle.site_rows.specs.Rows.{credential_row}
use Rattle.site_rows.proofs.credentials.read_credential.Goals as goal

-- what is seen of a credential's row is that credential, whose row was compared
pub returns-then-not-branch-clause-none : goal.returns-then-not-branch-clause-none
returns-then-not-branch-clause-none c = λ _ d stored is.
    let key : lent_key_view c.in-Some.key ≡ d.key = same_Some _ _ (c.in-Some.ensures c.args.place d stored.key is) in
    let same : credential_view c.in-Some-seen.found ≡ d = same_Some _ _ (c.in-Some-seen.ensures c.args.place d stored.sign_count key is) in
    let yes = c.in_ok-is_row_of.ensures.1 (is ∙ ap (credential_row c.args.place) (sym same)) in
    let no = c.if-not-branch.true in
    absurd cc
