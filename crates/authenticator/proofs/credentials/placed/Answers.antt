-- What is owed of `placed`.
use Rattle.std.proofs.Common.{Some, sym, ap, ◌∙◌}
use Rattle.authenticator.specs.Views.{credential_source_view}
use Rattle.authenticator.specs.declared.credential.StoredCredential.{StoredCredential}
use Rattle.authenticator.proofs.Store.{stands_at, stands_nowhere}
use Rattle.authenticator.proofs.credentials.placed.Goals as goal

pub returns-in_err-place : goal.returns-in_err-place
returns-in_err-place c = rw c.from_residual.ensures (stands_nowhere c.args.id.now c.args.credentials.now (sym c.in_err-place.ensures))

pub returns : goal.returns
returns c =
    let s = stands_at c.args.id.now c.args.credentials.now c.in_ok-place.place c.index-credentials-place.result (sym c.in_ok-place.ensures) in
    (s.0, s.1 ∙ ap (λ (y : StoredCredential). Some (credential_source_view y)) (sym c.index-credentials-place.is))
