-- What is owed of `handle`.
use Rattle.agreement.proofs.Acted.{answers}
use Rattle.agreement.proofs.acting.handle.Goals as goal

pub returns : goal.returns
returns g c = answers (g.S.Verifier.valid c.args.scheme.now) (g.S.Signer.public_of c.args.scheme.now) _ _ c.args.channel c.args.request.now c.args.consent c.args.words (λ x. x.items) c.handle.result c.handle.ensures.stepped
