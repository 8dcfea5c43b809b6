-- What is owed of `register`.
use Rattle.agreement.proofs.Acted.{registers_by}
use Rattle.agreement.proofs.acting.register.Goals as goal

pub returns : goal.returns
returns g c = registers_by (g.V.Verifier.valid c.args.verifier.now) _ _ c.args.session c.args.cid c.args.packets.now c.args.client_data.now c.register.result c.register.ensures.accepted c.register.ensures.after
