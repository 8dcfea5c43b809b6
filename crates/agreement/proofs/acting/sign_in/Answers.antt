-- What is owed of `sign_in`.
use Rattle.agreement.proofs.Acted.{signs_in_by}
use Rattle.agreement.proofs.acting.sign_in.Goals as goal

pub returns : goal.returns
returns g c = signs_in_by (g.V.Verifier.valid c.args.verifier.now) _ _ c.args.session c.args.cid c.args.packets.now c.args.client_data.now c.sign_in.result c.sign_in.ensures.accepted c.sign_in.ensures.after
