-- What is owed of `reload`.
use Rattle.agreement.proofs.Acted.{reloads}
use Rattle.agreement.proofs.acting.reload.Goals as goal

pub returns : goal.returns
returns c = reloads c.args.bytes.now c.load.result c.load.ensures.loaded
