-- What is owed of `restore`.
use Rattle.agreement.proofs.Acted.{restores}
use Rattle.agreement.proofs.acting.restore.Goals as goal

pub returns : goal.returns
returns c = λ was. restores c.args.site.now _ c.args.table c.args.sessions (c.restore.ensures.after was)
