-- What is owed of `is_own`.
use Rattle.std.proofs.lemmas.Bool.{false≢true}
use Rattle.site_disk.proofs.mark.is_own.Goals as goal

pub returns-in-None : goal.returns-in-None
returns-in-None c = (λ no. absurd (false≢true no), λ is. absurd (c.in-None.ensures c.args.own is.0 is.1))
