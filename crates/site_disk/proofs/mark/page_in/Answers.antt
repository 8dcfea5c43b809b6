-- What is owed of `page_in`.
use Rattle.site_disk.proofs.Frames.{page_is}
use Rattle.site_disk.proofs.mark.page_in.Goals as goal

pub returns : goal.returns
returns c = page_is c.args.log.now c.args.i
