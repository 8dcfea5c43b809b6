-- What is owed of `set_len`.
use Rattle.site_disk.proofs.Staying.{usual_stays, wary_stays}
use Rattle.site_disk.proofs.site_disk.SiteDiskDisk.set_len.Goals as goal

pub returns-in-Usual-clause-frozen : goal.returns-in-Usual-clause-frozen
returns-in-Usual-clause-frozen g c =
    usual_stays g.A.Disk g.B.Disk c.set_len.result c.args.self.now c.in-Usual.disk c.set_len.new.self c.in-Usual.is c.set_len.ensures.frozen

pub returns-in-Wary-clause-frozen : goal.returns-in-Wary-clause-frozen
returns-in-Wary-clause-frozen g c =
    wary_stays g.A.Disk g.B.Disk c.set_len-in-Wary.result c.args.self.now c.in-Wary.disk c.set_len-in-Wary.new.self c.in-Wary.is c.set_len-in-Wary.ensures.frozen
