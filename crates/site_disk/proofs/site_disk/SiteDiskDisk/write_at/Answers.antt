-- What is owed of `write_at`.
use Rattle.site_disk.proofs.Staying.{usual_stays, wary_stays}
use Rattle.site_disk.proofs.site_disk.SiteDiskDisk.write_at.Goals as goal

pub returns-in-Usual-clause-frozen : goal.returns-in-Usual-clause-frozen
returns-in-Usual-clause-frozen g c =
    usual_stays g.A.Disk g.B.Disk c.write_at.result c.args.self.now c.in-Usual.disk c.write_at.new.self c.in-Usual.is c.write_at.ensures.frozen

pub returns-in-Wary-clause-frozen : goal.returns-in-Wary-clause-frozen
returns-in-Wary-clause-frozen g c =
    wary_stays g.A.Disk g.B.Disk c.write_at-in-Wary.result c.args.self.now c.in-Wary.disk c.write_at-in-Wary.new.self c.in-Wary.is c.write_at-in-Wary.ensures.frozen
