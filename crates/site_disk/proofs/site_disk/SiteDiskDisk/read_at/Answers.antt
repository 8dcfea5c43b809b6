-- What is owed of `read_at`.
use Rattle.site_disk.proofs.site_disk.SiteDiskDisk.read_at.Goals as goal
use Rattle.std.proofs.Common.{sym, subst}
use Rattle.std.specs.Prelude.{OnOk, IsTrue, ◌<◌, length}
use Rattle.sqlite_disk.specs.Disk.{Holds}
use Rattle.site_disk.specs.Kind.{by_kind}

pub returns-in-Usual-clause-read : goal.returns-in-Usual-clause-read
returns-in-Usual-clause-read g c =
    subst (λ was. OnOk c.read_at.result (IsTrue (g.A.Disk.is_clean c.read_at.new.self) → 0 < length c.args.buf.now → Holds (by_kind g.A.Disk.seen g.B.Disk.seen was) c.args.at c.read_at.new.buf))
    (sym c.in-Usual.is) c.read_at.ensures.read

pub returns-in-Wary-clause-read : goal.returns-in-Wary-clause-read
returns-in-Wary-clause-read g c =
    subst (λ was. OnOk c.read_at-in-Wary.result (IsTrue (g.B.Disk.is_clean c.read_at-in-Wary.new.self) → 0 < length c.args.buf.now → Holds (by_kind g.A.Disk.seen g.B.Disk.seen was) c.args.at c.read_at-in-Wary.new.buf))
    (sym c.in-Wary.is) c.read_at-in-Wary.ensures.read
