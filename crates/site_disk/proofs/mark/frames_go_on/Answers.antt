-- What is owed of `frames_go_on`.
use Rattle.std.proofs.Common.{subst, refl}
use Rattle.std.specs.Prelude.{length}
use Rattle.site_disk.specs.Mark.{Joins}
use Rattle.site_disk.proofs.Marks.{one_first}
use Rattle.site_disk.proofs.mark.frames_go_on.Goals as goal

pub returns-in-None : goal.returns-in-None
returns-in-None c = (λ yes mark follows first. absurd (c.in-None.ensures first.at first.within mark follows first.has), λ all. refl)

pub returns-in-Some : goal.returns-in-Some
returns-in-Some c =
    let log = c.args.log.now in
    let frames = length c.args.numbers.now in
    let found = c.in-Some.first in (
      λ yes mark follows first.
          subst (λ f. Joins log c.args.root frames f c.args.file) (one_first log c.args.root frames _ _ _ _ c.in-Some.ensures first) (c.joins.ensures.0 yes),
      λ all. c.joins.ensures.1 (all found.mark found.follows c.in-Some.ensures),
    )
