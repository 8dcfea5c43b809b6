-- What is owed of `first_mark`.
use Rattle.std.proofs.Common.{ℕ, arith, below_more}
use Rattle.site_disk.specs.Mark.{IsMarked}
use Rattle.site_disk.proofs.mark.first_mark.Goals as goal

pub loop-i-preserved : goal.loop-i-preserved
loop-i-preserved c =
    below_more (λ i. (mark follows : ℕ) → IsMarked c.args.log.now c.args.root i mark follows → ⊥) _ c.loop-i.invariant (grind arith)

pub returns : goal.returns
returns c i lt = let over = c.loop-i-test.false in c.loop-i.invariant i (omega (arith, lt, over))
