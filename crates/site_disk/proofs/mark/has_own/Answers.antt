-- What is owed of `has_own`.
use Rattle.std.proofs.Common.{ℕ, arith, below_more, sym, ◌∙◌}
use Rattle.std.proofs.lemmas.Bool.{false≢true}
use Rattle.site_disk.specs.Mark.{IsMarked}
use Rattle.site_disk.proofs.mark.has_own.Goals as goal

pub loop-i-preserved : goal.loop-i-preserved
loop-i-preserved c =
    below_more (λ j. ((follows : ℕ) × IsMarked c.args.log.now c.args.root j c.args.own follows) → ⊥) _ c.loop-i.invariant
    (λ is. false≢true (sym c.if-is_own.false ∙ c.is_own.ensures.1 is))

pub returns : goal.returns
returns c = (λ no. absurd (false≢true no), λ own. let lt = own.1 in let over = c.loop-i-test.false in absurd (c.loop-i.invariant own.0 (omega (arith, lt, over)) own.2))
