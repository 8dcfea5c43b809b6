-- What is owed of `count_rows`.
use Rattle.std.proofs.Common.{◌≤◌, ◌+◌, length, ap, subst, sym, ◌∙◌, rules, arith}
use Rattle.std.specs.List.{AllByRecursion}
use Rattle.site_rows.proofs.Seeks.{some_of}
use Rattle.site_stored.specs.Private.{IsUpTo}
use Rattle.site_stored.proofs.Counting.{left_of_max, right_of_max}
use Rattle.site_stored.proofs.open.count_rows.Goals as goal

pub loop-count-preserved : goal.loop-count-preserved
loop-count-preserved g c = (
  search rules,
  search rules,
  search rules,
  λ clean.
      let inv = c.loop-count.invariant.3 (c.in_ok-place.ensures.reads.same.clean clean) in
      let step = some_of c.in_ok-place.field-0 c.in-Some.place _ c.in-Some.is c.in_ok-place.ensures.place clean inv.0 inv.1 in
      let count = inv.2 ∙ ap (λ l. c.loop-count.count + length l) step.1 in (
        step.0,
        step.2,
        omega (arith, count),
        λ most le all.
            let low = subst (λ n. n ≤ most) c.max-last.ensures le in
            inv.3 most (left_of_max c.loop-count.last c.in-Some.place most low)
            (subst (AllByRecursion (IsUpTo most)) (sym step.1)
            ((λ p d is. let here = step.3 p d is in let there = right_of_max c.loop-count.last c.in-Some.place most low in omega (arith, here, there)), all)),
      ),
  search rules,
  search rules,
)
