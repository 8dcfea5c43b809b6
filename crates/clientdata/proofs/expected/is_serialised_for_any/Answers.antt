-- What is owed of `is_serialised_for_any`.
use Rattle.std.proofs.Common.{Bool, List, ℕ, rules}
use Rattle.clientdata.specs.Expected.{IsAfterChallenge}
use Rattle.clientdata.specs.Serialised.{MayCross}
use Rattle.clientdata.proofs.Lists.{none_such, none_yet}
use Rattle.clientdata.proofs.expected.is_serialised_for_any.Goals as goal

pub loop-origin-preserved : goal.loop-origin-preserved
loop-origin-preserved c =
    let Is : List ℕ → Type 0 = λ origin. (cross : Bool) × MayCross c.args.takes_cross cross × IsAfterChallenge origin cross c.in-Some.rest.now in
    none_yet Is c.args.origins.now c.loop-origin.origin-index c.origin-item.result c.loop-origin-test.true c.origin-item.is
    (λ h. let told = c.ends.ensures.told.1 h in let not = c.if-ends.false in absurd cc) c.loop-origin.invariant

pub returns : goal.returns
returns c =
    let Is : List ℕ → Type 0 = λ origin. (cross : Bool) × MayCross c.args.takes_cross cross × IsAfterChallenge origin cross c.in-Some.rest.now in (
      λ h. search rules,
      λ h. absurd (none_such Is c.args.origins.now c.loop-origin.origin-index h.0 c.loop-origin-test.false c.loop-origin.invariant h.3
          (h.1, h.2, (c.in-Some.ensures h.0 h.1).0 h.5)),
    )
