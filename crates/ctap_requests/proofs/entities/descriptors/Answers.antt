-- What is owed of `descriptors`.
use Rattle.std.proofs.Common.{arith, ◌∙◌}
use Rattle.std.proofs.lemmas.Grind.{common_steps}
use Rattle.ctap_requests.proofs.entities.descriptors.Goals as goal

pub loop-item-preserved : goal.loop-item-preserved
loop-item-preserved c = grind (arith, common_steps, c.loop-item.invariant, c.in-Some.ensures.parts, c.in_ok-descriptor.ensures, c.in_ok-push.ensures.items)
    ∙ c.loop-item.invariant
