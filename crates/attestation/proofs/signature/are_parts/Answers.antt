-- What is owed of `are_parts`.
use Rattle.attestation.proofs.Listed.{drop_next, part_more}
use Rattle.attestation.proofs.signature.are_parts.Goals as goal

pub loop-part-preserved : goal.loop-part-preserved
loop-part-preserved c =
    part_more c.args.bytes.now c.loop-part.rest.now c.in-Some.more.now c.args.parts.now c.loop-part.part-index _
    (drop_next _ _ _ c.loop-part-test.true) c.in-Some.ensures c.loop-part.invariant
