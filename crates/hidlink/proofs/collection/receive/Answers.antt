-- What is owed of `receive`.
use Rattle.std.proofs.Common.{subst}
use Rattle.hidlink.specs.Wire.{Holds}
use Rattle.hidlink.proofs.Reception.{receives}
use Rattle.hidlink.proofs.Taken.{died}
use Rattle.hidlink.proofs.collection.receive.Goals as goal

pub received_after-requires : goal.received_after-requires
received_after-requires c = λ kind e.
    let k = c.feed_all-used.ensures in
    let h = subst (Holds c.args.collector.now.cid c.args.packets.now) e k.got.holds in
    (died c.args.collector.now.cid c.feed_all-used.result c.args.packets.now h.0 kind h.1 h.2 k.taken).0

pub returns : goal.returns
returns c = receives c.args.collector.now.cid c.feed_all-used.result c.args.packets.now _ _ c.feed_all-used.ensures.got c.feed_all-used.ensures.taken
    c.received_after.ensures
