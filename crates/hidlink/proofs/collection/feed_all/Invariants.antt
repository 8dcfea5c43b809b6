-- What the loop of `feed_all` keeps.
use Rattle.std.proofs.Common.{◌≡◌, take}
use Rattle.hidlink.specs.Receives.{IsTaken}
use Rattle.hidlink.specs.Wire.{Got}
use Rattle.hidlink.proofs.collection.feed_all.Given as goal

abbrev pub invariant-loop-packet : goal.invariant-loop-packet
invariant-loop-packet l = record {
  channel : l.collector.cid ≡ l.initial.collector.cid;
  got : Got l.initial.collector.cid (take l.packet-index l.packets) l.collector.shown;
  taken : IsTaken l.initial.collector.cid (take l.packet-index l.packets) l.used;
}
