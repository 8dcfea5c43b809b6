-- What is owed of `tell_packets`.
use Rattle.key_program.proofs.Pieces.{one_more}
use Rattle.key_program.proofs.telling.tell_packets.Goals as goal

pub loop-packet-preserved : goal.loop-packet-preserved
loop-packet-preserved c = one_more _ _ _ c.args.packets.now _ _ c.loop-packet-test.true c.loop-packet.invariant c.in_ok-tell_packet.ensures
