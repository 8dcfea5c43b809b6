-- What the loop of `tell_packets` keeps.
use Rattle.std.proofs.Common.{◌≡◌, ◌++◌, take}
use Rattle.key_program.specs.Told.{packet_lines}
use Rattle.key_program.proofs.telling.tell_packets.Given as goal

abbrev pub invariant-loop-packet : goal.invariant-loop-packet
invariant-loop-packet l = l.told.items ≡ l.fn.told.items ++ packet_lines (take l.packet-index l.packets)
