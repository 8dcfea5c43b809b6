-- What is owed of `Device::packet`.
use Rattle.hidframe.specs.Packets.{Initial, Continuation}
use Rattle.hidlink.proofs.Calls.{took}
use Rattle.hidlink.proofs.Telling.{does_tell}
use Rattle.hidlink.proofs.transaction.Device.packet.Goals as goal

pub returns-in-Init-clause-history : goal.returns-in-Init-clause-history
returns-in-Init-clause-history c =
    took c.args.self.now c.initial.new.self c.args.packet.now
    (Initial c.in-Init.cid c.in-Init.cmd c.in-Init.len c.in-Init.bytes.now) c.initial.result c.in-Init.ensures.says c.initial.ensures.does

pub returns-in-Init-clause-told : goal.returns-in-Init-clause-told
returns-in-Init-clause-told c =
    does_tell c.args.self.now c.initial.new.self c.args.packet.now
    (Initial c.in-Init.cid c.in-Init.cmd c.in-Init.len c.in-Init.bytes.now) c.initial.result c.in-Init.ensures.says c.initial.ensures.does

pub returns-in-Cont-clause-history : goal.returns-in-Cont-clause-history
returns-in-Cont-clause-history c =
    took c.args.self.now c.continuation.new.self c.args.packet.now
    (Continuation c.in-Cont.cid c.in-Cont.seq c.in-Cont.bytes.now) c.continuation.result c.in-Cont.ensures.says c.continuation.ensures.does

pub returns-in-Cont-clause-told : goal.returns-in-Cont-clause-told
returns-in-Cont-clause-told c =
    does_tell c.args.self.now c.continuation.new.self c.args.packet.now
    (Continuation c.in-Cont.cid c.in-Cont.seq c.in-Cont.bytes.now) c.continuation.result c.in-Cont.ensures.says c.continuation.ensures.does
