-- What is owed of `KeyDevice::wait`.
use Rattle.std.proofs.Common.{refl}
use Rattle.hidlink.specs.declared.transaction.DeviceEvent.TheVariants as events
use Rattle.key_device.proofs.Passing.{waits}
use Rattle.key_device.proofs.key.KeyDevice.wait.Goals as goal

pub returns-in-Ok-clause-waited : goal.returns-in-Ok-clause-waited
returns-in-Ok-clause-waited c =
    let k = c.self.inside in
    rw (← c.self.view_is) (
      events.Quiet,
      refl,
      waits k.device c.keepalive.new.self c.drain.new.device k.authenticator c.args.out.now.items c.make_room.new.out.items c.drain.new.out.items
          c.self.invariant.drained c.in-Ok.ensures.ok c.keepalive.ensures.sent c.keepalive.ensures.history c.drain.ensures.device c.make_room.ensures.items
          c.drain.ensures.out,
      refl,
    )
