-- What is owed of `KeyDevice::expire`.
use Rattle.std.specs.Prelude.{option_map}
use Rattle.std.proofs.Common.{refl}
use Rattle.hidlink.specs.declared.transaction.DeviceEvent.TheVariants as events
use Rattle.key_pin.specs.State.{pin_view}
use Rattle.key_device.proofs.Passing.{expired_sound, expires}
use Rattle.key_device.proofs.Sound.{key}
use Rattle.key_device.proofs.key.KeyDevice.expire.Goals as goal

pub invariant_of-self : goal.invariant_of-self
invariant_of-self c =
    let k = c.self.inside in
    expired_sound c.expire.result (key k.device k.authenticator (option_map pin_view k.pin) k.stage k.pending) c.expire.new.self c.drain.new.device
    c.self.invariant c.expire.ensures.expired c.expire.ensures.idle c.expire.ensures.same c.expire.ensures.history c.drain.ensures.device

pub returns-clause-expired : goal.returns-clause-expired
returns-clause-expired c =
    let k = c.self.inside in
    rw (← c.self.view_is) (
      events.Quiet,
      refl,
      expires k.device c.expire.new.self c.drain.new.device k.authenticator c.args.out.now.items c.make_room.new.out.items c.drain.new.out.items
          c.self.invariant.drained c.expire.ensures.sent c.expire.ensures.history c.drain.ensures.device c.make_room.ensures.items c.drain.ensures.out,
      refl,
    )
