-- What is owed of `KeyDevice::end_token`.
use Rattle.std.specs.Prelude.{option_map}
use Rattle.key_pin.specs.State.{pin_view}
use Rattle.key_device.proofs.Keeping.{token_ended}
use Rattle.key_device.proofs.key.KeyDevice.end_token.Goals as goal

pub invariant_of-self : goal.invariant_of-self
invariant_of-self c =
    let k = c.self.inside in
    token_ended k.device k.authenticator (option_map pin_view k.pin) (option_map pin_view c.end_token_of.new.pin) k.stage k.pending
    c.end_token_of.ensures c.self.invariant
