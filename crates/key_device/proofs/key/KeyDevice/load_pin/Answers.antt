-- What is owed of `KeyDevice::load_pin`.
use Rattle.std.specs.Prelude.{option_map}
use Rattle.std.proofs.Common.{None, Some, ap, refl, subst, sym}
use Rattle.key_pin.specs.State.{pin_view}
use Rattle.key_device.specs.Key.{Fits}
use Rattle.key_device.specs.declared.stage.Stage.{Stage}
use Rattle.key_device.proofs.Fitting.{fits_anew}
use Rattle.key_device.proofs.Sound.{key, unpending}
use Rattle.key_device.proofs.key.KeyDevice.load_pin.Goals as goal

pub invariant_of-self : goal.invariant_of-self
invariant_of-self c =
    let k = c.self.inside in
    let pin = Some (pin_view c.in_ok-load.field-0) in
    unpending k.device k.authenticator pin c.put_aside.new.stage None c.self.invariant.drained c.self.invariant.history
    (subst (λ (s : Stage). Fits pin k.device.state s) (sym c.put_aside.ensures)
    (fits_anew (option_map pin_view k.pin) pin k.device.state k.stage c.self.invariant.stage)) refl

pub returns-clause-loaded : goal.returns-clause-loaded
returns-clause-loaded c =
    let k = c.self.inside in
    let l = c.in_ok-load.ensures.loaded in
    let pin = pin_view c.in_ok-load.field-0 in
    rw (← c.self.view_is) (pin, l.0, l.1, l.2, ap (λ (s : Stage). key k.device k.authenticator (Some pin) s None) c.put_aside.ensures)
