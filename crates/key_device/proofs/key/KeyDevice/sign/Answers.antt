-- What is owed of `KeyDevice::sign`.
use Rattle.std.specs.Prelude.{option_map}
use Rattle.std.proofs.Common.{◌∙◌, Err, ap, inr, sym}
use Rattle.std.proofs.lemmas.Result.{err_from_is_err_and}
use Rattle.key_pin.specs.State.{pin_view}
use Rattle.key_device.specs.Key.{KeyDeviceState}
use Rattle.key_device.proofs.Decided.{has_some, only_memory, signed, signed_sound, works_for}
use Rattle.key_device.proofs.Sound.{key}
use Rattle.key_device.proofs.key.KeyDevice.sign.Goals as goal

pub invariant_of-self-2 : goal.invariant_of-self-2
invariant_of-self-2 c =
    let k = c.self.inside in
    let old : KeyDeviceState = key k.device k.authenticator (option_map pin_view k.pin) k.stage k.pending in
    let f = c.finish_serving.new in
    signed_sound old f.device f.authenticator c.in-Some.pending c.args.signature.now c.args.out.now.items f.out.items c.take.new.self c.self.invariant
    c.in_ok-finish_serving.ensures.finished c.finish_serving.ensures.drained c.take.ensures.after

pub returns-clause-signed : goal.returns-clause-signed
returns-clause-signed c =
    let k = c.self.inside in
    let old : KeyDeviceState = key k.device k.authenticator (option_map pin_view k.pin) k.stage k.pending in
    let f = c.finish_serving.new in
    rw (← c.self.view_is) (signed old f.device f.authenticator c.in-Some.pending c.args.signature.now c.args.out.now.items f.out.items c.take.new.self
    c.self.invariant (sym c.take.ensures.value ∙ c.in-Some.is) c.take.ensures.after c.requires.low c.requires.high c.in_ok-finish_serving.ensures.finished)

pub returns-in_err-finish_serving-clause-memory : goal.returns-in_err-finish_serving-clause-memory
returns-in_err-finish_serving-clause-memory c =
    let k = c.self.inside in
    let old : KeyDeviceState = key k.device k.authenticator (option_map pin_view k.pin) k.stage k.pending in
    let is = sym c.take.ensures.value ∙ c.in-Some.is in
    let e = c.in_err-finish_serving.field-0.0 in
    let p = err_from_is_err_and c.from_residual.result c.from_residual.ensures.1 in
    rw (← c.self.view_is) (rw (p.1, p.2) (inr (
      ap Err (only_memory e (λ n. c.in_err-finish_serving.ensures.not_working (ap Err n)
          (works_for old c.in-Some.pending c.self.invariant is))),
      has_some k.pending c.in-Some.pending is,
    )))
