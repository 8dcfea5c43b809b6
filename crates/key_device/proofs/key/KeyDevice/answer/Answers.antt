-- What is owed of `KeyDevice::answer`.
use Rattle.std.specs.Prelude.{option_map}
use Rattle.std.proofs.Common.{◌≡◌, ◌∙◌, Some, inl, inr, refl, subst, sym}
use Rattle.pin_protocols.specs.Asks.{entries}
use Rattle.key_pin.specs.State.{pin_view}
use Rattle.key_device.specs.Acts.{WantsAnswer}
use Rattle.key_device.specs.Key.{Fits, KeyDeviceState}
use Rattle.key_device.specs.declared.error.KeyError.TheVariants as errors
use Rattle.key_device.specs.declared.stage.Stage.{Stage}
use Rattle.key_device.specs.declared.stage.Stage.TheVariants as stages
use Rattle.key_device.proofs.Fitting.{some_pin, takes_pins, words_of}
use Rattle.key_device.proofs.Sound.{computed_sound, key, unpending}
use Rattle.key_device.proofs.Taking.{answer_taken, answer_wanted, one_error}
use Rattle.key_device.proofs.Waiting.{none_handed}
use Rattle.key_device.proofs.key.KeyDevice.answer.Goals as goal

pub compute_on-requires-clause-takes : goal.compute_on-requires-clause-takes
compute_on-requires-clause-takes c =
    let k = c.self.inside in
    let pin = option_map pin_view k.pin in
    let at : k.stage ≡ stages.Answer c.in-Answer.request c.in-Answer.computation = sym c.take.ensures.taken ∙ c.in-Answer.is in
    let s = takes_pins pin k.device.state c.in-Answer.request (words_of pin k.device.state c.in-Answer.request c.in-Answer.computation
    (subst (λ (s : Stage). Fits pin k.device.state s) at c.self.invariant.stage)) in
    some_pin k.pin s.0 s.1

pub invariant_of-self : goal.invariant_of-self
invariant_of-self c =
    let k = c.self.inside in
    let i = c.self.invariant in
    let n = c.compute_on.new in
    let e = c.compute_on.ensures in
    let pin = option_map pin_view k.pin in
    let old : KeyDeviceState = key k.device k.authenticator pin k.stage k.pending in
    let r = c.in-Answer.request in
    let m = c.in-Answer.computation in
    let at : k.stage ≡ stages.Answer r m = sym c.take.ensures.taken ∙ c.in-Answer.is in
    computed_sound c.compute_on.result k.device n.device k.authenticator pin (option_map pin_view n.pin) r m.words (entries c.add.new.self) c.in-Some.cid
    n.stage k.pending c.make_room.new.out.items n.out.items i.drained i.history
    (words_of pin k.device.state r m (subst (λ (s : Stage). Fits pin k.device.state s) at i.stage))
    (none_handed old (stages.Answer r m) k.pending at (λ pin bs consent. refl) i.waiting) e.drained e.computed e.undone e.stage e.device

pub returns-in-Ok-clause-taken : goal.returns-in-Ok-clause-taken
returns-in-Ok-clause-taken c =
    let k = c.self.inside in
    let n = c.compute_on.new in
    let old : KeyDeviceState = key k.device k.authenticator (option_map pin_view k.pin) k.stage k.pending in
    let r = c.in-Answer.request in
    let m = c.in-Answer.computation in
    let at : k.stage ≡ stages.Answer r m = sym c.take.ensures.taken ∙ c.in-Answer.is in
    rw (← c.self.view_is) (answer_taken old r m.words c.in-Some.cid c.args.out.now.items c.make_room.new.out.items n.out.items n.device (option_map pin_view n.pin) n.stage
    m c.args.answer.items (entries c.add.new.self) c.compute_on.result at (sym c.working.ensures ∙ c.in-Some.is) c.make_room.ensures.items c.in-Ok.ensures.kept refl
    c.compute_on.ensures.computed)

pub returns-in-Ok-clause-memory : goal.returns-in-Ok-clause-memory
returns-in-Ok-clause-memory c =
    let k = c.self.inside in
    let n = c.compute_on.new in
    let e = c.compute_on.ensures in
    let old : KeyDeviceState = key k.device k.authenticator (option_map pin_view k.pin) k.stage k.pending in
    let r = c.in-Answer.request in
    let m = c.in-Answer.computation in
    let at : k.stage ≡ stages.Answer r m = sym c.take.ensures.taken ∙ c.in-Answer.is in
    rw (← c.self.view_is) (answer_wanted old r m.words c.in-Some.cid c.args.out.now.items c.make_room.new.out.items n.out.items n.device (option_map pin_view n.pin) n.stage
    m c.args.answer.items (entries c.add.new.self) c.compute_on.result at c.in-Ok.ensures.kept refl e.undone e.stage e.device)

pub returns-in-Ok-clause-not_asking : goal.returns-in-Ok-clause-not_asking
returns-in-Ok-clause-not_asking c = λ e.
    absurd (let same : errors.Memory ≡ errors.NotAsking = one_error c.compute_on.result errors.Memory errors.NotAsking c.compute_on.ensures.memory e in cc)

pub returns-in-Ok-clause-unchanged : goal.returns-in-Ok-clause-unchanged
returns-in-Ok-clause-unchanged c = λ e.
    absurd (let same : errors.Memory ≡ errors.NotAsking = one_error c.compute_on.result errors.Memory errors.NotAsking c.compute_on.ensures.memory e in cc)

pub invariant_of-self-in-Err-1 : goal.invariant_of-self-in-Err-1
invariant_of-self-in-Err-1 c =
    let k = c.self.inside in
    let i = c.self.invariant in
    let pin = option_map pin_view k.pin in
    let old : KeyDeviceState = key k.device k.authenticator pin k.stage k.pending in
    let r = c.in-Answer.request in
    let m = c.in-Answer.computation in
    let at : k.stage ≡ stages.Answer r m = sym c.take.ensures.taken ∙ c.in-Answer.is in
    unpending k.device k.authenticator pin (stages.Words r) k.pending i.drained i.history
    (words_of pin k.device.state r m (subst (λ (s : Stage). Fits pin k.device.state s) at i.stage))
    (none_handed old (stages.Answer r m) k.pending at (λ pin bs consent. refl) i.waiting)

pub returns-in-Err-clause-memory : goal.returns-in-Err-clause-memory
returns-in-Err-clause-memory c =
    let k = c.self.inside in
    let pin = option_map pin_view k.pin in
    let old : KeyDeviceState = key k.device k.authenticator pin k.stage k.pending in
    let r = c.in-Answer.request in
    let m = c.in-Answer.computation in
    let at : k.stage ≡ stages.Answer r m = sym c.take.ensures.taken ∙ c.in-Answer.is in
    rw (← c.self.view_is) (subst (λ (s : Stage). WantsAnswer s old c.args.answer.items (key k.device k.authenticator pin (stages.Words r) k.pending)) (sym at)
    (inr (inl refl)))
