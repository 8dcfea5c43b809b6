-- What is owed of `KeyDevice::compute`.
use Rattle.std.specs.Prelude.{option_map}
use Rattle.std.proofs.Common.{◌≡◌, ◌∙◌, Some, refl, subst, sym}
use Rattle.pin_protocols.specs.Asks.{entries}
use Rattle.key_pin.specs.State.{pin_view}
use Rattle.security_key.proofs.Acting.{works}
use Rattle.key_device.specs.Acts.{TakesWords}
use Rattle.key_device.specs.Key.{Fits, KeyDeviceState}
use Rattle.key_device.specs.declared.error.KeyError.TheVariants as errors
use Rattle.key_device.specs.declared.stage.Stage.{Stage}
use Rattle.key_device.specs.declared.stage.Stage.TheVariants as stages
use Rattle.key_device.proofs.Fitting.{some_pin, takes_pins}
use Rattle.key_device.proofs.Sound.{computed_sound, key, read_sound}
use Rattle.key_device.proofs.Taking.{one_error, reads_on, words_taken, words_wanted}
use Rattle.key_device.proofs.Waiting.{none_handed}
use Rattle.key_device.proofs.key.KeyDevice.compute.Goals as goal

pub compute_on-requires-clause-takes : goal.compute_on-requires-clause-takes
compute_on-requires-clause-takes c =
    let k = c.self.inside in
    let pin = option_map pin_view k.pin in
    let at : k.stage ≡ stages.Words c.in-Words.request = sym c.take.ensures.taken ∙ c.in-Words.is in
    let s = takes_pins pin k.device.state c.in-Words.request (subst (λ (s : Stage). Fits pin k.device.state s) at c.self.invariant.stage) in
    some_pin k.pin s.0 s.1

pub invariant_of-self : goal.invariant_of-self
invariant_of-self c =
    let k = c.self.inside in
    let i = c.self.invariant in
    let n = c.compute_on.new in
    let e = c.compute_on.ensures in
    let pin = option_map pin_view k.pin in
    let old : KeyDeviceState = key k.device k.authenticator pin k.stage k.pending in
    let r = c.in-Words.request in
    let at : k.stage ≡ stages.Words r = sym c.take.ensures.taken ∙ c.in-Words.is in
    computed_sound c.compute_on.result k.device n.device k.authenticator pin (option_map pin_view n.pin) r c.args.words (entries c.new.result) c.in-Some.cid
    n.stage k.pending c.make_room.new.out.items n.out.items i.drained i.history (subst (λ (s : Stage). Fits pin k.device.state s) at i.stage)
    (none_handed old (stages.Words r) k.pending at (λ pin bs consent. refl) i.waiting) e.drained e.computed e.undone e.stage e.device

pub returns-in-Words-clause-taken : goal.returns-in-Words-clause-taken
returns-in-Words-clause-taken c =
    let k = c.self.inside in
    let n = c.compute_on.new in
    let old : KeyDeviceState = key k.device k.authenticator (option_map pin_view k.pin) k.stage k.pending in
    let r = c.in-Words.request in
    let at : k.stage ≡ stages.Words r = sym c.take.ensures.taken ∙ c.in-Words.is in
    rw (← c.self.view_is) (words_taken old r c.args.words c.in-Some.cid c.args.out.now.items c.make_room.new.out.items n.out.items n.device (option_map pin_view n.pin) n.stage
    (entries c.new.result) c.compute_on.result at (sym c.working.ensures ∙ c.in-Some.is) c.make_room.ensures.items c.new.ensures c.compute_on.ensures.computed)

pub returns-in-Words-clause-memory : goal.returns-in-Words-clause-memory
returns-in-Words-clause-memory c =
    let k = c.self.inside in
    let n = c.compute_on.new in
    let e = c.compute_on.ensures in
    let old : KeyDeviceState = key k.device k.authenticator (option_map pin_view k.pin) k.stage k.pending in
    let r = c.in-Words.request in
    let at : k.stage ≡ stages.Words r = sym c.take.ensures.taken ∙ c.in-Words.is in
    rw (← c.self.view_is) (words_wanted old r c.args.words c.in-Some.cid c.args.out.now.items c.make_room.new.out.items n.out.items n.device (option_map pin_view n.pin) n.stage
    (entries c.new.result) c.compute_on.result at c.new.ensures e.undone e.stage e.device)

pub returns-in-Words-clause-not_computing : goal.returns-in-Words-clause-not_computing
returns-in-Words-clause-not_computing c = λ e.
    absurd (let same : errors.Memory ≡ errors.NotComputing = one_error c.compute_on.result errors.Memory errors.NotComputing c.compute_on.ensures.memory e in cc)

pub returns-in-Words-clause-unchanged : goal.returns-in-Words-clause-unchanged
returns-in-Words-clause-unchanged c = λ e.
    absurd (let same : errors.Memory ≡ errors.NotComputing = one_error c.compute_on.result errors.Memory errors.NotComputing c.compute_on.ensures.memory e in cc)

pub invariant_of-self-in-Unread : goal.invariant_of-self-in-Unread
invariant_of-self-in-Unread c =
    let k = c.self.inside in
    let i = c.self.invariant in
    let n = c.read.new in
    let pin = option_map pin_view k.pin in
    let old : KeyDeviceState = key k.device k.authenticator pin k.stage k.pending in
    let at : k.stage ≡ stages.Unread = sym c.take.ensures.taken ∙ c.in-Unread.is in
    read_sound k.device n.device k.authenticator pin n.stage k.pending c.in-Some.cid c.read.result c.make_room.new.out.items n.out.items i.drained i.history
    (works k.device.state c.in-Some.cid (sym c.working.ensures ∙ c.in-Some.is))
    (none_handed old stages.Unread k.pending at (λ pin bs consent. refl) i.waiting) c.read.ensures.read c.read.ensures.drained

pub returns-in-Unread-clause-taken : goal.returns-in-Unread-clause-taken
returns-in-Unread-clause-taken c =
    let k = c.self.inside in
    let n = c.read.new in
    let old : KeyDeviceState = key k.device k.authenticator (option_map pin_view k.pin) k.stage k.pending in
    let at : k.stage ≡ stages.Unread = sym c.take.ensures.taken ∙ c.in-Unread.is in
    rw (← c.self.view_is) (subst (λ (s : Stage). TakesWords s old c.args.words c.args.out.now.items c.read.result
    (key n.device k.authenticator (option_map pin_view k.pin) n.stage k.pending) n.out.items) (sym at)
    (reads_on old n.device n.stage c.in-Some.cid c.args.out.now.items c.make_room.new.out.items n.out.items c.read.result (sym c.working.ensures ∙ c.in-Some.is)
    c.make_room.ensures.items c.read.ensures.read))
