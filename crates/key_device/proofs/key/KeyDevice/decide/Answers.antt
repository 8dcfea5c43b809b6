-- What is owed of `KeyDevice::decide`.
use Rattle.std.specs.Prelude.{option_map}
use Rattle.std.proofs.Common.{◌∙◌, Bool, Some, ap, refl, subst, sym}
use Rattle.key_pin.specs.State.{pin_view}
use Rattle.security_key.proofs.Acting.{works}
use Rattle.key_device.specs.Acts.{TakesDecision}
use Rattle.key_device.specs.Deciding.{touched}
use Rattle.key_device.specs.Key.{Fits, KeyDeviceState}
use Rattle.key_device.specs.declared.stage.Stage.{Stage}
use Rattle.key_device.specs.declared.stage.Stage.TheVariants as stages
use Rattle.key_device.proofs.Decided.{decided_sound}
use Rattle.key_device.proofs.Sound.{answered_sound, key, read_sound}
use Rattle.key_device.proofs.Taking.{granted_decides, reads_on, touches, user_decides}
use Rattle.key_device.proofs.Waiting.{none_handed}
use Rattle.key_device.proofs.key.KeyDevice.decide.Goals as goal

pub invariant_of-self-in-User : goal.invariant_of-self-in-User
invariant_of-self-in-User g c =
    let k = c.self.inside in
    let i = c.self.invariant in
    let n = c.decide_as_it_is.new in
    let pin = option_map pin_view k.pin in
    decided_sound _ k.device n.device k.authenticator n.authenticator pin (option_map pin_view n.pin) stages.User c.decided.new.stage c.decided.new.pending
    (g.K.PublicKeys.public_of c.args.keys.now) c.args.consent c.args.words c.decided.result c.make_room.new.out.items n.out.items i.drained i.history
    (subst (λ (s : Stage). Fits pin k.device.state s) c.in-User.is i.stage) c.in_ok-waits-in-User.ensures.decided c.decide_as_it_is.ensures.drained
    (rw c.in-User.is at c.decided.ensures)

pub returns-in_ok-waits-in-User-clause-taken : goal.returns-in_ok-waits-in-User-clause-taken
returns-in_ok-waits-in-User-clause-taken g c = λ public agrees.
    let k = c.self.inside in
    let n = c.decide_as_it_is.new in
    let old : KeyDeviceState = key k.device k.authenticator (option_map pin_view k.pin) k.stage k.pending in
    rw (← c.self.view_is) (user_decides public old c.args.consent c.args.words c.args.out.now.items c.make_room.new.out.items n.out.items n.device n.authenticator
    (option_map pin_view n.pin) c.decided.new.stage c.decided.new.pending c.decided.result _ c.in-User.is c.make_room.ensures.items
    (c.in_ok-waits-in-User.ensures.decided public agrees) c.decided.ensures)

pub invariant_of-self-in-Granted : goal.invariant_of-self-in-Granted
invariant_of-self-in-Granted g c =
    let k = c.self.inside in
    let i = c.self.invariant in
    let n = c.decide_granted.new in
    let pin = option_map pin_view k.pin in
    decided_sound _ k.device n.device k.authenticator n.authenticator pin (option_map pin_view n.pin) (stages.Granted c.in-Granted.granted)
    c.decided-in-Granted.new.stage c.decided-in-Granted.new.pending
    (g.K.PublicKeys.public_of c.args.keys.now) c.args.consent c.args.words c.decided-in-Granted.result c.make_room.new.out.items n.out.items i.drained i.history
    (subst (λ (s : Stage). Fits pin k.device.state s) c.in-Granted.is i.stage) c.in_ok-waits-in-Granted.ensures.decided c.decide_granted.ensures.drained
    (rw c.in-Granted.is at c.decided-in-Granted.ensures)

pub returns-in_ok-waits-in-Granted-clause-taken : goal.returns-in_ok-waits-in-Granted-clause-taken
returns-in_ok-waits-in-Granted-clause-taken g c = λ public agrees.
    let k = c.self.inside in
    let n = c.decide_granted.new in
    let old : KeyDeviceState = key k.device k.authenticator (option_map pin_view k.pin) k.stage k.pending in
    rw (← c.self.view_is) (granted_decides public old c.args.consent c.args.words c.args.out.now.items c.make_room.new.out.items n.out.items n.device n.authenticator
    (option_map pin_view n.pin) c.decided-in-Granted.new.stage c.decided-in-Granted.new.pending c.decided-in-Granted.result c.in-Granted.granted _ c.in-Granted.is
    c.make_room.ensures.items (c.in_ok-waits-in-Granted.ensures.decided public agrees) c.decided-in-Granted.ensures)

pub invariant_of-self-in-Touch : goal.invariant_of-self-in-Touch
invariant_of-self-in-Touch g c =
    let k = c.self.inside in
    let i = c.self.invariant in
    let n = c.answer.new in
    let e = c.decided-in-Touch.ensures in
    answered_sound k.device n.device k.authenticator (option_map pin_view k.pin) c.decided-in-Touch.new.stage c.decided-in-Touch.new.pending c.make_room.new.out.items
    n.out.items _ i.history c.answer.ensures.answered c.answer.ensures.drained e.1 e.2

pub returns-in-Touch-clause-taken : goal.returns-in-Touch-clause-taken
returns-in-Touch-clause-taken g c = λ public agrees.
    let k = c.self.inside in
    let n = c.answer.new in
    let old : KeyDeviceState = key k.device k.authenticator (option_map pin_view k.pin) k.stage k.pending in
    rw (← c.self.view_is) (touches public old c.args.consent c.args.words c.args.out.now.items c.make_room.new.out.items n.out.items n.device
    c.decided-in-Touch.new.stage c.decided-in-Touch.new.pending c.decided-in-Touch.result c.touched.result c.in-Touch.is c.make_room.ensures.items
    (c.touched.ensures ∙ ap (λ (b : Bool). touched b c.args.consent.present) c.has_pin.ensures) c.answer.ensures.answered c.decided-in-Touch.ensures)

pub invariant_of-self-in-Unread : goal.invariant_of-self-in-Unread
invariant_of-self-in-Unread g c =
    let k = c.self.inside in
    let i = c.self.invariant in
    let n = c.read.new in
    let pin = option_map pin_view k.pin in
    let old : KeyDeviceState = key k.device k.authenticator pin k.stage k.pending in
    read_sound k.device n.device k.authenticator pin n.stage k.pending c.in-Some.channel c.read.result c.make_room.new.out.items n.out.items i.drained i.history
    (works k.device.state c.in-Some.channel (sym c.working.ensures ∙ c.in-Some.is))
    (none_handed old stages.Unread k.pending c.in-Unread.is (λ pin bs consent. refl) i.waiting) c.read.ensures.read c.read.ensures.drained

pub returns-in-Unread-clause-taken : goal.returns-in-Unread-clause-taken
returns-in-Unread-clause-taken g c = λ public agrees.
    let k = c.self.inside in
    let n = c.read.new in
    let pin = option_map pin_view k.pin in
    let old : KeyDeviceState = key k.device k.authenticator pin k.stage k.pending in
    rw (← c.self.view_is) (subst (λ (s : Stage). TakesDecision public s old c.args.consent c.args.words c.args.out.now.items c.read.result
    (key n.device k.authenticator pin n.stage k.pending) n.out.items) (sym c.in-Unread.is)
    (reads_on old n.device n.stage c.in-Some.channel c.args.out.now.items c.make_room.new.out.items n.out.items c.read.result (sym c.working.ensures ∙ c.in-Some.is)
    c.make_room.ensures.items c.read.ensures.read))
