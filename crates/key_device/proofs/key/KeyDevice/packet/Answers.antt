-- What is owed of `KeyDevice::packet`.
use Rattle.std.specs.Prelude.{option_map}
use Rattle.std.proofs.Common.{◌∙◌, refl, sym}
use Rattle.key_pin.specs.State.{pin_view}
use Rattle.security_key.proofs.Acting.{works}
use Rattle.key_device.specs.Key.{KeyDeviceState}
use Rattle.key_device.proofs.Passing.{goes_still, goes_to_rest, goes_to_work, rests_if, still_sound, takes, took_history, works_if}
use Rattle.key_device.proofs.Sound.{at_rest, key, read_sound}
use Rattle.key_device.proofs.Taking.{reads_on}
use Rattle.key_device.proofs.Waiting.{none_at_rest, no_work}
use Rattle.key_device.proofs.key.KeyDevice.packet.Goals as goal

-- its request goes on
pub invariant_of-self-then-worked : goal.invariant_of-self-then-worked
invariant_of-self-then-worked c =
    let k = c.self.inside in
    let i = c.self.invariant in
    let n = c.begin_serving.new in
    let old : KeyDeviceState = key k.device k.authenticator (option_map pin_view k.pin) k.stage k.pending in
    let t = takes k.device n.device k.authenticator n.authenticator c.args.packet c.args.out.now.items n.out.items _ c.event_of-event.result
    c.in_ok-served.ensures.begun c.event_of-event.ensures in
    let before = works_if k.device.state c.working.result c.is_some-worked.result c.working.ensures c.is_some-worked.ensures c.if-worked.true in
    let after = works n.device.state c.in-Some.cid (sym c.working-2.ensures ∙ c.in-Some.is) in
    still_sound old n.device n.authenticator i before after (c.in_ok-served.ensures.goes_on i.history.0 i.history.1 before after) c.begin_serving.ensures.drained
    (took_history k.device n.device k.authenticator c.args.packet c.args.out.now.items n.out.items c.event_of-event.result t.passes i.history)

pub returns-then-worked-clause-taken : goal.returns-then-worked-clause-taken
returns-then-worked-clause-taken c =
    let k = c.self.inside in
    let i = c.self.invariant in
    let n = c.begin_serving.new in
    let pin = option_map pin_view k.pin in
    let event = c.event_of-event.result in
    let t = takes k.device n.device k.authenticator n.authenticator c.args.packet c.args.out.now.items n.out.items _ event
    c.in_ok-served.ensures.begun c.event_of-event.ensures in
    let before = works_if k.device.state c.working.result c.is_some-worked.result c.working.ensures c.is_some-worked.ensures c.if-worked.true in
    let after = works n.device.state c.in-Some.cid (sym c.working-2.ensures ∙ c.in-Some.is) in
    let same = c.in_ok-served.ensures.goes_on i.history.0 i.history.1 before after in
    rw (← c.self.view_is, t.same) (
      event,
      n.device,
      n.out.items,
      t.passes,
      goes_still k.device.state n.device.state (key n.device k.authenticator pin k.stage k.pending) n.out.items event before after same.0,
    )

-- it begins to work on one
pub invariant_of-self-else-worked : goal.invariant_of-self-else-worked
invariant_of-self-else-worked c =
    let k = c.self.inside in
    let i = c.self.invariant in
    let n = c.begin_serving.new in
    let pin = option_map pin_view k.pin in
    let old : KeyDeviceState = key k.device k.authenticator pin k.stage k.pending in
    let t = takes k.device n.device k.authenticator n.authenticator c.args.packet c.args.out.now.items n.out.items _ c.event_of-event.result
    c.in_ok-served.ensures.begun c.event_of-event.ensures in
    let before = rests_if k.device.state c.working.result c.is_some-worked.result c.working.ensures c.is_some-worked.ensures c.if-worked.false in
    let after = works n.device.state c.in-Some.cid (sym c.working-2.ensures ∙ c.in-Some.is) in
    read_sound n.device c.read-told.new.device n.authenticator pin c.read-told.new.stage k.pending c.in-Some.cid c.read-told.result n.out.items c.read-told.new.out.items
    c.begin_serving.ensures.drained
    (took_history k.device n.device k.authenticator c.args.packet c.args.out.now.items n.out.items c.event_of-event.result t.passes i.history)
    after (none_at_rest old k.pending (no_work k.device.state before) i.waiting) c.read-told.ensures.read c.read-told.ensures.drained

pub returns-else-worked-clause-taken : goal.returns-else-worked-clause-taken
returns-else-worked-clause-taken c =
    let k = c.self.inside in
    let n = c.begin_serving.new in
    let pin = option_map pin_view k.pin in
    let event = c.event_of-event.result in
    let t = takes k.device n.device k.authenticator n.authenticator c.args.packet c.args.out.now.items n.out.items _ event
    c.in_ok-served.ensures.begun c.event_of-event.ensures in
    let before = rests_if k.device.state c.working.result c.is_some-worked.result c.working.ensures c.is_some-worked.ensures c.if-worked.false in
    let at = sym c.working-2.ensures ∙ c.in-Some.is in
    let mid : KeyDeviceState = key n.device k.authenticator pin k.stage k.pending in
    rw (← c.self.view_is, t.same) (
      event,
      n.device,
      n.out.items,
      t.passes,
      goes_to_work k.device.state n.device.state mid n.out.items event c.read-told.result _ c.read-told.new.out.items before (works n.device.state c.in-Some.cid at)
          (reads_on mid c.read-told.new.device c.read-told.new.stage c.in-Some.cid n.out.items n.out.items c.read-told.new.out.items c.read-told.result at refl
          c.read-told.ensures.read),
    )

-- it works on none
pub invariant_of-self-in-None : goal.invariant_of-self-in-None
invariant_of-self-in-None c =
    let k = c.self.inside in
    let i = c.self.invariant in
    let n = c.begin_serving.new in
    let t = takes k.device n.device k.authenticator n.authenticator c.args.packet c.args.out.now.items n.out.items _ c.event_of-event.result
    c.in_ok-served.ensures.begun c.event_of-event.ensures in
    at_rest n.device n.authenticator _ _ _ c.begin_serving.ensures.drained
    (took_history k.device n.device k.authenticator c.args.packet c.args.out.now.items n.out.items c.event_of-event.result t.passes i.history)
    (sym c.working-2.ensures ∙ c.in-None.is) refl refl

pub returns-in-None-clause-taken : goal.returns-in-None-clause-taken
returns-in-None-clause-taken c =
    let k = c.self.inside in
    let n = c.begin_serving.new in
    let pin = option_map pin_view k.pin in
    let event = c.event_of-event.result in
    let t = takes k.device n.device k.authenticator n.authenticator c.args.packet c.args.out.now.items n.out.items _ event
    c.in_ok-served.ensures.begun c.event_of-event.ensures in
    rw (← c.self.view_is, t.same, c.give_up.ensures) (
      event,
      n.device,
      n.out.items,
      t.passes,
      goes_to_rest k.device.state n.device.state (key n.device k.authenticator pin k.stage k.pending) n.out.items event (sym c.working-2.ensures ∙ c.in-None.is),
    )
