-- What is owed of `decide_as_it_is`.
use Rattle.std.specs.Prelude.{option_map}
use Rattle.std.proofs.Common.{refl}
use Rattle.key_pin.specs.State.{pin_view}
use Rattle.key_device.proofs.Decisions.{answered, consent_is, signs}
use Rattle.key_device.proofs.deciding.decide_as_it_is.Goals as goal

pub returns-in-Replied-clause-decided : goal.returns-in-Replied-clause-decided
returns-in-Replied-clause-decided g c = λ public agrees.
    let pin = option_map pin_view c.args.pin.now in
    answered public _ _ _ _ pin _ c.args.decision.consent _ _ _ _ c.args.decision.channel c.request-request.result.now c.in-Replied.reply.items
    c.is_command-is_info.result c.is_command-is_reset.result c.requires.channel c.request-request.ensures.payload
    (consent_is pin c.args.decision.consent c.verified_as_it_is.result c.verified_as_it_is.ensures)
    (rw c.in-Replied.is at (c.in_ok-reply.ensures.begun public agrees)) (rw c.in-Replied.is at (c.in_ok-reply.ensures.size))
    c.is_command-is_info.ensures c.is_command-is_reset.ensures (rw c.deref-in-Replied.ensures.value at c.reset.ensures) (rw c.deref.ensures.value at c.answer_as_it_is.ensures.answered)

pub returns-in-Signs-clause-decided : goal.returns-in-Signs-clause-decided
returns-in-Signs-clause-decided g c = λ public agrees.
    let pin = option_map pin_view c.args.pin.now in
    let h = rw c.in-Signs.is at (c.in_ok-reply.ensures.begun public agrees) in (
      signs public _ _ _ pin c.args.decision.consent _ _ c.args.decision.channel c.request-request.result.now c.in-Signs.pending c.requires.channel
          c.request-request.ensures.payload (consent_is pin c.args.decision.consent c.verified_as_it_is.result c.verified_as_it_is.ensures) h,
      refl,
      h.0,
      refl,
      refl,
    )
