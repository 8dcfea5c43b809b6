-- What is owed of `decide_granted`.
use Rattle.std.specs.Prelude.{option_map}
use Rattle.std.proofs.Common.{refl}
use Rattle.key_pin.specs.State.{pin_view}
use Rattle.key_device.proofs.Decisions.{answered_granted, signs_granted}
use Rattle.key_device.proofs.deciding.decide_granted.Goals as goal

pub returns-in-Replied-clause-decided : goal.returns-in-Replied-clause-decided
returns-in-Replied-clause-decided g c = λ public agrees.
    answered_granted public _ _ _ _ (option_map pin_view c.args.pin.now) _ c.args.granted.now c.args.decision.consent _ _ _ c.args.decision.channel
    c.in-Replied.reply.items c.requires.channel
    (rw c.in-Replied.is at (rw c.deref.ensures.value at (c.in_ok-begun.ensures.begun public agrees)))
    (rw c.in-Replied.is at (c.in_ok-begun.ensures.size)) c.spend.ensures (rw c.deref-in-Replied.ensures.value at c.answer.ensures.answered)

pub returns-in-Signs-clause-decided : goal.returns-in-Signs-clause-decided
returns-in-Signs-clause-decided g c = λ public agrees.
    let h = rw c.in-Signs.is at (rw c.deref.ensures.value at (c.in_ok-begun.ensures.begun public agrees)) in (
      signs_granted public _ _ _ (option_map pin_view c.args.pin.now) c.args.granted.now c.args.decision.consent _ c.args.decision.channel c.in-Signs.pending
          c.requires.channel h,
      refl,
      h.0,
      c.spend.ensures,
      refl,
    )
