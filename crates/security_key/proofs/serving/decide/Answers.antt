-- What is owed of `decide`.
use Rattle.std.proofs.Common.{◌≡◌, [], ◌∷◌, List, ℕ, refl, sym, ◌∙◌, subst}
use Rattle.hidlink.specs.History.{Answered}
use Rattle.hidlink.specs.Ranks.{on_working}
use Rattle.security_key.specs.AtDevice.{Moves}
use Rattle.security_key.specs.Serving.{IsPayload}
use Rattle.security_key.proofs.Acting.{at_work, idle}
use Rattle.security_key.proofs.serving.decide.Goals as goal

pub returns-in-Replied-clause-decided : goal.returns-in-Replied-clause-decided
returns-in-Replied-clause-decided g c = λ public agrees.
    let s = c.args.device.now.state in
    let reply = c.in-Replied.reply.items in
    let channel = sym c.working.ensures ∙ c.in-Some.is in
    let same : c.deref.result.now ≡ reply = c.deref.ensures.value in (
      refl,
      (
        c.in-Some.channel,
        c.request.result.now,
        reply,
        at_work s c.in-Some.channel c.request.result.now channel c.request.ensures.payload,
        subst IsPayload same c.answer.ensures.payload,
        rw c.in-Replied.is at (c.in_ok-reply.ensures.begun public agrees),
        subst (λ (m : List ℕ). Moves c.args.device.now c.answer.new.device (Answered m ∷ []) (on_working s 16 m)) same c.answer.ensures.moves,
      ),
    )

pub returns-in-Replied-clause-keeps : goal.returns-in-Replied-clause-keeps
returns-in-Replied-clause-keeps g c = idle c.args.authenticator.now c.args.device.now c.begin.new.self c.answer.new.device c.answer.ensures.idle

pub returns-in-Signs-clause-decided : goal.returns-in-Signs-clause-decided
returns-in-Signs-clause-decided g c = λ public agrees.
    let s = c.args.device.now.state in
    let channel = sym c.working.ensures ∙ c.in-Some.is in
    let begun = rw c.in-Signs.is at (c.in_ok-reply.ensures.begun public agrees) in (
      (
        c.in-Some.channel,
        c.request.result.now,
        at_work s c.in-Some.channel c.request.result.now channel c.request.ensures.payload,
        (refl, begun.1),
      ),
      refl,
      begun.0,
    )

pub returns-in-Signs-clause-keeps : goal.returns-in-Signs-clause-keeps
returns-in-Signs-clause-keeps g c = λ h left before after. (refl, (rw c.in-Signs.is at (c.in_ok-reply.ensures.begun (g.K.PublicKeys.public_of c.args.keys.now) (λ alg. refl))).0)
