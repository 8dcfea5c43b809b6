-- What is owed of `finish_serving`.
use Rattle.std.proofs.Common.{◌≡◌, [], ◌∷◌, List, ℕ, refl, subst, arith, rules}
use Rattle.std.proofs.lemmas.Grind.{common_steps}
use Rattle.hidlink.specs.History.{Answered}
use Rattle.hidlink.specs.Ranks.{IsWorking, on_working}
use Rattle.security_key.specs.AtDevice.{Moves}
use Rattle.security_key.specs.Serving.{Done, IsPayload}
use Rattle.security_key.proofs.Acting.{sent_done}
use Rattle.security_key.proofs.serving.finish_serving.Goals as goal

pub returns-clause-finished : goal.returns-clause-finished
returns-clause-finished c =
    let s = c.args.device.now.state in
    let works : IsWorking s = first_of (search rules, grind (arith, common_steps)) in
    let reply = c.in_ok-reply.reply.items in
    let same : c.deref.result.now ≡ reply = c.deref.ensures.value in
    let done : Done = record { calls = Answered reply ∷ []; sent = on_working s 16 reply; authenticator = c.finish.new.self } in
    let moves = subst (λ (m : List ℕ). Moves c.args.device.now c.answer.new.device (Answered m ∷ []) (on_working s 16 m)) same c.answer.ensures.moves in (
      done,
      (reply, works, subst IsPayload same c.answer.ensures.payload, c.in_ok-reply.ensures.finished, refl, refl),
      sent_done c.args.device.now c.answer.new.device c.drain.new.device c.finish.new.self c.args.out.now.items c.reserve.new.self.items
          c.drain.new.out.items done refl moves c.drain.ensures.device c.in_ok-reserve.ensures.items c.drain.ensures.out,
    )
