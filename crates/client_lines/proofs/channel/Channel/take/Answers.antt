-- What is owed of `take`.
use Rattle.std.proofs.Common.{rules, ◌≡◌, ◌++◌, [], ◌∷◌, ℕ, IfOk, subst, sym}
use Rattle.hidlink.specs.Collected.{Collected}
use Rattle.hidlink.specs.Feeds.{CollectorAnswers}
use Rattle.hidlink.specs.Wire.{Got}
use Rattle.client_lines.specs.Packets.{IsCarried}
use Rattle.client_lines.proofs.channel.Channel.take.Goals as goal

pub returns-clause-carried : goal.returns-clause-carried
returns-clause-carried c = λ ps got.
    let e : c.self.inside.cid ≡ c.args.self.now.cid = search rules in
    let Owns : Collected → Type 0 = λ v. Got v.cid ps v.shown in
    let Answers : ℕ → Type 0 = λ n. CollectorAnswers n ps c.args.packet.now c.feed-came.result in
    let Carried : ℕ → Type 0 = λ n. IfOk c.said.result (IsCarried n (ps ++ c.args.packet.now ∷ [])) in
    let answers = c.feed-came.ensures.answer ps (subst Owns (sym c.self.view_is) got) in
    subst Carried e (c.said.ensures ps (subst Answers c.self.invariant answers))
