-- What is owed of `sign_in`.
use Rattle.std.proofs.Common.{◌≡◌, ◌∙◌, ℕ, sym, subst}
use Rattle.std.specs.Prelude.{OnOk}
use Rattle.ceremony.specs.SignIn as ceremony
use Rattle.ceremony.specs.SignIn.{IsAfter}
use Rattle.ceremony.specs.Verdict.{Succeeds}
use Rattle.ceremony.proofs.signing_in.sign_in.Goals as goal

pub returns-clause-complete : goal.returns-clause-complete
returns-clause-complete g c = λ n r s.
    let channel : c.feed_all.new.self.cid ≡ c.args.cid = c.feed_all.ensures.channel ∙ c.in_ok-live.ensures.channel in
    let x = ceremony.sign_in (g.V.Verifier.valid c.args.verifier.now) c.args.site.now c.args.session c.args.client_data.now in
    c.finish.ensures.complete c.args.packets.now n r c.feed_all.ensures.got (subst (λ (i : ℕ). Succeeds x i c.args.packets.now n r) (sym channel) s)

pub returns-clause-after : goal.returns-clause-after
returns-clause-after g c =
    let channel : c.feed_all.new.self.cid ≡ c.args.cid = c.feed_all.ensures.channel ∙ c.in_ok-live.ensures.channel in
    subst (λ (i : ℕ). OnOk c.finish.result (IsAfter c.args.site.now c.args.session c.args.client_data.now i c.args.packets.now c.finish.new.site)) channel
    (c.finish.ensures.after c.args.packets.now c.feed_all.ensures.got)
