-- What is owed of `register`.
use Rattle.std.proofs.Common.{◌≡◌, ◌∙◌, ℕ, sym, subst}
use Rattle.std.specs.Prelude.{OnOk}
use Rattle.ceremony.specs.Registration as ceremony
use Rattle.ceremony.specs.Registration.{IsAfter}
use Rattle.ceremony.specs.Verdict.{Succeeds}
use Rattle.ceremony.proofs.registration.register.Goals as goal

pub returns-clause-complete : goal.returns-clause-complete
returns-clause-complete g c = λ n r s.
    let channel : c.feed_all.new.self.cid ≡ c.args.cid = c.feed_all.ensures.channel ∙ c.in_ok-live.ensures.channel in
    let x = ceremony.registration (g.V.Verifier.valid c.args.verifier.now) c.args.site.now c.args.session c.args.client_data.now in
    c.finish_registration.ensures.complete c.args.packets.now n r c.feed_all.ensures.got
    (subst (λ (i : ℕ). Succeeds x i c.args.packets.now n r) (sym channel) s)

pub returns-clause-after : goal.returns-clause-after
returns-clause-after g c =
    let channel : c.feed_all.new.self.cid ≡ c.args.cid = c.feed_all.ensures.channel ∙ c.in_ok-live.ensures.channel in
    let site = c.finish_registration.new.site in
    subst (λ (i : ℕ). OnOk c.finish_registration.result (IsAfter c.args.site.now c.args.session c.args.client_data.now i c.args.packets.now site)) channel
    (c.finish_registration.ensures.after c.args.packets.now c.feed_all.ensures.got)
