-- What is owed of `next_step`.
use Rattle.client_ceremony.proofs.Stages.{refuses, steps}
use Rattle.client_ceremony.specs.Ceremonies.{HaltsAt}
use Rattle.client_ceremony.specs.Facts.{facts}
use Rattle.std.proofs.Common.{Global, Vec, inl, inr, refl, subst, sym, ℕ, ◌<◌, ◌≤◌}
use Rattle.std.proofs.lemmas.List.{length-map}
use Rattle.client_ceremony.proofs.next.next_step.Goals as goal

pub returns-then-sent-known-clause-refused : goal.returns-then-sent-known-clause-refused
returns-then-sent-known-clause-refused c =
    inr (inr (refl, c.in-Steps.sent, c.in-Steps.step, steps (HaltsAt c.args.wish.now (facts c.args.known.now)) c.in-Steps.sent c.in-Steps.step c.in-Steps.ensures, subst (λ (n : ℕ). c.in-Steps.sent < n) (sym (length-map c.args.known.now.replies.now (λ (v : Vec ℕ Global). v.items))) c.if-sent-known.true))

pub returns-else-sent-known-clause-step : goal.returns-else-sent-known-clause-step
returns-else-sent-known-clause-step c =
    (c.in-Steps.sent, steps (HaltsAt c.args.wish.now (facts c.args.known.now)) c.in-Steps.sent c.in-Steps.step c.in-Steps.ensures, subst (λ (n : ℕ). n ≤ c.in-Steps.sent) (sym (length-map c.args.known.now.replies.now (λ (v : Vec ℕ Global). v.items))) c.if-sent-known.false)

pub returns-in-Refuses-clause-refused : goal.returns-in-Refuses-clause-refused
returns-in-Refuses-clause-refused c =
    elim (refuses (HaltsAt c.args.wish.now (facts c.args.known.now)) c.in-Refuses.refusal c.in-Refuses.ensures) [ inl e ↦ inl e | inr p ↦ inr (inl p) ]
