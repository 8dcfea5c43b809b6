-- What is owed of `sealed`.
use Rattle.std.proofs.Common.{◌≡◌, ℕ, List, IfOk, IfErr, replicate, subst}
use Rattle.pin_protocols.specs.declared.ask.Operation.TheVariants as operations
use Rattle.pin_protocols.specs.Asks.{Answered, Stops, asked, entries}
use Rattle.pin_protocols.proofs.session.sealed.Goals as goal

pub returns-in-One-clause-sealed : goal.returns-in-One-clause-sealed
returns-in-One-clause-sealed c = rw c.in-One.is
    (subst (λ (k : List ℕ). IfOk c.answered.result (λ b. Answered (entries c.args.answers.now) (asked operations.Encrypt k (replicate 16 0) c.args.text.now) b.now)) c.deref.ensures.value
    (subst (λ (iv : List ℕ). IfOk c.answered.result (λ b. Answered (entries c.args.answers.now) (asked operations.Encrypt c.deref.result.now iv c.args.text.now) b.now)) c.no_iv-iv.ensures
    c.answered.ensures.answered))

pub returns-in-One-clause-stops : goal.returns-in-One-clause-stops
returns-in-One-clause-stops c = rw c.in-One.is
    (subst (λ (k : List ℕ). IfErr c.answered.result (Stops (entries c.args.answers.now) (λ a. a ≡ asked operations.Encrypt k (replicate 16 0) c.args.text.now))) c.deref.ensures.value
    (subst (λ (iv : List ℕ). IfErr c.answered.result (Stops (entries c.args.answers.now) (λ a. a ≡ asked operations.Encrypt c.deref.result.now iv c.args.text.now))) c.no_iv-iv.ensures
    c.answered.ensures.stops))
