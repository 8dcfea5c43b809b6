-- What is owed of `opened`.
use Rattle.std.proofs.Common.{◌≡◌, ℕ, List, IfOk, IfErr, replicate, subst}
use Rattle.pin_protocols.specs.declared.ask.Operation.TheVariants as operations
use Rattle.pin_protocols.specs.Asks.{Answered, Stops, asked, entries}
use Rattle.pin_protocols.proofs.session.opened.Goals as goal

pub returns-in-One-clause-opened : goal.returns-in-One-clause-opened
returns-in-One-clause-opened c = rw c.in-One.is
    (subst (λ (k : List ℕ). IfOk c.answered.result (λ b. Answered (entries c.args.answers.now) (asked operations.Decrypt k (replicate 16 0) c.args.ciphertext.now) b.now)) c.deref.ensures.value
    (subst (λ (iv : List ℕ). IfOk c.answered.result (λ b. Answered (entries c.args.answers.now) (asked operations.Decrypt c.deref.result.now iv c.args.ciphertext.now) b.now)) c.no_iv-iv.ensures
    c.answered.ensures.answered))

pub returns-in-One-clause-stops : goal.returns-in-One-clause-stops
returns-in-One-clause-stops c = rw c.in-One.is
    (subst (λ (k : List ℕ). IfErr c.answered.result (Stops (entries c.args.answers.now) (λ a. a ≡ asked operations.Decrypt k (replicate 16 0) c.args.ciphertext.now))) c.deref.ensures.value
    (subst (λ (iv : List ℕ). IfErr c.answered.result (Stops (entries c.args.answers.now) (λ a. a ≡ asked operations.Decrypt c.deref.result.now iv c.args.ciphertext.now))) c.no_iv-iv.ensures
    c.answered.ensures.stops))
