-- What is owed of `agreement_answer`.
use Rattle.std.proofs.Common.{◌≡◌, ◌∙◌, ℕ, List, [], IfOk, IfErr, subst}
use Rattle.pin_protocols.specs.declared.ask.Operation.TheVariants as operations
use Rattle.pin_protocols.specs.Asks.{Answered, Stops, asked, entries}
use Rattle.pin_protocols.proofs.session.agreement_answer.Goals as goal

pub returns-clause-answered : goal.returns-clause-answered
returns-clause-answered c =
    subst (λ (t : List ℕ). IfOk c.answered.result (λ b. Answered (entries c.args.answers.now) (asked operations.Agree [] [] t) b.now)) (c.deref.ensures.value ∙ c.in_ok-text.ensures)
    c.answered.ensures.answered

pub returns-clause-stops : goal.returns-clause-stops
returns-clause-stops c =
    subst (λ (t : List ℕ). IfErr c.answered.result (Stops (entries c.args.answers.now) (λ a. a ≡ asked operations.Agree [] [] t))) (c.deref.ensures.value ∙ c.in_ok-text.ensures)
    c.answered.ensures.stops
