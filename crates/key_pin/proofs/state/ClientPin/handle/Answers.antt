-- What is owed of `handle`.
use Rattle.std.proofs.Common.{◌≡◌, ◌⊎◌, ◌∙◌, inl, inr}
use Rattle.pin_protocols.specs.Asks.{entries}
use Rattle.key_pin.specs.Outcomes.{IsStep, Unanswered, after}
use Rattle.key_pin.specs.Pieces.{Finishes, Reaches}
use Rattle.key_pin.specs.Query.{query_view}
use Rattle.key_pin.specs.State.{pin_view, with_pair}
use Rattle.key_pin.specs.Steps.{verdict}
use Rattle.key_pin.proofs.Ending.{finished, handled, ok_more, on_err, on_ok, unanswered, wanting}
use Rattle.key_pin.proofs.state.ClientPin.handle.Goals as goal

pub returns-clause-step : goal.returns-clause-step
returns-clause-step c =
    let reaches : Reaches (verdict (entries c.args.answers.now) c.args.words.now (query_view c.args.asked.now) (pin_view c.args.self.now)) (with_pair c.args.words.now (pin_view c.args.self.now)) c.judged-outcome.result (pin_view c.judged-outcome.new.self) =
    handled (entries c.args.answers.now) c.args.words.now (query_view c.args.asked.now) (pin_view c.args.self.now) (pin_view c.take_pair-pair.new.self) (pin_view c.judged-outcome.new.self)
    c.take_pair-pair.result c.judged-outcome.result c.take_pair-pair.ensures.pair c.take_pair-pair.ensures.state c.judged-outcome.ensures in
    ok_more (λ step. Finishes c.judged-outcome.result (pin_view c.judged-outcome.new.self) step (pin_view c.answered.new.self)) (IsStep (verdict (entries c.args.answers.now) c.args.words.now (query_view c.args.asked.now) (pin_view c.args.self.now))) c.answered.result (λ step f. (finished (verdict (entries c.args.answers.now) c.args.words.now (query_view c.args.asked.now) (pin_view c.args.self.now)) (with_pair c.args.words.now (pin_view c.args.self.now)) (pin_view c.judged-outcome.new.self) (pin_view c.answered.new.self) c.judged-outcome.result step reaches f).0) c.answered.ensures.done

pub returns-clause-state : goal.returns-clause-state
returns-clause-state c =
    let reaches : Reaches (verdict (entries c.args.answers.now) c.args.words.now (query_view c.args.asked.now) (pin_view c.args.self.now)) (with_pair c.args.words.now (pin_view c.args.self.now)) c.judged-outcome.result (pin_view c.judged-outcome.new.self) =
    handled (entries c.args.answers.now) c.args.words.now (query_view c.args.asked.now) (pin_view c.args.self.now) (pin_view c.take_pair-pair.new.self) (pin_view c.judged-outcome.new.self)
    c.take_pair-pair.result c.judged-outcome.result c.take_pair-pair.ensures.pair c.take_pair-pair.ensures.state c.judged-outcome.ensures in
    on_ok (λ step. Finishes c.judged-outcome.result (pin_view c.judged-outcome.new.self) step (pin_view c.answered.new.self)) (pin_view c.answered.new.self ≡ after (verdict (entries c.args.answers.now) c.args.words.now (query_view c.args.asked.now) (pin_view c.args.self.now)).outcome (verdict (entries c.args.answers.now) c.args.words.now (query_view c.args.asked.now) (pin_view c.args.self.now)).state) c.answered.result (λ step f. (finished (verdict (entries c.args.answers.now) c.args.words.now (query_view c.args.asked.now) (pin_view c.args.self.now)) (with_pair c.args.words.now (pin_view c.args.self.now)) (pin_view c.judged-outcome.new.self) (pin_view c.answered.new.self) c.judged-outcome.result step reaches f).1) c.answered.ensures.done

pub returns-clause-asks : goal.returns-clause-asks
returns-clause-asks c =
    let reaches : Reaches (verdict (entries c.args.answers.now) c.args.words.now (query_view c.args.asked.now) (pin_view c.args.self.now)) (with_pair c.args.words.now (pin_view c.args.self.now)) c.judged-outcome.result (pin_view c.judged-outcome.new.self) =
    handled (entries c.args.answers.now) c.args.words.now (query_view c.args.asked.now) (pin_view c.args.self.now) (pin_view c.take_pair-pair.new.self) (pin_view c.judged-outcome.new.self)
    c.take_pair-pair.result c.judged-outcome.result c.take_pair-pair.ensures.pair c.take_pair-pair.ensures.state c.judged-outcome.ensures in
    ok_more (λ step. Finishes c.judged-outcome.result (pin_view c.judged-outcome.new.self) step (pin_view c.answered.new.self)) (Unanswered (entries c.args.answers.now)) c.answered.result
    (λ step f. unanswered (entries c.args.answers.now) c.args.words.now (query_view c.args.asked.now) (pin_view c.args.self.now) step (finished (verdict (entries c.args.answers.now) c.args.words.now (query_view c.args.asked.now) (pin_view c.args.self.now)) (with_pair c.args.words.now (pin_view c.args.self.now)) (pin_view c.judged-outcome.new.self) (pin_view c.answered.new.self) c.judged-outcome.result step reaches f).0) c.answered.ensures.done

pub returns-clause-want : goal.returns-clause-want
returns-clause-want c =
    let reaches : Reaches (verdict (entries c.args.answers.now) c.args.words.now (query_view c.args.asked.now) (pin_view c.args.self.now)) (with_pair c.args.words.now (pin_view c.args.self.now)) c.judged-outcome.result (pin_view c.judged-outcome.new.self) =
    handled (entries c.args.answers.now) c.args.words.now (query_view c.args.asked.now) (pin_view c.args.self.now) (pin_view c.take_pair-pair.new.self) (pin_view c.judged-outcome.new.self)
    c.take_pair-pair.result c.judged-outcome.result c.take_pair-pair.ensures.pair c.take_pair-pair.ensures.state c.judged-outcome.ensures in
    on_err (pin_view c.answered.new.self ≡ pin_view c.judged-outcome.new.self) ((pin_view c.answered.new.self ≡ (with_pair c.args.words.now (pin_view c.args.self.now))) ⊎ (pin_view c.answered.new.self ≡ (verdict (entries c.args.answers.now) c.args.words.now (query_view c.args.asked.now) (pin_view c.args.self.now)).state)) c.answered.result
    (λ e. elim (wanting (verdict (entries c.args.answers.now) c.args.words.now (query_view c.args.asked.now) (pin_view c.args.self.now)) (with_pair c.args.words.now (pin_view c.args.self.now)) (pin_view c.judged-outcome.new.self) c.judged-outcome.result reaches) [ inl h ↦ inl (e ∙ h) | inr h ↦ inr (e ∙ h) ]) c.answered.ensures.err
