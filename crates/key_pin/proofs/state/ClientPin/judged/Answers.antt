-- What is owed of `judged`.
use Rattle.std.proofs.Common.{Ok, Err, refl, arith}
use Rattle.pin_protocols.specs.Asks.{entries}
use Rattle.key_pin.specs.declared.end.End.TheVariants as ends
use Rattle.key_pin.specs.declared.outcome.Outcome.TheVariants as made
use Rattle.key_pin.specs.Query.{query_view}
use Rattle.key_pin.specs.State.{pin_view}
use Rattle.key_pin.specs.Steps.{key_agreement, set_pin}
use Rattle.key_pin.proofs.Ending.{at, by_1, by_2, by_3, by_4, by_5, by_9, by_other, kept}
use Rattle.key_pin.proofs.state.ClientPin.judged.Goals as goal

pub returns-in-1 : goal.returns-in-1
returns-in-1 c = at (entries c.args.answers.now) c.args.words.now c.args.pair.now (query_view c.args.asked.now) (pin_view c.args.self.now) c.args.asked.now.subcommand 1 (Ok made.RetriesTold) (pin_view c.args.self.now) c.in-1.is
    (by_1 (entries c.args.answers.now) c.args.words.now c.args.pair.now (query_view c.args.asked.now) (pin_view c.args.self.now) (Ok made.RetriesTold) (pin_view c.args.self.now) (refl, refl))

pub returns-in-2 : goal.returns-in-2
returns-in-2 c = at (entries c.args.answers.now) c.args.words.now c.args.pair.now (query_view c.args.asked.now) (pin_view c.args.self.now) c.args.asked.now.subcommand 2 c.key_agreement.result (pin_view c.args.self.now) c.in-2.is
    (by_2 (entries c.args.answers.now) c.args.words.now c.args.pair.now (query_view c.args.asked.now) (pin_view c.args.self.now) c.key_agreement.result (pin_view c.args.self.now) (kept (key_agreement (query_view c.args.asked.now)) (pin_view c.args.self.now) c.key_agreement.result c.key_agreement.ensures))

pub returns-in-3 : goal.returns-in-3
returns-in-3 c = at (entries c.args.answers.now) c.args.words.now c.args.pair.now (query_view c.args.asked.now) (pin_view c.args.self.now) c.args.asked.now.subcommand 3 c.set_pin.result (pin_view c.args.self.now) c.in-3.is
    (by_3 (entries c.args.answers.now) c.args.words.now c.args.pair.now (query_view c.args.asked.now) (pin_view c.args.self.now) c.set_pin.result (pin_view c.args.self.now) (kept (set_pin (entries c.args.answers.now) c.args.pair.now (query_view c.args.asked.now) (pin_view c.args.self.now)) (pin_view c.args.self.now) c.set_pin.result c.set_pin.ensures))

pub returns-in-4 : goal.returns-in-4
returns-in-4 c = at (entries c.args.answers.now) c.args.words.now c.args.pair.now (query_view c.args.asked.now) (pin_view c.args.self.now) c.args.asked.now.subcommand 4 c.change_pin.result (pin_view c.change_pin.new.self) c.in-4.is
    (by_4 (entries c.args.answers.now) c.args.words.now c.args.pair.now (query_view c.args.asked.now) (pin_view c.args.self.now) c.change_pin.result (pin_view c.change_pin.new.self) c.change_pin.ensures)

pub returns-in-5 : goal.returns-in-5
returns-in-5 c = at (entries c.args.answers.now) c.args.words.now c.args.pair.now (query_view c.args.asked.now) (pin_view c.args.self.now) c.args.asked.now.subcommand 5 c.pin_token.result (pin_view c.pin_token.new.self) c.in-5.is
    (by_5 (entries c.args.answers.now) c.args.words.now c.args.pair.now (query_view c.args.asked.now) (pin_view c.args.self.now) c.pin_token.result (pin_view c.pin_token.new.self) c.pin_token.ensures)

pub returns-in-9 : goal.returns-in-9
returns-in-9 c = at (entries c.args.answers.now) c.args.words.now c.args.pair.now (query_view c.args.asked.now) (pin_view c.args.self.now) c.args.asked.now.subcommand 9 c.token_with_permissions.result (pin_view c.token_with_permissions.new.self) c.in-9.is
    (by_9 (entries c.args.answers.now) c.args.words.now c.args.pair.now (query_view c.args.asked.now) (pin_view c.args.self.now) c.token_with_permissions.result (pin_view c.token_with_permissions.new.self) c.token_with_permissions.ensures)

pub returns-in_default : goal.returns-in_default
returns-in_default c = by_other (entries c.args.answers.now) c.args.words.now c.args.pair.now (query_view c.args.asked.now) (pin_view c.args.self.now) c.args.asked.now.subcommand (Err (ends.Refused 62)) (pin_view c.args.self.now)
    (λ e. omega arith) (λ e. omega arith) (λ e. omega arith) (λ e. omega arith) (λ e. omega arith) (λ e. omega arith) (refl, refl)
