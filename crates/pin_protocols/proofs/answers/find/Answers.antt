-- What is owed of `find`.
use Rattle.std.proofs.Common.{ℕ, sym, ap, ◌∙◌, Bor, Vec, Global}
use Rattle.std.specs.Prelude.{option_map}
use Rattle.pin_protocols.specs.declared.ask.Ask.{Ask}
use Rattle.pin_protocols.specs.Asks.{asked}
use Rattle.pin_protocols.proofs.Finding.{answer_is}
use Rattle.pin_protocols.proofs.answers.find.Goals as goal

pub returns-in-Some : goal.returns-in-Some
returns-in-Some c = sym (ap (option_map (λ (e : Bor (Ask × Vec ℕ Global)). e.now.1.items)) c.in-Some.is)
    ∙ answer_is (asked c.args.operation c.args.key.now c.args.iv.now c.args.text.now) c.args.answers.now c.first_of.result c.first_of.ensures

pub returns-in-None : goal.returns-in-None
returns-in-None c = sym (ap (option_map (λ (e : Bor (Ask × Vec ℕ Global)). e.now.1.items)) c.in-None.is)
    ∙ answer_is (asked c.args.operation c.args.key.now c.args.iv.now c.args.text.now) c.args.answers.now c.first_of.result c.first_of.ensures
