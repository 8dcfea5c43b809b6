-- What is owed of `check_type`.
use Rattle.std.proofs.Common.{◌∙◌, ap, codes}
use Rattle.std.specs.Prelude.{Some}
use Rattle.clap.specs.Words.{Rule, new_app, rule_of}
use Rattle.clap.specs.declared.builder.arg.Arg.{Arg}
use Rattle.passkey.specs.Private.{chosen}
use Rattle.passkey.proofs.Adding.{added_of}
use Rattle.passkey.proofs.arguments.check_type.Goals as goal

pub returns : goal.returns
returns c =
    let chosen_rule = c.choice.ensures.rule in
    let named = ap rule_of c.long-kind.ensures ∙ ap (λ (r : Rule). record r { long = Some (codes "type") }) chosen_rule.1 in
    added_of (new_app (codes "check")) (λ p. record (chosen (codes "type") p) { long = Some (codes "type") }) c.plain-parser.result c.long-kind.result c.arg.result
    c.plain-parser.ensures (chosen_rule.0, named) (ap (λ (a : Arg). a.global) c.long-kind.ensures ∙ c.choice.ensures.local) c.arg.ensures
