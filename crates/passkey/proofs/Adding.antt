-- What a parser is with one more argument.
use Rattle.std.proofs.Common.{◌≡◌, ◌∙◌, ap, false}
use Rattle.std.specs.Prelude.{◌||◌, IfOk, Result, Ok, Err}
use Rattle.clap.specs.Words.{AddsArg, App, Rule, rule_of, with_rule}
use Rattle.clap.specs.declared.builder.arg.Arg.{Arg}
use Rattle.clap.specs.declared.builder.command.Command.{Command}
use Rattle.clap.specs.declared.builder.value_parser.ValueParser.{ValueParser}
use Rattle.passkey.specs.CommandLine.{HasApp, HasAppOf}
use Rattle.passkey.specs.Private.{HasRuleOf}

added : (app : App) (rule : Rule) (old new : Command) (a : Arg) → HasApp app old → rule_of a ≡ rule → a.global ≡ false → AddsArg old a new → HasApp (with_rule app rule) new
added app rule old new a has is local adds = (
  adds.shape local ∙ ap (λ x. with_rule x (rule_of a)) has.0 ∙ ap (with_rule app) is,
  adds.globals ∙ ap (λ x. x || a.global) has.1 ∙ local,
)

-- whatever parser the argument has
pub added_of : {E : Type 0} (app : App) (rule : ValueParser → Rule) (old : Command) (a : Arg) (result : Result Command E) → HasApp app old → HasRuleOf rule a → a.global ≡ false
    → IfOk result (λ new. AddsArg old a new) → IfOk result (λ new. HasAppOf (λ p. with_rule app (rule p)) new)
added_of app rule old a (Ok new) has has_rule local adds =
    let whole = added app (rule has_rule.0) old new a has has_rule.1 local adds in
    (has_rule.0, whole.0, whole.1)
added_of app rule old a (Err e) has has_rule local adds = tt
