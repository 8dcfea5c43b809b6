-- What private functions are proved against; no public clause cites it.
use Rattle.std.specs.Prelude.{◌≡◌, Some, true}
use Rattle.clap.specs.Words.{Rule, Text, new_rule, rule_of}
use Rattle.clap.specs.declared.builder.arg.Arg.{Arg}
use Rattle.clap.specs.declared.builder.value_parser.ValueParser.{ValueParser}

-- the argument has the rule, whatever parser it has
abbrev pub HasRuleOf : (ValueParser → Rule) → Arg → Type 0
HasRuleOf rule a = (p : ValueParser) × (rule_of a ≡ rule p)

-- an argument that is required, with its parser
abbrev pub chosen : Text → ValueParser → Rule
chosen name p = record (new_rule name) { required = true; parser = Some p }
