-- What is owed of `asked`.
use Rattle.std.proofs.Common.{◌≡◌, ◌∙◌, ap, map}
use Rattle.clap.specs.Words.{App, Row, Text, app_of, subcommand_of, subcommand_rows_of, is_simple}
use Rattle.clap.specs.declared.builder.value_parser.ValueParser.{ValueParser}
use Rattle.std.specs.Prelude.{Option, Some, None, IfSome}
use Rattle.passkey.specs.declared.arguments.Subcommand.{Subcommand}
use Rattle.std.proofs.Common.{List, subst}
use Rattle.passkey.specs.CommandLine.{passkey_app, IsAsked, IsAskedBy}
use Rattle.passkey.proofs.WordRows.{simple}
use Rattle.passkey.proofs.arguments.asked.Goals as goal

-- what was asked, by the stated reading
by_reading : (a b : App) (arguments : List Text) (met : Option (Text × List Row)) (found : Option Subcommand) → a ≡ b → met ≡ subcommand_of a arguments
    → IfSome found (IsAsked met) → IfSome found (IsAsked (subcommand_of b arguments))
by_reading a b arguments met found same is h = subst (λ x. IfSome found (IsAsked x)) (is ∙ ap (λ (x : App). subcommand_of x arguments) same) h

-- what the arguments ask for, of the program's parser
by_arguments : (p q : ValueParser) (arguments : List Text) (found : Option Subcommand) → IfSome found (IsAsked (subcommand_of (passkey_app p q) arguments))
    → IfSome found (IsAskedBy arguments)
by_arguments p q arguments None h = h
by_arguments p q arguments (Some asked) h = (p, q, h)

pub returns : goal.returns
returns c =
    let s = c.requires in
    let arguments = map (λ w. w.now) c.args.arguments.now in
    let met = c.in_ok-matches.ensures.ok.2 (ap is_simple s.2 ∙ simple s.0 s.1) in
    let found = c.in_ok-asked_by.field-0 in
    by_arguments s.0 s.1 arguments found
    (by_reading (app_of c.args.parser.now) (passkey_app s.0 s.1) arguments
    (subcommand_rows_of c.in_ok-matches.matches) found s.2 met.1 c.in_ok-asked_by.ensures)
