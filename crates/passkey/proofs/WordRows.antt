-- The rows of words that clap reads.
use Rattle.std.proofs.Common.{◌≡◌, List, Some, None, sym, ◌∙◌, refl, arith, true}
use Rattle.std.proofs.lemmas.Grind.{common_steps}
use Rattle.std.specs.Prelude.{Option}
use Rattle.std.specs.Option.{option_map}
use Rattle.clap.specs.Words.{Row, Text, subcommand_rows_of, subcommand_rows, is_simple, found_of, rows_of, first_of, first_value}
use Rattle.clap.specs.Matches.{subcommand_name_of}
use Rattle.clap.specs.declared.parser.matches.ArgMatches.{ArgMatches}
use Rattle.clap.specs.declared.builder.value_parser.ValueParser.{ValueParser}
use Rattle.clap.proofs.WalkLemmas.{first_value-rows}
use Rattle.clap.specs.declared.parser.matches.ArgMatches.TheViews.{out-ArgMatches, out-SubCommand}
use Rattle.clap.specs.declared.parser.matches.SubCommand.{SubCommand}
use Rattle.std.specs.Prelude.{Box}
use Rattle.std.specs.Box.{box_value}
use Rattle.passkey.specs.CommandLine.{passkey_app}

-- an option by its two parts
by_parts : {A B : Type 0} (o : Option (A × B)) (a : A) (b : B) → option_map (λ p. p.0) o ≡ Some a → option_map (λ p. p.1) o ≡ Some b → o ≡ Some (a, b)
by_parts None a b e h = grind (arith, common_steps, e)
by_parts (Some p) a b e h = grind (arith, common_steps, e, h)

-- the value of an argument, as a row has it
pub first_in : (m : ArgMatches) (id t : Text) → Some t ≡ first_value (found_of m) id → first_of id (rows_of (found_of m)) ≡ Some t
first_in m id t e = sym (e ∙ first_value-rows (found_of m) id)

-- the command is one whose matches are stated
pub simple : (p q : ValueParser) → is_simple (passkey_app p q) ≡ true
simple p q = refl

module _ {Z : Type 0} where
  names_are : (o : Option (Box SubCommand Z)) → option_map (λ p. p.0) (subcommand_rows o) ≡ option_map (λ b. (out-SubCommand (box_value b)).name.now) o
  names_are None = refl
  names_are (Some b) = refl

-- the subcommand that was met, with its rows
pub rows_are : (m : ArgMatches) (name : Text) (rows : List Row) → subcommand_name_of m ≡ Some name → option_map (λ p. p.1) (subcommand_rows_of m) ≡ Some rows
    → subcommand_rows_of m ≡ Some (name, rows)
rows_are m name rows e h = by_parts (subcommand_rows_of m) name rows (names_are (out-ArgMatches m).subcommand ∙ e) h
