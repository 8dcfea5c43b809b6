-- The command line of the program, and what it asks for, by clap's stated reading.
use Rattle.std.specs.Prelude.{◌≡◌, List, Option, Some, None, codes, true, false}
use Rattle.clap.specs.Words.{App, Row, Rule, Text, app_of, new_app, new_rule, with_rule, with_subcommand, subcommand_of, first_of, one_of}
use Rattle.std.specs.Prelude.{string_bytes}
use Rattle.clientdata.specs.declared.record.CeremonyType.{CeremonyType}
use Rattle.clientdata.specs.declared.record.CeremonyType.TheVariants.{Create, Get}
use Rattle.passkey.specs.declared.arguments.Inspection.{Inspection}
use Rattle.passkey.specs.declared.arguments.Inspection.TheVariants.{Cbor, AuthData, Packets, ClientData}
use Rattle.passkey.specs.declared.arguments.Subcommand.{Subcommand}
use Rattle.passkey.specs.declared.arguments.Subcommand.TheVariants.{Inspect, Check, Replay, Explain}
use Rattle.clap.specs.declared.builder.command.Command.TheViews.{out-Command as fields_of}
use Rattle.clap.specs.declared.builder.command.Command.{Command}
use Rattle.clap.specs.declared.builder.value_parser.ValueParser.{ValueParser}
use Rattle.clap.specs.declared.builder.ArgAction.TheVariants.{SetTrue}

-- the command has the shape, whatever parser one of its arguments has
abbrev pub HasAppOf : (ValueParser → App) → Command → Type 0
HasAppOf app c = (p : ValueParser) × (app_of c ≡ app p) × ((fields_of c).has_globals ≡ false)

-- the command has just this
abbrev pub HasApp : App → Command → Type 0
HasApp app c = (app_of c ≡ app) × ((fields_of c).has_globals ≡ false)

abbrev pub inspect_app : ValueParser → App
inspect_app p = with_rule (new_app (codes "inspect")) (record (new_rule (codes "kind")) { required = true; parser = Some p })

-- an option that is required
abbrev pub required_option : Text → Rule
required_option name = record (new_rule name) { long = Some name; required = true }

abbrev pub check_type_app : ValueParser → App
check_type_app p = with_rule (new_app (codes "check")) (record (required_option (codes "type")) { parser = Some p })

abbrev pub check_options_app : ValueParser → App
check_options_app p = with_rule (with_rule (check_type_app p) (required_option (codes "challenge"))) (required_option (codes "origin"))

abbrev pub check_app : ValueParser → App
check_app p = with_rule (check_options_app p) (record (new_rule (codes "cross")) { long = Some (codes "cross"); action = Some SetTrue })

abbrev pub replay_app : App
replay_app = new_app (codes "replay")

abbrev pub explain_json_app : App
explain_json_app = with_rule (new_app (codes "explain")) (record (new_rule (codes "json")) { long = Some (codes "json"); action = Some SetTrue })

abbrev pub explain_app : App
explain_app = with_rule explain_json_app (record (new_rule (codes "file")) { required = true })

abbrev pub required : App → App
required a = record { top = record a.top { subcommand_required = true }; subs = a.subs }

-- with its first subcommand, with two, three and four
abbrev pub inspecting_app : ValueParser → App
inspecting_app p = with_subcommand (required (new_app (codes "passkey"))) (inspect_app p).top

abbrev pub checking_app : ValueParser → ValueParser → App
checking_app p q = with_subcommand (inspecting_app p) (check_app q).top

abbrev pub replaying_app : ValueParser → ValueParser → App
replaying_app p q = with_subcommand (checking_app p q) replay_app.top

abbrev pub passkey_app : ValueParser → ValueParser → App
passkey_app p q = with_subcommand (replaying_app p q) explain_app.top

-- the command has the shape, whatever two parsers its arguments have
abbrev pub HasAppOfBoth : (ValueParser → ValueParser → App) → Command → Type 0
HasAppOfBoth app c = (p q : ValueParser) × (app_of c ≡ app p q) × ((fields_of c).has_globals ≡ false)

-- the word for a kind of bytes
abbrev pub inspection_word : Inspection → Text
inspection_word Cbor = codes "cbor"
inspection_word AuthData = codes "authdata"
inspection_word Packets = codes "packets"
inspection_word ClientData = codes "clientdata"

-- the word for a ceremony
abbrev pub ceremony_word : CeremonyType → Text
ceremony_word Create = codes "create"
ceremony_word Get = codes "get"

-- what a subcommand and its values ask for
abbrev pub IsAsked : Option (Text × List Row) → Subcommand → Type 0
IsAsked None a = ⊥
IsAsked (Some s) (Inspect kind) = (s.0 ≡ codes "inspect") × (first_of (codes "kind") s.1 ≡ Some (inspection_word kind))
IsAsked (Some s) (Check kind challenge origin cross) =
    (s.0 ≡ codes "check") × (first_of (codes "type") s.1 ≡ Some (ceremony_word kind)) × (first_of (codes "challenge") s.1 ≡ Some (string_bytes challenge))
    × (first_of (codes "origin") s.1 ≡ Some (string_bytes origin)) × (one_of (codes "cross") s.1 ≡ Some (codes "true") → cross ≡ true)
    × (one_of (codes "cross") s.1 ≡ Some (codes "false") → cross ≡ false)
IsAsked (Some s) Replay = s.0 ≡ codes "replay"
IsAsked (Some s) (Explain json file) =
    (s.0 ≡ codes "explain") × (first_of (codes "file") s.1 ≡ Some (string_bytes file)) × (one_of (codes "json") s.1 ≡ Some (codes "true") → json ≡ true)
    × (one_of (codes "json") s.1 ≡ Some (codes "false") → json ≡ false)

-- what the arguments ask for, as the command line reads them
abbrev pub IsAskedBy : List Text → Subcommand → Type 0
IsAskedBy arguments a = (p q : ValueParser) × IsAsked (subcommand_of (passkey_app p q) arguments) a
