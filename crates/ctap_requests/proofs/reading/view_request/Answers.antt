-- What is owed of `view_request`.
use Rattle.std.proofs.Common.{◌≡◌, ◌∷◌, refl, ap, ◌∙◌, ◌||◌, false, arith}
use Rattle.std.proofs.lemmas.Bool.Decides.{nat_tests}
use Rattle.ctap_requests.specs.Status.{has_map, has_none}
use Rattle.ctap_requests.proofs.Commands.{alone_refused, no_byte, no_command}
use Rattle.ctap_requests.proofs.reading.view_request.Goals as goal

pub returns-in_default-clause-refused : goal.returns-in_default-clause-refused
returns-in_default-clause-refused c = no_byte c.args.bytes.now c.in_default.ensures.cases

pub returns-in-4-clause-refused : goal.returns-in-4-clause-refused
returns-in-4-clause-refused c =
    alone_refused 4 _ c.args.bytes.now c.in-Some.rest.now c.alone.result refl (c.in-Some.ensures.cases.0
    ∙ ap (λ b. b ∷ c.in-Some.rest.now) c.in-4.is) c.alone.ensures

pub returns-in-7-clause-refused : goal.returns-in-7-clause-refused
returns-in-7-clause-refused c =
    alone_refused 7 _ c.args.bytes.now c.in-Some.rest.now c.alone-in-7.result refl (c.in-Some.ensures.cases.0
    ∙ ap (λ b. b ∷ c.in-Some.rest.now) c.in-7.is) c.alone-in-7.ensures

pub returns-in-8-clause-refused : goal.returns-in-8-clause-refused
returns-in-8-clause-refused c =
    alone_refused 8 _ c.args.bytes.now c.in-Some.rest.now c.alone-in-8.result refl (c.in-Some.ensures.cases.0
    ∙ ap (λ b. b ∷ c.in-Some.rest.now) c.in-8.is) c.alone-in-8.ensures

pub returns-in_default-command-clause-refused : goal.returns-in_default-command-clause-refused
returns-in_default-command-clause-refused c =
    let e : (has_map c.in-Some.command.now || has_none c.in-Some.command.now) ≡ false = grind (arith, nat_tests, c.in_default-command) in
    no_command c.in-Some.command.now c.args.bytes.now c.in-Some.rest.now c.in-Some.ensures.cases.0 e
