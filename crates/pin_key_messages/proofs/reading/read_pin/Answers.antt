-- What is owed of `read_pin`.
use Rattle.std.proofs.Common.{◌∙◌, Some, ap, inl, inr}
use Rattle.ccbor.specs.Viewing.{shown}
use Rattle.ctap_encoding.specs.Table.{record_of}
use Rattle.ctap_open_replies.specs.Reading.{open_in}
use Rattle.ctap_open_replies.proofs.Telling.{is_told}
use Rattle.pin_key_messages.specs.Asking.{TellsAsking, asked_members}
use Rattle.pin_key_messages.specs.AskingView.{asking_view}
use Rattle.pin_key_messages.proofs.Saying.{exact_asking, if_err_both, if_ok, is_said, no_subcommand, untold, whole_content}
use Rattle.pin_key_messages.proofs.reading.read_pin.Goals as goal

pub returns-in-Ok-asked-clause-found : goal.returns-in-Ok-asked-clause-found
returns-in-Ok-asked-clause-found c =
    let v = shown c.in-Ok.value in
    if_ok c.with_subcommand.result (λ a is.
    let e = c.in-Ok-asked.ensures ∙ ap Some is in
    is_said TellsAsking (open_in (record_of asked_members)) whole_content exact_asking 6 c.args.request.now c.in-Some.rest.now c.in-Some.ensures.found v
    c.in-Ok.ensures.found (asking_view a) e (is_told (record_of asked_members) v (whole_content (asking_view a)) e)) c.with_subcommand.ensures.found

pub returns-in-Ok-asked-clause-refused : goal.returns-in-Ok-asked-clause-refused
returns-in-Ok-asked-clause-refused c =
    if_err_both c.with_subcommand.result (no_subcommand c.args.request.now c.in-Some.rest.now (shown c.in-Ok.value) c.in-Ok-asked.members
    c.in-Some.ensures.found c.in-Ok.ensures.found c.in-Ok-asked.ensures) c.with_subcommand.ensures.errors c.with_subcommand.ensures.none

pub returns-in-Err-asked-clause-refused : goal.returns-in-Err-asked-clause-refused
returns-in-Err-asked-clause-refused c =
    inr (inl (untold asked_members 6 c.args.request.now c.in-Some.rest.now (shown c.in-Ok.value) c.in-Some.ensures.found c.in-Ok.ensures.found
    c.in-Err-asked.ensures))
