-- What is owed of `read_creation`.
use Rattle.ccbor.specs.Viewing.{shown}
use Rattle.ctap_encoding.specs.Table.{record_of}
use Rattle.ctap_encoding.specs.Numbers.{of_map}
use Rattle.ctap_open_replies.specs.Reading.{open_in}
use Rattle.ctap_open_replies.specs.Replies.{TellsCreation, creation_content, creation_members}
use Rattle.ctap_open_replies.specs.ReplyView.{creation_view}
use Rattle.ctap_open_replies.proofs.Laws.{exact_creation, is_refused, is_reply, never_both, no_value}
use Rattle.ctap_open_replies.proofs.Telling.{is_told}
use Rattle.ctap_open_replies.proofs.reading.read_creation.Goals as goal

pub returns-in-Ok-creation-clause-found : goal.returns-in-Ok-creation-clause-found
returns-in-Ok-creation-clause-found c =
    let r = c.in-Ok-creation in
    is_reply TellsCreation (open_in (record_of creation_members)) creation_content exact_creation c.args.bytes.now (shown c.in-Ok.value) c.in-Ok.ensures.found
    (creation_view r.reply) (is_told (record_of creation_members) (shown c.in-Ok.value) (creation_content (creation_view r.reply)) r.ensures)

pub returns-in-Err-creation-clause-refused : goal.returns-in-Err-creation-clause-refused
returns-in-Err-creation-clause-refused c =
    rw c.from.ensures (is_refused TellsCreation (open_in (record_of creation_members)) creation_content exact_creation c.args.bytes.now (shown c.in-Ok.value)
    c.in-Ok.ensures.found c.in-Err-creation.e c.in-Err-creation.ensures)

pub returns-in-Err-creation-clause-none : goal.returns-in-Err-creation-clause-none
returns-in-Err-creation-clause-none c =
    rw c.from.ensures (never_both TellsCreation c.args.bytes.now (of_map c.in-Err-creation.e) (is_refused TellsCreation (open_in (record_of creation_members)) creation_content exact_creation
    c.args.bytes.now (shown c.in-Ok.value) c.in-Ok.ensures.found c.in-Err-creation.e c.in-Err-creation.ensures))

pub returns-in-Err-clause-none : goal.returns-in-Err-clause-none
returns-in-Err-clause-none c = never_both TellsCreation c.args.bytes.now c.in-Err.e (no_value TellsCreation c.args.bytes.now c.in-Err.e c.in-Err.ensures.refused)
