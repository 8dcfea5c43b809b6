-- What is owed of `read_info`.
use Rattle.ccbor.specs.Viewing.{shown}
use Rattle.ctap_encoding.specs.Table.{record_of}
use Rattle.ctap_encoding.specs.Numbers.{of_map}
use Rattle.ctap_open_replies.specs.Reading.{open_in}
use Rattle.ctap_open_replies.specs.Replies.{TellsInfo, info_content, info_members}
use Rattle.ctap_open_replies.specs.ReplyView.{info_view}
use Rattle.ctap_open_replies.proofs.Laws.{exact_info, is_refused, is_reply, never_both, no_value}
use Rattle.ctap_open_replies.proofs.Telling.{is_told}
use Rattle.ctap_open_replies.proofs.reading.read_info.Goals as goal

pub returns-in-Ok-info-clause-found : goal.returns-in-Ok-info-clause-found
returns-in-Ok-info-clause-found c =
    let r = c.in-Ok-info in
    is_reply TellsInfo (open_in (record_of info_members)) info_content exact_info c.args.bytes.now (shown c.in-Ok.value) c.in-Ok.ensures.found
    (info_view r.reply) (is_told (record_of info_members) (shown c.in-Ok.value) (info_content (info_view r.reply)) r.ensures)

pub returns-in-Err-info-clause-refused : goal.returns-in-Err-info-clause-refused
returns-in-Err-info-clause-refused c =
    rw c.from.ensures (is_refused TellsInfo (open_in (record_of info_members)) info_content exact_info c.args.bytes.now (shown c.in-Ok.value)
    c.in-Ok.ensures.found c.in-Err-info.e c.in-Err-info.ensures)

pub returns-in-Err-info-clause-none : goal.returns-in-Err-info-clause-none
returns-in-Err-info-clause-none c =
    rw c.from.ensures (never_both TellsInfo c.args.bytes.now (of_map c.in-Err-info.e) (is_refused TellsInfo (open_in (record_of info_members)) info_content exact_info
    c.args.bytes.now (shown c.in-Ok.value) c.in-Ok.ensures.found c.in-Err-info.e c.in-Err-info.ensures))

pub returns-in-Err-clause-none : goal.returns-in-Err-clause-none
returns-in-Err-clause-none c = never_both TellsInfo c.args.bytes.now c.in-Err.e (no_value TellsInfo c.args.bytes.now c.in-Err.e c.in-Err.ensures.refused)
