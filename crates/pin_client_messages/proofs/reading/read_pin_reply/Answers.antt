-- What is owed of `read_pin_reply`.
use Rattle.ccbor.specs.Viewing.{shown}
use Rattle.ctap_encoding.specs.Table.{record_of}
use Rattle.ctap_encoding.specs.declared.error.Error.TheVariants as errors
use Rattle.ctap_open_replies.specs.Reading.{open_in}
use Rattle.ctap_open_replies.proofs.Laws.{is_reply, is_shape, never_both}
use Rattle.ctap_open_replies.proofs.Telling.{is_told}
use Rattle.pin_client_messages.specs.Replies.{TellsPin, reply_content, reply_members}
use Rattle.pin_client_messages.specs.ReplyView.{reply_view}
use Rattle.pin_client_messages.proofs.Laws.{exact_reply}
use Rattle.pin_client_messages.proofs.reading.read_pin_reply.Goals as goal

pub returns-in-Ok-reply-clause-found : goal.returns-in-Ok-reply-clause-found
returns-in-Ok-reply-clause-found c =
    let r = c.in-Ok-reply in
    is_reply TellsPin (open_in (record_of reply_members)) reply_content exact_reply c.args.bytes.now (shown c.in-Ok.value) c.in-Ok.ensures.found
    (reply_view r.reply) (is_told (record_of reply_members) (shown c.in-Ok.value) (reply_content (reply_view r.reply)) r.ensures)

pub returns-in-Err-reply-clause-refused : goal.returns-in-Err-reply-clause-refused
returns-in-Err-reply-clause-refused c =
    is_shape TellsPin (open_in (record_of reply_members)) reply_content exact_reply c.args.bytes.now (shown c.in-Ok.value) c.in-Ok.ensures.found
    c.in-Err-reply.ensures

pub returns-in-Err-reply-clause-none : goal.returns-in-Err-reply-clause-none
returns-in-Err-reply-clause-none c =
    never_both TellsPin c.args.bytes.now errors.Shape (is_shape TellsPin (open_in (record_of reply_members)) reply_content exact_reply c.args.bytes.now
    (shown c.in-Ok.value) c.in-Ok.ensures.found c.in-Err-reply.ensures) (λ e. absurd cc)
