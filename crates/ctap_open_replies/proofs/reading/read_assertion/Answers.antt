-- What is owed of `read_assertion`.
use Rattle.std.proofs.Common.{option_map}
use Rattle.ccbor.specs.Viewing.{shown}
use Rattle.ctap_encoding.specs.declared.error.Error.TheVariants as errors
use Rattle.ctap_open_replies.specs.Reading.{assertion_in}
use Rattle.ctap_open_replies.specs.Replies.{TellsAssertion}
use Rattle.ctap_open_replies.specs.ReplyView.{assertion_view}
use Rattle.ctap_open_replies.proofs.Laws.{assertion_told, exact_assertion, is_reply, is_shape, never_both}
use Rattle.ctap_open_replies.proofs.reading.read_assertion.Goals as goal

pub returns-in-Ok-assertion-clause-found : goal.returns-in-Ok-assertion-clause-found
returns-in-Ok-assertion-clause-found c =
    let alone = option_map (λ b. b.now) c.args.listed in
    let r = c.in-Ok-assertion in
    is_reply (TellsAssertion alone) (assertion_in alone) (λ q. q) (exact_assertion alone) c.args.bytes.now (shown c.in-Ok.value) c.in-Ok.ensures.found
    (assertion_view r.reply) (assertion_told alone (shown c.in-Ok.value) (assertion_view r.reply) r.ensures)

pub returns-in-Err-assertion-clause-refused : goal.returns-in-Err-assertion-clause-refused
returns-in-Err-assertion-clause-refused c =
    let alone = option_map (λ b. b.now) c.args.listed in
    is_shape (TellsAssertion alone) (assertion_in alone) (λ q. q) (exact_assertion alone) c.args.bytes.now (shown c.in-Ok.value) c.in-Ok.ensures.found
    c.in-Err-assertion.ensures

pub returns-in-Err-assertion-clause-none : goal.returns-in-Err-assertion-clause-none
returns-in-Err-assertion-clause-none c =
    let alone = option_map (λ b. b.now) c.args.listed in
    never_both (TellsAssertion alone) c.args.bytes.now errors.Shape (is_shape (TellsAssertion alone) (assertion_in alone) (λ q. q) (exact_assertion alone)
    c.args.bytes.now (shown c.in-Ok.value) c.in-Ok.ensures.found c.in-Err-assertion.ensures) (λ e. absurd cc)
