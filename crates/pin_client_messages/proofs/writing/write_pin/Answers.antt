-- What is owed of `write_pin`.
use Rattle.std.proofs.Common.{◌≡◌, ◌∙◌, ap, sym, subst}
use Rattle.ccbor.specs.Item.{Item}
use Rattle.ccbor.specs.Canon.{Canon}
use Rattle.ccbor.specs.View.{view}
use Rattle.ctap_encoding.specs.Table.{record_of}
use Rattle.ctap_encoding.specs.Content.{item_of}
use Rattle.pin_client_messages.specs.CommandView.{command_view}
use Rattle.pin_client_messages.specs.Commands.{pin_content, pin_members}
use Rattle.pin_client_messages.proofs.writing.write_pin.Goals as goal

pub returns-in-None-clause-unfit : goal.returns-in-None-clause-unfit
returns-in-None-clause-unfit c = λ e bs spelled.
    let is : view c.in_ok-value.value ≡ item_of (record_of pin_members) (pin_content c.args.protocol (command_view c.args.command.now)) =
    c.in_ok-value.ensures ∙ ap (item_of (record_of pin_members)) c.members_of-members.ensures in
    c.with_map.ensures.unfit e spelled.0 (subst (λ (i : Item). Canon i spelled.0) (sym is) spelled.2)
