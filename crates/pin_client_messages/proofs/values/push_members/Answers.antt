-- What is owed of `push_members`.
use Rattle.std.proofs.Common.{◌∙◌, ap}
use Rattle.ccbor.specs.Item.{map, bytes, text, uint}
use Rattle.ctap_encoding.specs.Table.{record_of}
use Rattle.ctap_encoding.specs.Content.{item_of}
use Rattle.ctap_encoding.specs.Building.{pair_list_view}
use Rattle.pin_client_messages.specs.Commands.{key_members}
use Rattle.pin_client_messages.proofs.Building.{all_pairs, none_pushed, pushed, pushed_if_there, view-Uint}
use Rattle.pin_client_messages.proofs.values.push_members.Goals as goal

pub returns : goal.returns
returns c =
    ap map (all_pairs _
    ∙ pushed_if_there text _ _ _ _ _ _ c.in_ok-push_if_there-6.ensures c.in_ok-rp_id.ensures
    ∙ pushed_if_there uint _ _ _ _ _ _ c.in_ok-push_if_there-5.ensures c.number_if_there-permissions.ensures
    ∙ pushed_if_there bytes _ _ _ _ _ _ c.in_ok-push_if_there-4.ensures c.in_ok-pin_hash.ensures
    ∙ pushed_if_there bytes _ _ _ _ _ _ c.in_ok-push_if_there-3.ensures c.in_ok-new_pin.ensures
    ∙ pushed_if_there bytes _ _ _ _ _ _ c.in_ok-push_if_there-2.ensures c.in_ok-param.ensures
    ∙ pushed_if_there (item_of (record_of key_members)) _ _ _ _ _ _ c.in_ok-push_if_there.ensures c.in_ok-key.ensures
    ∙ pushed _ _ _ _ _ _ c.in_ok-push_member-2.ensures (view-Uint _)
    ∙ pushed _ _ _ _ _ _ c.in_ok-push_member.ensures (view-Uint _)
    ∙ none_pushed _ _ (ap pair_list_view c.requires))
