-- What is owed of `reply_value`.
use Rattle.std.proofs.Common.{◌∙◌, ap}
use Rattle.ccbor.specs.Item.{boolean, bytes, map, uint}
use Rattle.ccbor.proofs.Views.{view-Map}
use Rattle.ctap_encoding.specs.Table.{record_of}
use Rattle.ctap_encoding.specs.Content.{item_of}
use Rattle.ctap_encoding.specs.Building.{pair_list_view}
use Rattle.pin_client_messages.specs.Commands.{key_members}
use Rattle.pin_client_messages.proofs.Building.{all_pairs, none_pushed, pushed_if_there}
use Rattle.pin_key_messages.proofs.writing.reply_value.Goals as goal

pub returns-clause-value : goal.returns-clause-value
returns-clause-value c =
    view-Map c.push_if_there-5.new.pairs
    ∙ ap map (all_pairs _
    ∙ pushed_if_there uint _ _ _ _ _ _ c.in_ok-push_if_there-5.ensures c.number_if_there-uv_retries.ensures
    ∙ pushed_if_there boolean _ _ _ _ _ _ c.in_ok-push_if_there-4.ensures c.truth_if_there-power_cycle.ensures
    ∙ pushed_if_there uint _ _ _ _ _ _ c.in_ok-push_if_there-3.ensures c.number_if_there-pin_retries.ensures
    ∙ pushed_if_there bytes _ _ _ _ _ _ c.in_ok-push_if_there-2.ensures c.in_ok-token.ensures
    ∙ pushed_if_there (item_of (record_of key_members)) _ _ _ _ _ _ c.in_ok-push_if_there.ensures c.in_ok-key.ensures.value
    ∙ none_pushed _ _ (ap pair_list_view c.new-pairs.ensures.items))
