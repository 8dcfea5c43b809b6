-- What is owed of `options_value`.
use Rattle.std.proofs.Common.{◌∙◌, ap}
use Rattle.ccbor.specs.Item.{map, boolean}
use Rattle.ccbor.proofs.Views.{view-Map}
use Rattle.ctap_encoding.specs.Building.{pair_list_view}
use Rattle.pin_client_messages.proofs.Building.{all_pairs, none_pushed, pushed_if_there}
use Rattle.ctap_open_requests.proofs.values.options_value.Goals as goal

pub returns : goal.returns
returns c =
    view-Map c.push_if_there-3.new.pairs
    ∙ ap map (all_pairs _
    ∙ pushed_if_there boolean _ _ _ _ _ _ c.in_ok-push_if_there-3.ensures c.truth_if_there-3.ensures
    ∙ pushed_if_there boolean _ _ _ _ _ _ c.in_ok-push_if_there-2.ensures c.truth_if_there-2.ensures
    ∙ pushed_if_there boolean _ _ _ _ _ _ c.in_ok-push_if_there.ensures c.truth_if_there.ensures
    ∙ none_pushed _ _ (ap pair_list_view c.new-pairs.ensures.items))
