-- What is owed of `creation_extensions`.
use Rattle.std.proofs.Common.{◌∙◌, ap}
use Rattle.ccbor.specs.Item.{map, boolean, bytes, uint}
use Rattle.ccbor.proofs.Views.{view-Map}
use Rattle.ctap_encoding.specs.Building.{pair_list_view}
use Rattle.pin_client_messages.proofs.Building.{all_pairs, none_pushed, pushed_if_there}
use Rattle.ctap_open_requests.proofs.extensions.creation_extensions.Goals as goal

pub returns : goal.returns
returns c =
    view-Map c.push_if_there-5.new.pairs
    ∙ ap map (all_pairs _
    ∙ pushed_if_there boolean _ _ _ _ _ _ c.in_ok-push_if_there-5.ensures c.truth_if_wanted-min_pin_length.ensures
    ∙ pushed_if_there boolean _ _ _ _ _ _ c.in_ok-push_if_there-4.ensures c.truth_if_wanted-large_blob_key.ensures
    ∙ pushed_if_there boolean _ _ _ _ _ _ c.in_ok-push_if_there-3.ensures c.truth_if_wanted-hmac_secret.ensures
    ∙ pushed_if_there uint _ _ _ _ _ _ c.in_ok-push_if_there-2.ensures c.number_if_there-cred_protect.ensures
    ∙ pushed_if_there bytes _ _ _ _ _ _ c.in_ok-push_if_there.ensures c.in_ok-cred_blob.ensures
    ∙ none_pushed _ _ (ap pair_list_view c.new-pairs.ensures.items))
