-- What is owed of `push_assertion`.
use Rattle.std.proofs.Common.{◌∙◌, ap, None, option_map}
use Rattle.ccbor.specs.Item.{map, uint}
use Rattle.ctap_encoding.specs.Table.{list_of, record_of}
use Rattle.ctap_encoding.specs.Content.{item_of}
use Rattle.ctap_encoding.specs.Building.{pair_list_view}
use Rattle.ctap_open_replies.specs.Replies.{credential_members}
use Rattle.pin_client_messages.proofs.Building.{all_pairs, none_pushed, pushed, pushed_if_there}
use Rattle.ctap_open_requests.specs.RequestView.{auth_view}
use Rattle.ctap_open_requests.proofs.Finishing.{pushed_end, same_item}
use Rattle.ctap_open_requests.proofs.writing.push_assertion.Goals as goal

pub returns : goal.returns
returns c =
    ap map (all_pairs _
    ∙ pushed_end (uint 5) (uint 6) (uint 7) (record { rk = None; up = c.args.request.options.up; uv = c.args.request.options.uv }) (option_map auth_view c.args.request.auth)
    (pair_list_view c.push_if_there-2.new.pairs.items) _ _ c.in_ok-push_end.ensures
    ∙ pushed_if_there (λ x. x) _ _ _ _ _ _ c.in_ok-push_if_there-2.ensures (same_item _)
    ∙ pushed_if_there (item_of (list_of (record_of credential_members))) _ _ _ _ _ _ c.in_ok-push_if_there.ensures c.in_ok-allow.ensures
    ∙ pushed _ _ _ _ _ _ c.in_ok-push_member-2.ensures c.in_ok-hash.ensures
    ∙ pushed _ _ _ _ _ _ c.in_ok-push_member.ensures c.in_ok-rp_id.ensures
    ∙ none_pushed _ _ (ap pair_list_view c.requires))
