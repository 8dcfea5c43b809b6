-- What the loop of `descriptors_value` keeps.
use Rattle.std.proofs.Common.{◌≡◌, take, map}
use Rattle.ccbor.specs.View.{view}
use Rattle.ctap_encoding.specs.Table.{record_of}
use Rattle.ctap_encoding.specs.Content.{item_of}
use Rattle.ctap_open_replies.specs.Replies.{credential_content, credential_members}
use Rattle.ctap_open_requests.proofs.values.descriptors_value.Given as goal

abbrev pub invariant-loop-id : goal.invariant-loop-id
invariant-loop-id l = map view l.items.items ≡ map (item_of (record_of credential_members))
    (map credential_content (map (λ b. b.now) (take l.id-index l.ids)))
