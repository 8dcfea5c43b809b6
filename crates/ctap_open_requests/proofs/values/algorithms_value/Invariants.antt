-- What the loop of `algorithms_value` keeps.
use Rattle.std.proofs.Common.{◌≡◌, take, map}
use Rattle.ccbor.specs.View.{view}
use Rattle.ctap_encoding.specs.Table.{record_of}
use Rattle.ctap_encoding.specs.Content.{item_of}
use Rattle.ctap_requests.specs.Entities.{parameters_members}
use Rattle.ctap_open_requests.specs.Requests.{algorithm_content}
use Rattle.ctap_open_requests.proofs.values.algorithms_value.Given as goal

abbrev pub invariant-loop-alg : goal.invariant-loop-alg
invariant-loop-alg l = map view l.items.items ≡ map (item_of (record_of parameters_members)) (map algorithm_content (take l.alg-index l.algorithms))
