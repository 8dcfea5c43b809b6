-- What the loop of `truths_value` keeps.
use Rattle.std.proofs.Common.{◌≡◌, take, map}
use Rattle.std.specs.Prelude.{string_bytes}
use Rattle.ctap_encoding.specs.Building.{pair_list_view}
use Rattle.ctap_encoding.specs.Content.{truth_pair}
use Rattle.ctap_replies.proofs.values.truths_value.Given as goal

abbrev pub invariant-loop-name : goal.invariant-loop-name
invariant-loop-name l = pair_list_view l.pairs.items ≡ map truth_pair (map (λ o. (string_bytes o.0, o.1)) (take l.name-index l.options))
