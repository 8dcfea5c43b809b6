-- What the loop of `pairs_without` keeps.
use Rattle.std.proofs.Common.{◌≡◌}
use Rattle.ccbor.specs.Viewing.{shown_pairs}
use Rattle.ctap_encoding.specs.Building.{pair_list_view}
use Rattle.pin_client_messages.proofs.Building.{onto}
use Rattle.pin_key_messages.specs.Protected.{without}
use Rattle.pin_key_messages.proofs.bare.pairs_without.Given as goal

abbrev pub invariant-loop-key : goal.invariant-loop-key
invariant-loop-key l = onto (pair_list_view l.pairs.items) (without l.param l.protocol (shown_pairs l.rest)) ≡ without l.param l.protocol (shown_pairs l.initial.rest)

abbrev pub decreases-loop-key : goal.decreases-loop-key
decreases-loop-key l = l.rest.0
