-- What the loop of `all_listed` keeps.
use Rattle.std.proofs.Common.{◌≡◌, drop}
use Rattle.ccbor.specs.View.{pairs_view}
use Rattle.ctap_encoding.specs.Table.{all_keys, is_listed}
use Rattle.ctap_encoding.specs.TableView.{members_view}
use Rattle.ctap_encoding.proofs.faults.all_listed.Given as goal

abbrev pub invariant-loop-key : goal.invariant-loop-key
invariant-loop-key l = all_keys (is_listed (members_view l.members)) (pairs_view (drop l.key-index l.pairs)) ≡ all_keys (is_listed (members_view l.members))
    (pairs_view l.pairs)
