-- What the loop of `all_truths` keeps.
use Rattle.std.proofs.Common.{◌≡◌, drop}
use Rattle.ccbor.specs.View.{pairs_view}
use Rattle.ctap_encoding.specs.Table.{all_truths}
use Rattle.ctap_encoding.proofs.faults.all_truths.Given as goal

abbrev pub invariant-loop-key : goal.invariant-loop-key
invariant-loop-key l = all_truths (pairs_view (drop l.key-index l.pairs)) ≡ all_truths (pairs_view l.pairs)
