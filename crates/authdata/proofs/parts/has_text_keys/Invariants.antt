-- What the loop of `has_text_keys` keeps.
use Rattle.std.proofs.Common.{◌↔◌}
use Rattle.ccbor.specs.Viewing.{shown_pairs}
use Rattle.authdata.specs.Layout.{HasTextKeys}
use Rattle.authdata.proofs.parts.has_text_keys.Given as goal

abbrev pub invariant-loop-key : goal.invariant-loop-key
invariant-loop-key l = HasTextKeys (shown_pairs l.pairs) ↔ HasTextKeys (shown_pairs l.fn.map)

abbrev pub decreases-loop-key : goal.decreases-loop-key
decreases-loop-key l = l.pairs.0
