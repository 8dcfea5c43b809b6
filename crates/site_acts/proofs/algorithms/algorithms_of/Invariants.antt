-- What the loop of `algorithms_of` keeps.
use Rattle.std.proofs.Common.{◌≡◌, Some, map, option_and_then, take}
use Rattle.cose.specs.Keys.{number_of}
use Rattle.serde_json.specs.Find.{as_i64, as_number}
use Rattle.serde_json.specs.View.{view}
use Rattle.site_acts.proofs.algorithms.algorithms_of.Given as goal

abbrev pub invariant-loop-item : goal.invariant-loop-item
invariant-loop-item l =
    map (λ alg. Some (number_of alg)) l.list.items ≡ map (λ value. option_and_then as_i64 (as_number (view value))) (take l.item-index l.items)
