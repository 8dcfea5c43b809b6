-- What the loop of `parameter_list` keeps.
use Rattle.std.proofs.Common.{◌≡◌, map, take}
use Rattle.serde_json.specs.View.{view}
use Rattle.site_acts.specs.Options.{parameter}
use Rattle.site_acts.proofs.options.parameter_list.Given as goal

abbrev pub invariant-loop-algorithm : goal.invariant-loop-algorithm
invariant-loop-algorithm l = map view l.list.items ≡ map parameter (take l.algorithm-index l.algorithms)
