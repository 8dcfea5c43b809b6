-- What is owed of `algorithms_of`.
use Rattle.std.proofs.Common.{rules}
use Rattle.site_acts.specs.Faults.{IsKnownAlgorithm}
use Rattle.json_lines.proofs.Amiss.{item_refused}
use Rattle.site_acts.proofs.algorithms.algorithms_of.Goals as goal

pub returns-in_err-algorithm-clause-refused : goal.returns-in_err-algorithm-clause-refused
returns-in_err-algorithm-clause-refused c =
    let refused = item_refused c.args.name IsKnownAlgorithm c.args.items.now c.loop-item.item-index c.item-item.result c.in_err-algorithm.field-0.0 (search rules) (search rules) c.in_err-algorithm.ensures.refused in
    search (rules, refused)
