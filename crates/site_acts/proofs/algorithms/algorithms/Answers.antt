-- What is owed of `algorithms`.
use Rattle.std.proofs.Common.{rules}
use Rattle.site_acts.specs.Faults.{IsKnownAlgorithm}
use Rattle.json_lines.proofs.Amiss.{list_amiss}
use Rattle.serde_json.specs.View.{view}
use Rattle.site_acts.proofs.Lists.{algorithms_are}
use Rattle.site_acts.proofs.algorithms.algorithms.Goals as goal

pub returns-clause-found : goal.returns-clause-found
returns-clause-found c =
    algorithms_are (view c.args.object.now) (view c.in-Some.value.now) c.as_slice.result.now c.in_ok-list.list.items (search rules) (search rules) (search rules)

pub returns-in_err-list-clause-amiss : goal.returns-in_err-list-clause-amiss
returns-in_err-list-clause-amiss c =
    let amiss = list_amiss _ IsKnownAlgorithm (view c.args.object.now) (view c.in-Some.value.now) c.as_slice.result.now c.in_err-list.field-0.0 (search rules) (search rules) c.in_err-list.ensures.refused in
    search (rules, amiss)
