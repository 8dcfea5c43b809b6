-- What is owed of `list_of_bytes`.
use Rattle.std.proofs.Common.{rules, sym}
use Rattle.json_lines.specs.Faults.{AreBytes}
use Rattle.json_lines.proofs.Amiss.{items_amiss}
use Rattle.serde_json.specs.View.{view}
use Rattle.json_lines.proofs.Lists.{list_is}
use Rattle.json_lines.proofs.members.list_of_bytes.Goals as goal

pub returns-clause-found : goal.returns-clause-found
returns-clause-found c = list_is c.args.name.now (view c.args.object.now) c.in_ok-items.items.now c.in_ok-list.list.items c.in_ok-items.ensures.found (sym c.in_ok-list.ensures.found)

pub returns-in_err-list-clause-amiss : goal.returns-in_err-list-clause-amiss
returns-in_err-list-clause-amiss c =
    let amiss = items_amiss c.args.name AreBytes (view c.args.object.now) c.in_ok-items.items.now c.in_err-list.field-0.0 c.in_ok-items.ensures.found c.in_err-list.ensures.refused in
    search (rules, amiss)
