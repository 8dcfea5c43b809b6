-- What is owed of `transports_of`.
use Rattle.std.proofs.Common.{rules}
use Rattle.site_acts.specs.Faults.{IsTransport}
use Rattle.json_lines.proofs.Amiss.{item_refused}
use Rattle.site_acts.proofs.transports.transports_of.Goals as goal

pub returns-in_err-transport-clause-refused : goal.returns-in_err-transport-clause-refused
returns-in_err-transport-clause-refused c =
    let refused = item_refused c.args.name IsTransport c.args.items.now c.loop-item.item-index c.item-item.result c.in_err-transport.field-0.0 (search rules) (search rules) c.in_err-transport.ensures.refused in
    search (rules, refused)
