-- What is owed of `bytes_of`.
use Rattle.std.proofs.Common.{rules}
use Rattle.json_lines.specs.Faults.{AreBytes}
use Rattle.json_lines.proofs.Amiss.{item_refused}
use Rattle.json_lines.proofs.members.bytes_of.Goals as goal

pub returns-in_err-decoded-clause-refused : goal.returns-in_err-decoded-clause-refused
returns-in_err-decoded-clause-refused c =
    let refused = item_refused c.args.name AreBytes c.args.items.now c.loop-item.item-index c.item-item.result c.in_err-decoded.field-0.0 (search rules) (search rules) c.in_err-decoded.ensures.refused in
    search (rules, refused)
