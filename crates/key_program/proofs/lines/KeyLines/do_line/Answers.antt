-- What is owed of `KeyLines::do_line`.
use Rattle.key_program.proofs.Doing.{does, said}
use Rattle.key_program.proofs.lines.KeyLines.do_line.Goals as goal

pub returns-in-Some : goal.returns-in-Some
returns-in-Some c =
    let k = c.self.inside.key in
    let n = c.carry_out in
    rw (← c.self.view_is) (does c.args.line.now k n.new.self.key c.in-Some.command n.result c.clear.new.self.items n.new.self.sent c.clear.ensures.items
    (said c.args.line.now k c.in-Some.command c.takes_pin.result c.in-Some.ensures.says c.in-Some.ensures.takes c.takes_pin.ensures)
    n.ensures.done n.ensures.refused n.ensures.sent)
