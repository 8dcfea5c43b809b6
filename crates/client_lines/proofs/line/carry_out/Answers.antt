-- What is owed of `carry_out`.
use Rattle.client_lines.proofs.Taken.{answers}
use Rattle.client_lines.proofs.line.carry_out.Goals as goal

pub returns-in-Ok : goal.returns-in-Ok
returns-in-Ok c =
    answers c.args.client.now c.carried_out.new.client c.args.line.now c.in-Ok.line c.carried_out.result.id c.carried_out.result.told
    c.in-Ok.ensures.found c.carried_out.ensures
