-- What is owed of `take`.
use Rattle.std.proofs.Common.{rules}
use Rattle.client_lines.proofs.Taken.{takes}
use Rattle.client_lines.proofs.machine.Client.take.Goals as goal

pub returns-in-Some-clause-told : goal.returns-in-Some-clause-told
returns-in-Some-clause-told c =
    takes c.args.self.now c.in-Some.ceremony c.take.new.self c.args.further c.take.result (search rules) c.take.ensures.taken
