-- What is owed of `tell_message`.
use Rattle.std.proofs.Common.{rules}
use Rattle.std.proofs.lemmas.List.{append_assoc}
use Rattle.std.proofs.lemmas.Result.{IfOk-equal}
use Rattle.key_program.proofs.Pieces.{lower_joined}
use Rattle.key_program.proofs.telling.tell_message.Goals as goal

pub returns : goal.returns
returns c = search (rules, IfOk-equal, append_assoc, lower_joined)
