-- What is owed of `word_of_32`.
use Rattle.std.proofs.Common.{rules}
use Rattle.key_program.proofs.Digits.{of_size}
use Rattle.key_program.proofs.command.word_of_32.Goals as goal

pub returns : goal.returns
returns c = search (rules, of_size)
