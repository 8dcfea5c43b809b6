-- What is owed of `unmarked_text`.
use Rattle.std.proofs.Common.{arith}
use Rattle.std.proofs.lemmas.Grind.{common_steps}
use Rattle.std.proofs.lemmas.Str.{is_utf8-from_IsUtf8}
use Rattle.clientdata.proofs.Quotes.{not_utf8}
use Rattle.clientdata.proofs.seen.unmarked_text.Goals as goal

pub returns-in-Ok : goal.returns-in-Ok
returns-in-Ok c = let text = is_utf8-from_IsUtf8 _ c.in-Ok.ensures.cases.1 in grind (arith, common_steps, text)

pub returns-in-Err : goal.returns-in-Err
returns-in-Err c = not_utf8 _ _ c.in-Err.ensures.cases.0
