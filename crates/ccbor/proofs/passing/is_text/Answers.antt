-- What is owed of `is_text`.
use Rattle.std.proofs.Common.{refl}
use Rattle.std.proofs.lemmas.Str.{is_utf8-from_IsUtf8}
use Rattle.ccbor.proofs.Leaves.{no_text}
use Rattle.ccbor.proofs.passing.is_text.Goals as goal

pub returns-in-Ok : goal.returns-in-Ok
returns-in-Ok c = rw (c.if-known.false, is_utf8-from_IsUtf8 c.args.bytes.now c.in-Ok.ensures.cases.1) refl

pub returns-in-Err : goal.returns-in-Err
returns-in-Err c = rw (c.if-known.false, no_text c.args.bytes.now c.in-Err.ensures.cases.0) refl
