-- What is owed of `ExpectedOrigin::written`.
use Rattle.std.proofs.Common.{IsUtf8, subst}
use Rattle.std.proofs.lemmas.Str.{IsUtf8-string_bytes}
use Rattle.clientdata.proofs.expected.ExpectedOrigin.written.Goals as goal

pub returns-clause-utf8 : goal.returns-clause-utf8
returns-clause-utf8 c = subst IsUtf8 c.self.view_is (IsUtf8-string_bytes c.self.inside.origin)
