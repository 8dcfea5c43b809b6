-- What is owed of `object_of`.
use Rattle.std.proofs.Common.{rules}
use Rattle.authdata.proofs.Objects.{object_is}
use Rattle.authdata.proofs.members.object_of.Goals as goal

pub returns : goal.returns
returns c = object_is _ _ _ _ _ _ _ _ c.in_ok-first.ensures (c.if-not-are_keys.ensures.0 (search rules)) c.object_from.ensures
