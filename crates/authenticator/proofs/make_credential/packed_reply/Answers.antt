-- What is owed of `packed_reply`.
use Rattle.std.proofs.Common.{rules}
use Rattle.authenticator.proofs.Replies.{packed_message}
use Rattle.authenticator.proofs.make_credential.packed_reply.Goals as goal

pub written-requires : goal.written-requires
written-requires c = packed_message _ c.args.alg c.args.signature.now (search rules) (search rules) c.requires.high c.requires.data
