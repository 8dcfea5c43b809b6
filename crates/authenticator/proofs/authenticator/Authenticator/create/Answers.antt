-- What is owed of `Authenticator::create`.
use Rattle.std.proofs.Common.{rules}
use Rattle.authenticator.proofs.Replies.{plain_message}
use Rattle.authenticator.proofs.authenticator.Authenticator.create.Goals as goal

pub written-requires : goal.written-requires
written-requires c = plain_message _ (search rules) (search rules) c.requires.size
