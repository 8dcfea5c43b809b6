-- What is owed of `written`.
use Rattle.authenticator.proofs.reply.written.Goals as goal

pub bytes_of-requires : goal.bytes_of-requires
bytes_of-requires c = λ e. c.write_reply.ensures.unfit e c.requires.bytes c.requires.spelled
