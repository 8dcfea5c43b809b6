-- What is owed of `written_assertion`.
use Rattle.authenticator.proofs.reply.written_assertion.Goals as goal

pub bytes_of-requires : goal.bytes_of-requires
bytes_of-requires c = λ e. c.write_assertion.ensures.unfit e c.requires.bytes c.requires.spelled
