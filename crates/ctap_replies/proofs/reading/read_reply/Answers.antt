-- What is owed of `read_reply`.
use Rattle.ctap_replies.proofs.reading.read_reply.Goals as goal

pub returns-in-Err-clause-refused : goal.returns-in-Err-clause-refused
returns-in-Err-clause-refused c = c.in-Err.ensures.refused c.args.kind
