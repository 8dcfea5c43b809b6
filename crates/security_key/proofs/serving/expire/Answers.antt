-- What is owed of `expire`.
use Rattle.security_key.proofs.Acting.{ended_or_not}
use Rattle.security_key.proofs.serving.expire.Goals as goal

pub returns-clause-keeps : goal.returns-clause-keeps
returns-clause-keeps c = λ a. ended_or_not c.expire.result a c.args.device.now c.expire.new.self c.expire.ensures.idle c.expire.ensures.same
