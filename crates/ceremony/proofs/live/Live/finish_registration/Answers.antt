-- What is owed of `Live::finish_registration`.
use Rattle.std.proofs.Common.{◌∙◌, sym, subst}
use Rattle.ctap_replies.specs.Replies.{ReplyOf, creation_reply}
use Rattle.ceremony.proofs.Verdicts.{one_message}
use Rattle.ceremony.proofs.live.Live.finish_registration.Goals as goal

pub returns-in-Err-clause-complete : goal.returns-in-Err-clause-complete
returns-in-Err-clause-complete g c = λ ps n r got s. absurd (c.in-Err.ensures.nothing ps n s.0 got s.1)

pub returns-in-Ok-judge-clause-complete : goal.returns-in-Ok-judge-clause-complete
returns-in-Ok-judge-clause-complete g c = λ ps n r got s. c.fed.ensures ∙ (one_message _ ps _ n _ s.0 (c.in-Ok.ensures.came ps got) s.1).0

pub returns-in-Err-judge-clause-complete : goal.returns-in-Err-judge-clause-complete
returns-in-Err-judge-clause-complete g c = λ ps n r got s. c.in-Err-judge.ensures.complete r (subst (ReplyOf (creation_reply r))
    (sym (one_message _ ps _ n _ s.0 (c.in-Ok.ensures.came ps got) s.1).1) s.2) s.3
