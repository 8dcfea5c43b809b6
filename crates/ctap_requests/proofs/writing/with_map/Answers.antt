-- What is owed of `with_map`.
use Rattle.ctap_requests.proofs.writing.with_map.Goals as goal

pub returns-in-None-clause-unfit : goal.returns-in-None-clause-unfit
returns-in-None-clause-unfit c = λ e g rest canon. c.with_value.ensures.unfit e rest canon
