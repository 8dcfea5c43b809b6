-- What is owed of `one_rank`.
use Rattle.ctap_requests.proofs.Ranks.{one_rank}
use Rattle.ctap_requests.proofs.law.one_rank.Goals as goal

pub returns : goal.returns
returns c = one_rank
