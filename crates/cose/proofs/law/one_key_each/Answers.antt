-- What is owed of `one_key_each`.
use Rattle.std.proofs.Common.{sym, ◌∙◌}
use Rattle.cose.proofs.KeyLemmas.{one_key}
use Rattle.cose.proofs.law.one_key_each.Goals as goal

pub returns-clause-one_key : goal.returns-clause-one_key
returns-clause-one_key c = one_key

pub returns-clause-one_value : goal.returns-clause-one_value
returns-clause-one_value c = λ k v w h g. h.1 ∙ sym g.1
