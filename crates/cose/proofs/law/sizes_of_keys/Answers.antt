-- What is owed of `sizes_of_keys`.
use Rattle.cose.proofs.KeyLemmas.{key_canon, length-key}
use Rattle.cose.proofs.law.sizes_of_keys.Goals as goal

pub returns-clause-encoded : goal.returns-clause-encoded
returns-clause-encoded c = key_canon

pub returns-clause-sizes : goal.returns-clause-sizes
returns-clause-sizes c = length-key
