-- What is owed of `has_end_entity`.
use Rattle.attestation.specs.Rules.{basic_constraints, IsEndEntity}
use Rattle.attestation.proofs.Extending.{extends}
use Rattle.attestation.proofs.rules.has_end_entity.Goals as goal

pub returns-in-Some : goal.returns-in-Some
returns-in-Some c = extends _ basic_constraints IsEndEntity _ c.is_end_entity.result c.in-Some.ensures c.is_end_entity.ensures
