-- What is owed of `has_uncritical_aaguid`.
use Rattle.attestation.specs.Rules.{fido_aaguid, IsUncritical}
use Rattle.attestation.proofs.Extending.{extends}
use Rattle.attestation.proofs.rules.has_uncritical_aaguid.Goals as goal

pub returns-in-Some : goal.returns-in-Some
returns-in-Some c = extends _ fido_aaguid IsUncritical _ c.is_uncritical.result c.in-Some.ensures c.is_uncritical.ensures
