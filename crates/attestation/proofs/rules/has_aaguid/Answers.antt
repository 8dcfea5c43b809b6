-- What is owed of `has_aaguid`.
use Rattle.attestation.specs.Rules.{fido_aaguid, IsAaguidOf}
use Rattle.attestation.proofs.Extending.{extends}
use Rattle.attestation.proofs.rules.has_aaguid.Goals as goal

pub returns-in-Some : goal.returns-in-Some
returns-in-Some c = extends _ fido_aaguid (IsAaguidOf c.args.aaguid.now) _ c.is_aaguid.result c.in-Some.ensures c.is_aaguid.ensures
