-- What is owed of `has_nonce`.
use Rattle.attestation.specs.Apple.{apple_nonce, IsNonceOf}
use Rattle.attestation.proofs.Extending.{extends}
use Rattle.attestation.proofs.apple.has_nonce.Goals as goal

pub returns-in-Some : goal.returns-in-Some
returns-in-Some c = extends _ apple_nonce (IsNonceOf c.args.nonce.now) _ c.is_nonce.result c.in-Some.ensures c.is_nonce.ensures
