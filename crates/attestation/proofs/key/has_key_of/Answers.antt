-- What is owed of `has_key_of`.
use Rattle.std.proofs.Common.{◌≡◌, ◌↔◌, IsTrue, subst}
use Rattle.certificates.specs.Keys.{KeyForm}
use Rattle.attestation.specs.Signed.{signing_view}
use Rattle.attestation.proofs.Extending.{same_key}
use Rattle.attestation.proofs.key.has_key_of.Goals as goal

pub returns-in-Some : goal.returns-in-Some
returns-in-Some c =
    same_key _ _ _ c.is_same.result c.in-Some.ensures
    (subst (λ (k : KeyForm). IsTrue c.is_same.result ↔ (signing_view c.in-Some.own ≡ k)) c.of_credential.ensures c.is_same.ensures)
