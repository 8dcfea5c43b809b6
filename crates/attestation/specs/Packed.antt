-- Packed attestation: WebAuthn Level 2, section 8.2.
use Rattle.std.specs.Prelude.{◌≡◌, ℕ, List, [], ◌∷◌}
use Rattle.cose.specs.Keys as cose
use Rattle.certificates.specs.Form.{TbsForm}
use Rattle.certificates.specs.declared.certificate.Version.TheVariants as versions
use Rattle.attestation.specs.declared.algorithm.Algorithm.{Algorithm}
use Rattle.attestation.specs.declared.refusal.AttestationRefusal.{AttestationRefusal}
use Rattle.attestation.specs.declared.refusal.AttestationRefusal.TheVariants as step
use Rattle.attestation.specs.Algorithms.{argument_of}
use Rattle.attestation.specs.Inputs.{Inputs}
use Rattle.attestation.specs.Messages.{response_message}
use Rattle.attestation.specs.Signed.{Signed, Validity, HasKeyOf, IsSignedBy, credential_key}
use Rattle.attestation.specs.Rules.{IsAttestationSubject, HasEndEntity, HasUncriticalAaguid, HasAaguid}

-- ---- with x5c: what is asked of the leaf's content

abbrev pub PassesPacked : Validity → Algorithm → List ℕ → Inputs → TbsForm → AttestationRefusal → Type 0
-- it can be read
PassesPacked valid alg sig i t step.BadCertificate = Unit {0}
-- its key works with alg
PassesPacked valid alg sig i t step.OtherAlgorithm = HasKeyOf alg t.key
-- sig is its key's signature of the authenticator data and the hash of the client data
PassesPacked valid alg sig i t step.BadSignature = IsSignedBy valid t.key alg (response_message i.auth_data i.hash) sig
-- 8.2.1: version 3; the subject; no certificate authority; the AAGUID not critical
PassesPacked valid alg sig i t step.WrongVersion = t.version ≡ versions.V3
PassesPacked valid alg sig i t step.WrongSubject = IsAttestationSubject t.subject
PassesPacked valid alg sig i t step.CertificateAuthority = HasEndEntity t.extensions
PassesPacked valid alg sig i t step.CriticalAaguid = HasUncriticalAaguid t.extensions
-- the AAGUID is that of the authenticator data
PassesPacked valid alg sig i t step.WrongAaguid = HasAaguid t.extensions i.credential.aaguid
PassesPacked valid alg sig i t _ = ⊥

abbrev pub packed_steps : List AttestationRefusal
packed_steps =
    step.BadCertificate ∷ step.OtherAlgorithm ∷ step.BadSignature ∷ step.WrongVersion ∷ step.WrongSubject ∷ step.CertificateAuthority
    ∷ step.CriticalAaguid ∷ step.WrongAaguid ∷ []

-- ---- without x5c: self attestation

-- the signature by the credential's own key
abbrev pub self_signed : Algorithm → List ℕ → Inputs → Signed
self_signed alg sig i =
    record { key = credential_key i.credential.key; algorithm = alg; message = response_message i.auth_data i.hash; signature = sig }

abbrev pub PassesSelf : Validity → Algorithm → List ℕ → Inputs → AttestationRefusal → Type 0
-- alg is the algorithm of the credential's key
PassesSelf valid alg sig i step.OtherAlgorithm = argument_of alg ≡ cose.argument_of (cose.alg_of i.credential.key)
-- sig is its signature
PassesSelf valid alg sig i step.BadSignature = valid (self_signed alg sig i)
PassesSelf valid alg sig i _ = ⊥

abbrev pub self_steps : List AttestationRefusal
self_steps = step.OtherAlgorithm ∷ step.BadSignature ∷ []
