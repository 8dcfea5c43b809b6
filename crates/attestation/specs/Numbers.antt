-- The numbers of the steps.
use Rattle.std.specs.Prelude.{ℕ}
use Rattle.attestation.specs.declared.refusal.AttestationRefusal.{AttestationRefusal}
use Rattle.attestation.specs.declared.refusal.AttestationRefusal.TheVariants as step

abbrev pub attestation_number : AttestationRefusal → ℕ
attestation_number step.UnknownFormat = 1
attestation_number step.EndedFormat = 2
attestation_number step.BadStatement = 3
attestation_number step.NotOneCertificate = 4
attestation_number step.BadCertificate = 5
attestation_number step.OtherAlgorithm = 6
attestation_number step.OtherCredentialKey = 7
attestation_number step.BadSignature = 8
attestation_number step.WrongVersion = 9
attestation_number step.WrongSubject = 10
attestation_number step.CertificateAuthority = 11
attestation_number step.CriticalAaguid = 12
attestation_number step.WrongAaguid = 13
attestation_number step.WrongNonce = 14
attestation_number step.OtherKey = 15
