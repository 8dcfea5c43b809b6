-- Which signature a host is to verify.
use Rattle.std.specs.Prelude.{◌≡◌, ◌++◌}
use Rattle.authdata.specs.declared.profile.Profile.{Profile}
use Rattle.authdata.specs.Layout.{AttestedCredential, AuthenticatorData}
use Rattle.authdata.specs.Objects.{Attestation}
use Rattle.authdata.specs.Responses as responses
use Rattle.authdata.specs.Statements.{IsSelfSignedBy}
use Rattle.verification.specs.Registration.{Attests, hash_in}
use Rattle.verification.specs.declared.signature.VerifiedSignature.{VerifiedSignature}

-- the signature of self attestation: of the authenticator data and then the hash of the client data, under the key that they
-- attest (section 8.2)
abbrev pub RegistrationAsks : Profile → responses.AuthenticatorAttestationResponse → VerifiedSignature → Type 0
RegistrationAsks profile r t =
    (o : Attestation) × (a : AuthenticatorData) × (c : AttestedCredential) × Attests profile r o a c
    × (t.key ≡ c.key) × IsSelfSignedBy o c.key t.signature.items × (t.message.items ≡ o.auth_data ++ hash_in r)
