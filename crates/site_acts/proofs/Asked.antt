-- Which signature a registration asks for, by its parts.
use Rattle.std.proofs.Common.{◌≡◌, ◌++◌, ◌∙◌, ℕ, List, ap, subst, sym}
use Rattle.sha2.specs.Sha256.{sha256}
use Rattle.authdata.specs.declared.profile.Profile.{Profile}
use Rattle.authdata.specs.Objects.{Attestation, ObjectOf}
use Rattle.authdata.specs.Responses.{AuthenticatorAttestationResponse}
use Rattle.authdata.specs.Statements.{IsSelfSignedBy}
use Rattle.cose.specs.declared.key.CoseKey.{CoseKey}
use Rattle.verification.specs.Registration.{hash_in}
use Rattle.site_acts.specs.Asked.{RegistrationAsks}
use Rattle.verification.specs.AttestedKey.{AttestsKey}
use Rattle.verification.specs.declared.signature.VerifiedSignature.{VerifiedSignature}

pub registration_asks : (p : Profile) (r : AuthenticatorAttestationResponse) (o : Attestation) (key : CoseKey) (t : VerifiedSignature) → ObjectOf o r.object
    → AttestsKey p o.auth_data key → IsSelfSignedBy o key t.signature.items → t.key ≡ key → t.message.items ≡ o.auth_data ++ hash_in r
    → RegistrationAsks p r t
registration_asks p r o key t spelled attests signed same joined = (
  o,
  attests.0,
  attests.1,
  record { object = spelled; auth_data = attests.2; attested = attests.3 },
  same ∙ sym attests.4,
  subst (λ k. IsSelfSignedBy o k t.signature.items) (sym attests.4) signed,
  joined,
)

-- the same where its parts are lent
pub lent_asks : (p : Profile) (r : AuthenticatorAttestationResponse) (o : Attestation) (key : CoseKey) (t : VerifiedSignature)
    (front behind client signature : List ℕ)
    → ObjectOf o r.object → front ≡ o.auth_data → behind ≡ o.auth_data → client ≡ r.client_data → AttestsKey p front key → IsSelfSignedBy o key signature
    → t.key ≡ key → t.message.items ≡ behind ++ sha256 client → t.signature.items ≡ signature → RegistrationAsks p r t
lent_asks p r o key t front behind client signature spelled one two three attests signed same joined is =
    registration_asks p r o key t spelled (subst (λ bs. AttestsKey p bs key) one attests)
    (subst (λ s. IsSelfSignedBy o key s) (sym is) signed) same
    (joined ∙ ap (λ bs. bs ++ sha256 client) two ∙ ap (λ bs. o.auth_data ++ sha256 bs) three)
