-- What the judgement of a registration answers.
use Rattle.std.specs.Prelude.{◌≡◌, ℕ, List, true}
use Rattle.authdata.specs.Flags.{is_set, BE}
use Rattle.authdata.specs.Objects.{Attestation, ObjectOf}
use Rattle.authdata.specs.Statements.{IsKnownFormat, IsNone, IsSelfSigned}
use Rattle.authdata.specs.declared.statement.AttestationType.{AttestationType}
use Rattle.authdata.specs.declared.statement.AttestationType.TheVariants as types
use Rattle.cose.specs.declared.key.CoseKey.{CoseKey}
use Rattle.verification.specs.declared.party.Policy.{Policy}
use Rattle.std.specs.Option.{ForSome}
use Rattle.verification.specs.Records.{AttestedRegistration, NewCredential}
use Rattle.cose.specs.Schemes.{Validity}
use Rattle.verification.specs.Registration.{Attests, JudgedRegistration, IsFirstFailing, counted}
use Rattle.verification.specs.declared.client_data.ClientDataStep.{ClientDataStep}
use Rattle.verification.specs.declared.client_data.ClientDataStep.TheVariants as line
use Rattle.verification.specs.declared.refusal.VerificationError.{VerificationError}
use Rattle.verification.specs.declared.refusal.VerificationError.TheVariants as errors
use Rattle.verification.specs.declared.refusal.RegistrationRefusal.{RegistrationRefusal}
use Rattle.verification.specs.declared.refusal.RegistrationRefusal.TheVariants as step

-- what the response attests, and the format of what counts as its object
abbrev pub IsVerifiedRegistration : JudgedRegistration → AttestedRegistration → Type 0
IsVerifiedRegistration x v =
    (o : Attestation) × Attests x.rp.profile x.response o v.auth_data v.credential
    × ForSome x.session (λ e. v.format ≡ (counted x.rp.profile e.attestation o).fmt)

-- the credential that it brings, with its counter and the mark of eligibility
abbrev pub new_credential : AttestedRegistration → NewCredential
new_credential v = record { id = v.credential.id; key = v.credential.key; sign_count = v.auth_data.sign_count; eligible = is_set v.auth_data.flags BE }

-- the first step that fails is named; running out of memory says nothing
abbrev pub IsRefused : Validity → JudgedRegistration → VerificationError RegistrationRefusal → Type 0
IsRefused valid x (errors.Refused w) = IsFirstFailing valid x w
IsRefused valid x errors.Memory = Unit {0}

-- the step of this ceremony that a step on client data is
abbrev pub step_of : ClientDataStep → RegistrationRefusal
step_of line.Readable = step.UnreadableClientData
step_of line.Type = step.WrongType
step_of line.Challenge = step.WrongChallenge
step_of line.Origin = step.WrongOrigin
step_of line.CrossOrigin = step.CrossOrigin
step_of line.TopOrigin = step.WrongTopOrigin
step_of line.TokenBinding = step.TokenBinding

-- the bytes are no attestation object; running out of memory says nothing
abbrev pub IsNoObject : List ℕ → VerificationError RegistrationRefusal → Type 0
IsNoObject bs (errors.Refused step.BadAttestationObject) = (o : Attestation) → ObjectOf o bs → ⊥
IsNoObject bs (errors.Refused w) = ⊥
IsNoObject bs errors.Memory = Unit {0}

-- how the statement attests the credential
abbrev pub AttestsAs : Validity → Attestation → CoseKey → List ℕ → AttestationType → Type 0
AttestsAs valid o key hash types.None = IsNone o
AttestsAs valid o key hash types.SelfSigned = IsSelfSigned valid o key hash

-- why it does not attest it
abbrev pub AttestsAsNothing : Validity → Attestation → CoseKey → List ℕ → RegistrationRefusal → Type 0
AttestsAsNothing valid o key hash step.UnknownFormat = IsKnownFormat o.fmt → ⊥
AttestsAsNothing valid o key hash step.BadStatement = IsKnownFormat o.fmt × (IsNone o → ⊥) × (IsSelfSigned valid o key hash → ⊥)
AttestsAsNothing valid o key hash w = ⊥

-- the policy accepts this kind of attestation
abbrev pub AcceptsAttestation : Policy → AttestationType → Type 0
AcceptsAttestation policy types.None = policy.accept_none ≡ true
AcceptsAttestation policy types.SelfSigned = policy.accept_self ≡ true
