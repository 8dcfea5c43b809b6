-- The limits of what a host passes.
use Rattle.std.specs.Prelude.{◌≡◌, true, List, [], ◌∷◌, ◌++◌, IfSome, length}
use Rattle.std.specs.Str.{IsUtf8}
use Rattle.refusal_order.specs.Lines.{Each}
use Rattle.verification.specs.Coordinates.{IsX, IsY}
use Rattle.passkey_c.specs.declared.parts.Bytes.{Bytes}
use Rattle.passkey_c.specs.declared.parts.KeyParts.{KeyParts}
use Rattle.passkey_c.specs.declared.parts.PartyParts.{PartyParts}
use Rattle.passkey_c.specs.declared.parts.AssertionCall.{AssertionCall}
use Rattle.passkey_c.specs.declared.parts.RegistrationCall.{RegistrationCall}
use Rattle.passkey_c.specs.declared.answers.InputFault.{InputFault}
use Rattle.passkey_c.specs.declared.answers.InputFault.TheVariants as faults
use Rattle.passkey_c.specs.declared.answers.Limit.{Limit}
use Rattle.passkey_c.specs.declared.answers.Limit.TheVariants as limits
use Rattle.passkey_c.specs.declared.input.KeyLimit.{KeyLimit}
use Rattle.passkey_c.specs.declared.input.KeyLimit.TheVariants as key_limits
use Rattle.passkey_c.specs.Parts.{IsAlg, IsProfile, alg_in, flag_of}

-- a public key: one of three algorithms, and its coordinates or its numbers
abbrev pub KeyKeeps : KeyParts → KeyLimit → Type 0
KeyKeeps key key_limits.Algorithm = IsAlg key.algorithm
KeyKeeps key key_limits.X = IfSome (alg_in key.algorithm) (λ alg. IsX alg key.x.now)
KeyKeeps key key_limits.Y = IfSome (alg_in key.algorithm) (λ alg. IsY alg key.y.now)

abbrev pub key_order : List KeyLimit
key_order = key_limits.Algorithm ∷ key_limits.X ∷ key_limits.Y ∷ []

abbrev pub AreTexts : List Bytes → Type 0
AreTexts parts = Each (λ part. IsUtf8 part.bytes.now) parts

-- a relying party: texts of UTF-8, and the number of a profile
abbrev pub PartyKeeps : PartyParts → Limit → Type 0
PartyKeeps party limits.RpId = IsUtf8 party.rp_id.now
PartyKeeps party limits.Origin = AreTexts party.origins.now
PartyKeeps party limits.Profile = IsProfile party.profile
PartyKeeps party limits.TopOrigin = AreTexts party.top_origins.now
PartyKeeps party _ = Unit {0}

abbrev pub party_limits : List Limit
party_limits = limits.RpId ∷ limits.Origin ∷ limits.Profile ∷ limits.TopOrigin ∷ []

-- a sign-in: those of the relying party; and of what its flags say is there, a challenge of 32 bytes, the
-- credential's key, and the key that the host verified with
abbrev pub SignInKeeps : AssertionCall → Limit → Type 0
SignInKeeps call limits.Challenge = flag_of call.has_session ≡ true → length call.session.challenge.now ≡ 32
SignInKeeps call limits.KeyAlgorithm = flag_of call.has_credential ≡ true → KeyKeeps call.credential.key key_limits.Algorithm
SignInKeeps call limits.KeyX = flag_of call.has_credential ≡ true → KeyKeeps call.credential.key key_limits.X
SignInKeeps call limits.KeyY = flag_of call.has_credential ≡ true → KeyKeeps call.credential.key key_limits.Y
SignInKeeps call limits.VerifiedAlgorithm = flag_of call.has_verified ≡ true → KeyKeeps call.verified.key key_limits.Algorithm
SignInKeeps call limits.VerifiedX = flag_of call.has_verified ≡ true → KeyKeeps call.verified.key key_limits.X
SignInKeeps call limits.VerifiedY = flag_of call.has_verified ≡ true → KeyKeeps call.verified.key key_limits.Y
SignInKeeps call limit = PartyKeeps call.party limit

abbrev pub verified_limits : List Limit
verified_limits = limits.VerifiedAlgorithm ∷ limits.VerifiedX ∷ limits.VerifiedY ∷ []

abbrev pub sign_in_limits : List Limit
sign_in_limits = party_limits ++ (limits.Challenge ∷ limits.KeyAlgorithm ∷ limits.KeyX ∷ limits.KeyY ∷ verified_limits)

-- a registration: those of the relying party; and of what its flags say is there, a challenge of 32 bytes, and the
-- key that the host verified with
abbrev pub RegistrationKeeps : RegistrationCall → Limit → Type 0
RegistrationKeeps call limits.Challenge = flag_of call.has_session ≡ true → length call.session.challenge.now ≡ 32
RegistrationKeeps call limits.VerifiedAlgorithm = flag_of call.has_verified ≡ true → KeyKeeps call.verified.key key_limits.Algorithm
RegistrationKeeps call limits.VerifiedX = flag_of call.has_verified ≡ true → KeyKeeps call.verified.key key_limits.X
RegistrationKeeps call limits.VerifiedY = flag_of call.has_verified ≡ true → KeyKeeps call.verified.key key_limits.Y
RegistrationKeeps call limit = PartyKeeps call.party limit

abbrev pub registration_limits : List Limit
registration_limits = party_limits ++ (limits.Challenge ∷ verified_limits)

-- the limit is not kept; running out of memory says nothing
abbrev pub IsFault : (Limit → Type 0) → InputFault → Type 0
IsFault Keeps (faults.Limit limit) = Keeps limit → ⊥
IsFault Keeps faults.Memory = Unit {0}
