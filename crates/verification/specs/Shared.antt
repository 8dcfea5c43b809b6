-- The steps that sections 7.1 and 7.2 of WebAuthn Level 2 have in common: on client data (5.8.1) and on
-- authenticator data (6.1). What is of Level 3 says so.
use Rattle.std.specs.Prelude.{◌≡◌, ◌≢◌, ◌⊎◌, ℕ, List, [], Bool, true, Contains}
use Rattle.sha2.specs.Sha256.{sha256}
use Rattle.cose.specs.Schemes.{Validity}
use Rattle.clientdata.specs.Serialised.{challenge_text_of, type_of}
use Rattle.clientdata.specs.declared.record.CeremonyType.{CeremonyType}
use Rattle.clientdata.specs.declared.seen.Binding.TheVariants.{Absent, Supported, NotSupported}
use Rattle.clientdata.specs.declared.seen.CrossOrigin.TheVariants as cross
use Rattle.clientdata.specs.declared.seen.TopOrigin.TheVariants as top
use Rattle.clientdata.specs.declared.seen.Seen.{Seen}
use Rattle.authdata.specs.declared.profile.Profile.{Profile}
use Rattle.authdata.specs.declared.profile.Profile.TheVariants.{Level3, Open}
use Rattle.authdata.specs.Flags.{is_set, UP, UV}
use Rattle.authdata.specs.Layout.{AuthenticatorData}
use Rattle.refusal_order.specs.Lines.{FirstFailing}
use Rattle.verification.specs.Records.{RelyingParty}
use Rattle.verification.specs.declared.refusal.VerificationError.{VerificationError}
use Rattle.verification.specs.declared.refusal.VerificationError.TheVariants as errors

-- the type is the ceremony's
abbrev pub HasType : CeremonyType → Seen → Type 0
HasType kind seen = seen.kind ≡ type_of kind

-- the challenge is the text of this one
abbrev pub HasChallenge : List ℕ → Seen → Type 0
HasChallenge challenge seen = seen.challenge ≡ challenge_text_of challenge

-- the origin is one of the relying party's
abbrev pub HasOrigin : RelyingParty → Seen → Type 0
HasOrigin rp seen = Contains rp.origins seen.origin

-- the client data name no page above the one that asked (Level 3, 5.8.1, `crossOrigin` and `topOrigin`)
abbrev pub IsUnframed : Seen → Type 0
IsUnframed seen = ((seen.cross_origin ≡ cross.Absent) ⊎ (seen.cross_origin ≡ cross.False)) × (seen.top_origin ≡ top.Absent)

-- the page at the top is one of these
abbrev pub IsFramedBy : List (List ℕ) → Seen → Type 0
IsFramedBy pages seen = (page : List ℕ) × (seen.top_origin ≡ top.Named page) × Contains pages page

-- in Level 3: a page is in no frame of another site, unless the relying party names pages that may frame its own; and
-- crossOrigin is a truth value, where it is there (7.1 and 7.2, `crossOrigin`)
abbrev pub MayBeFramed : RelyingParty → Seen → Type 0
MayBeFramed rp seen = rp.profile ≡ Level3 → IsUnframed seen ⊎ ((rp.top_origins ≢ []) × (seen.cross_origin ≢ cross.Other))

-- in Level 3: the page at the top, where another site's frames it, is one that the relying party names (7.1 and 7.2,
-- `topOrigin`)
abbrev pub HasTopOrigin : RelyingParty → Seen → Type 0
HasTopOrigin rp seen = rp.profile ≡ Level3 → IsUnframed seen ⊎ IsFramedBy rp.top_origins seen

-- token binding is absent, or supported and not used; in the open profile, or not supported; Level 3 does not look at it
abbrev pub HasNoBinding : Profile → Seen → Type 0
HasNoBinding profile seen =
    (seen.binding ≡ Absent) ⊎ (seen.binding ≡ Supported) ⊎ ((profile ≡ Open) × (seen.binding ≡ NotSupported)) ⊎ (profile ≡ Level3)

-- rpIdHash is the hash of the rp id
abbrev pub IsFor : RelyingParty → AuthenticatorData → Type 0
IsFor rp a = a.rp_id_hash ≡ sha256 rp.rp_id

-- UP is set
abbrev pub IsPresent : AuthenticatorData → Type 0
IsPresent a = is_set a.flags UP ≡ true

-- UV is set, where it is required
abbrev pub IsVerifiedAs : Bool → AuthenticatorData → Type 0
IsVerifiedAs required a = required ≡ true → is_set a.flags UV ≡ true

-- a relation that never holds: for steps that do not look at the signature
abbrev pub never : Validity
never key message signature = ⊥

-- of these steps the first that fails is named; running out of memory says nothing
abbrev pub FailsIn : {W : Type 0} → (W → Type 0) → List W → VerificationError W → Type 0
FailsIn Passes steps (errors.Refused w) = FirstFailing Passes steps w
FailsIn Passes steps errors.Memory = Unit {0}
