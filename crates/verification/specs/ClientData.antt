-- The steps on client data that both ceremonies have, for a ceremony's type and challenge. Private functions are
-- proved against these; the steps of the ceremonies say the same for their own response.
use Rattle.std.specs.Prelude.{◌≡◌, ℕ, Bool, false, List, [], ◌∷◌, Contains, IsSome, IsUtf8}
use Rattle.std.specs.Option.{ForSome}
use Rattle.clientdata.specs.Reading.{seen_of}
use Rattle.clientdata.specs.Serialised.{client_data_text}
use Rattle.clientdata.specs.declared.record.CeremonyType.{CeremonyType}
use Rattle.authdata.specs.declared.profile.Profile.TheVariants.{Level3}
use Rattle.refusal_order.specs.Lines.{FirstFailing}
use Rattle.verification.specs.Records.{RelyingParty}
use Rattle.verification.specs.Shared.{HasType, HasChallenge, HasOrigin, HasNoBinding, HasTopOrigin, MayBeFramed}
use Rattle.verification.specs.declared.client_data.ClientDataError.{ClientDataError}
use Rattle.verification.specs.declared.client_data.ClientDataError.TheVariants as errors
use Rattle.verification.specs.declared.client_data.ClientDataStep.{ClientDataStep}
use Rattle.verification.specs.declared.client_data.ClientDataStep.TheVariants as line

abbrev pub PassesClientDataStep : CeremonyType → List ℕ → RelyingParty → List ℕ → ClientDataStep → Type 0
PassesClientDataStep kind challenge rp t line.Readable = IsSome (seen_of t)
PassesClientDataStep kind challenge rp t line.Type = ForSome (seen_of t) (HasType kind)
PassesClientDataStep kind challenge rp t line.Challenge = ForSome (seen_of t) (HasChallenge challenge)
PassesClientDataStep kind challenge rp t line.Origin = ForSome (seen_of t) (HasOrigin rp)
PassesClientDataStep kind challenge rp t line.CrossOrigin = ForSome (seen_of t) (MayBeFramed rp)
PassesClientDataStep kind challenge rp t line.TopOrigin = ForSome (seen_of t) (HasTopOrigin rp)
PassesClientDataStep kind challenge rp t line.TokenBinding = ForSome (seen_of t) (HasNoBinding rp.profile)

abbrev pub client_data_order : List ClientDataStep
client_data_order =
    line.Readable ∷ line.Type ∷ line.Challenge ∷ line.Origin ∷ line.CrossOrigin ∷ line.TopOrigin ∷ line.TokenBinding ∷ []

-- the first step that fails is named; running out of memory says nothing
abbrev pub Fails : CeremonyType → List ℕ → RelyingParty → List ℕ → ClientDataError → Type 0
Fails kind challenge rp t (errors.Fails line) = FirstFailing (PassesClientDataStep kind challenge rp t) client_data_order line
Fails kind challenge rp t errors.Memory = Unit {0}

-- the bytes are the serialised client data (section 5.8.1.1) of this ceremony and challenge, for one of the origins; in
-- Level 3, those that are not cross-origin
abbrev pub IsSerialised : CeremonyType → List ℕ → RelyingParty → List ℕ → Type 0
IsSerialised kind challenge rp t =
    (origin : List ℕ) × (cross : Bool) × (rp.profile ≡ Level3 → cross ≡ false) × Contains rp.origins origin × IsUtf8 origin
    × (t ≡ client_data_text kind challenge origin cross)
