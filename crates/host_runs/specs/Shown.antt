-- There is a history of which the law says something: an authenticator makes a key, and signs.
use Rattle.std.specs.Prelude.{◌≡◌, ℕ, List, [], ◌∷◌, ◌++◌, map}
use Rattle.cose.specs.Schemes.{Validity}
use Rattle.authdata.specs.Responses.{AuthenticatorAssertionResponse, AuthenticatorAttestationResponse}
use Rattle.verification.specs.Records.{Credential, ExpectedRegistration, ExpectedSignIn, RelyingParty}
use Rattle.verification.specs.declared.party.Policy.{Policy}
use Rattle.site_state.specs.Sessions.{ForRegistration, ForSignIn}
use Rattle.authenticator.specs.Steps.{Keys}
use Rattle.agreement.specs.Agreement.{WasSigned, message_of}
use Rattle.agreement.specs.Shown.{asks, kind_of}
use Rattle.agreement.specs.World.{Done, Event, IsStart}
use Rattle.host_runs.specs.Rows.{Begins, Closes, Configures, Deletes, HostStore, Registers, Retires, SignedIn, SignsIn}
use Rattle.host_runs.specs.Histories.{Act, AreGivenOnce, Elsewhere, IsHistory, Scene, StandsFor, Stores, Turn, given}

-- A session begins; an authenticator makes a credential, which is registered in it. Another begins; the authenticator signs, and the credential signs in.
abbrev pub signed_in : List ℕ → ExpectedRegistration → Event → AuthenticatorAttestationResponse → List ℕ → ExpectedSignIn → Event → Credential
    → AuthenticatorAssertionResponse → List Act
signed_in k e makes r l x signs c s =
    Stores (Begins k (ForRegistration e)) ∷ Elsewhere makes Done ∷ Stores (Registers k e r) ∷ Stores (Begins l (ForSignIn x)) ∷ Elsewhere signs Done
    ∷ Stores (SignsIn l x c s) ∷ []

-- A third session begins, and is abandoned. The credential is retired, and deleted; and the site goes on with another policy.
abbrev pub ended : List ℕ → ExpectedSignIn → Credential → RelyingParty → Policy → List Act
ended k x c rp policy =
    Stores (Begins k (ForSignIn x)) ∷ Stores (Closes k (ForSignIn x)) ∷ Stores (Retires c.id c) ∷ Stores (Deletes c.id) ∷ Stores (Configures rp policy) ∷ []

-- such a history, from a start of a world; no challenge is given twice; before the sign-in its message was signed by an authenticator that made the
-- key; and of two finishes of the sign-in that read the same rows the second is refused
pub record Shown (valid : Validity) (public : Keys) : Type 0 where
  pub first : Scene
  pub before : List Turn
  pub signing : Turn
  pub later : List Turn
  pub starts : IsStart first.world
  pub numbers : List ℕ → ℕ
  pub stands_for : StandsFor numbers first.store (first.world.site 0)
  pub history : IsHistory {I = Unit {0}} (λ u. valid) valid public 0 first (before ++ signing ∷ later)
  pub once : AreGivenOnce (given (before ++ signing ∷ later))
  pub keys : List ℕ × List ℕ × List ℕ
  pub registering : ExpectedRegistration
  pub signing_in : ExpectedSignIn
  pub waiting : ExpectedSignIn
  pub makes : Event
  pub signs : Event
  pub asked : (kind_of makes ≡ asks) × (kind_of signs ≡ asks)
  pub new : AuthenticatorAttestationResponse
  pub response : AuthenticatorAssertionResponse
  pub row : Credential
  pub counted : Credential
  pub policy : Policy
  pub acts : map (λ t. t.act) (before ++ signing ∷ []) ≡ signed_in keys.0 registering makes new keys.1 signing_in signs row response
  pub acts_then : map (λ t. t.act) later ≡ ended keys.2 waiting counted first.store.rp policy
  pub signed : WasSigned signing.old.world row.key (message_of response)
  pub raced : (then : HostStore) → SignedIn valid signing.new.store keys.1 signing_in row response then → ⊥
