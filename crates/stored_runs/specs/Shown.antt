-- There are histories of which the law says something: one in which an authenticator makes a key and signs.
use Rattle.std.specs.Prelude.{◌≡◌, ℕ, List, [], ◌∷◌, ◌++◌, map, true, false}
use Rattle.cose.specs.Schemes.{Validity}
use Rattle.authdata.specs.Responses.{AuthenticatorAssertionResponse, AuthenticatorAttestationResponse}
use Rattle.verification.specs.Records.{Credential}
use Rattle.site_rows.specs.Held.{IsAt}
use Rattle.site_state.specs.Sessions.{Opening}
use Rattle.authenticator.specs.Steps.{Keys}
use Rattle.agreement.specs.Agreement.{WasSigned, message_of}
use Rattle.agreement.specs.Shown.{asks, kind_of}
use Rattle.agreement.specs.World as world
use Rattle.agreement.specs.World.{AtSite, Done, Event, IsStart}
use Rattle.stored_runs.specs.History.{Abandons, Begins, Calls, Commits, Deletes, MayStart, Opens, Registers, Retires, SignsIn}
use Rattle.stored_runs.specs.Among.{Act, Elsewhere, IsHistory, Scene, Stores, Turn, kept}
use Rattle.stored_runs.specs.Stored.{StandsFor}

-- Two sessions begin; an authenticator makes a credential, which is registered in the first, and that is committed. A third begins. After a crash the
-- authenticator signs in the second, and of that the commit is cut off and found whole.
abbrev pub signed_in : Opening → Opening → Event → Event → List ℕ → AuthenticatorAttestationResponse → List ℕ → AuthenticatorAssertionResponse → List Act
signed_in o p makes signs first r second s =
    Stores (Calls (Begins o 0)) ∷ Stores (Calls (Begins p 0)) ∷ Elsewhere makes Done ∷ Stores (Calls (Registers 1 first r 1)) ∷ Stores Commits
    ∷ Stores (Calls (Begins p 100)) ∷ Stores (Opens false) ∷ Elsewhere signs Done ∷ Stores (Calls (SignsIn 2 second s 200)) ∷ []

-- When the time of the other two is over the third session is abandoned, and the credential is retired; and that is committed. It is deleted, which a
-- crash cuts off, and deleted again, which is committed.
abbrev pub ended : List ℕ → List ℕ → List Act
ended third id =
    Stores (Opens true) ∷ Stores (Calls (Abandons third 301)) ∷ Stores (Calls (Retires id true 301)) ∷ Stores Commits ∷ Stores (Calls (Deletes id true 302))
    ∷ Stores (Opens false) ∷ Stores (Calls (Deletes id true 303)) ∷ Stores Commits ∷ []

-- such a history of a site in memory, from a start of a world; what is kept of it; and before the sign-in its message was signed under the key of
-- the credential, by an authenticator that made the key
pub record Shown (valid : Validity) (public : Keys) : Type 0 where
  pub first : Scene (Unit {0})
  pub before : List (Turn (Unit {0}))
  pub signing : Turn (Unit {0})
  pub later : List (Turn (Unit {0}))
  pub starts : IsStart first.world
  pub may_start : MayStart first.store
  pub stands_for : StandsFor first.store (first.world.site 0)
  pub history : IsHistory {I = Unit {0}} (λ u. valid) valid public 0 first (before ++ signing ∷ later)
  pub registering : Opening
  pub signing_in : Opening
  pub makes : Event
  pub signs : Event
  pub first_text : List ℕ
  pub second_text : List ℕ
  pub third_text : List ℕ
  pub new : AuthenticatorAttestationResponse
  pub response : AuthenticatorAssertionResponse
  pub asked : (kind_of makes ≡ asks) × (kind_of signs ≡ asks)
  pub acts : map (λ t. t.act) (before ++ signing ∷ []) ≡ signed_in registering signing_in makes signs first_text new second_text response
  pub acts_then : map (λ t. t.act) later ≡ ended third_text response.credential
  pub told : map (λ t. t.event) (kept 0 (before ++ signing ∷ later))
      ≡ makes ∷ AtSite 0 (world.Registers 1 new) ∷ signs ∷ AtSite 0 (world.SignsIn 2 response) ∷ AtSite 0 (world.Retires response.credential)
      ∷ AtSite 0 (world.Deletes response.credential) ∷ []
  pub row : Credential
  pub place : ℕ
  pub found : IsAt signing.old.store.now.placed response.credential place row
  pub signed : WasSigned signing.old.world row.key (message_of response)
