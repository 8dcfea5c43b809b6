-- What a key signs for a user who is verified (CTAP 2.1, sections 6.1.2, 6.2.2 and 6.3).
use Rattle.std.specs.Prelude.{◌≡◌, ℕ, List, [], ◌∷◌, ◌++◌, true, None, Some, Contains}
use Rattle.hidframe.specs.declared.Packet.{Packet}
use Rattle.authdata.specs.Flags.{is_set, UV}
use Rattle.authdata.specs.Layout.{AuthenticatorData, AuthOf}
use Rattle.authdata.specs.declared.profile.Profile.TheVariants.{Strict}
use Rattle.authenticator.specs.Signing.{AgreesOn}
use Rattle.authenticator.specs.Steps.{Entry, Keys}
use Rattle.key_pin.specs.State.{PinState}
use Rattle.key_device.specs.Key.{IsSigned, KeyDeviceState}
use Rattle.key_device.specs.declared.stage.GrantedRequest.{GrantedRequest}
use Rattle.key_device.specs.declared.stage.Stage.TheVariants as stages
use Rattle.key_runs.specs.Runs.{IsKeyRun, KeyMoment, Signs}
use Rattle.key_runs.specs.Vouched.{IsUngranted, IsVouched}

-- at the moment a signature comes, and with it the authenticator's step has signed this
pub record IsSignedAt (m : KeyMoment) (e : Entry) : Type 0 where
  pub signature : List ℕ
  pub act : m.act ≡ Signs signature
  pub before : List Packet
  pub after : List Packet
  pub signed : IsSigned m.old before signature m.new after
  pub public : Keys
  pub agrees : AgreesOn signed.words.secret public signed.known
  pub there : Contains (signed.step public agrees).5.0 e

-- the authenticator data in front of what is signed have UV set (WebAuthn Level 2, section 6.1)
pub record HasUv (e : Entry) : Type 0 where
  pub auth : AuthenticatorData
  pub bytes : List ℕ
  pub hash : List ℕ
  pub spelled : AuthOf Strict auth bytes
  pub message : e.message ≡ bytes ++ hash
  pub uv : is_set auth.flags UV ≡ true

-- at one of these moments a request was carried out that a token had granted so
pub record WasCarriedOut (s : PinState) (past : List KeyMoment) : Type 0 where
  pub before : List KeyMoment
  pub moment : KeyMoment
  pub later : List KeyMoment
  pub here : past ≡ before ++ moment ∷ later
  pub granted : GrantedRequest
  pub stage : moment.old.stage ≡ stages.Granted granted
  pub vouched : IsVouched s before granted

-- Of a key that remembers no getAssertion at first: each entry that it signs with UV is of a request that was granted so. It is the one whose signature
-- comes; or, of a getNextAssertion, a getAssertion before it
abbrev pub SignedRuns : Type 0
SignedRuns =
    (k : KeyDeviceState) (s : PinState) (past later : List KeyMoment) (m : KeyMoment) (e : Entry) → k.pin ≡ Some s → s.token ≡ None → IsUngranted k.stage
    → k.authenticator.remembered ≡ None → IsKeyRun k (past ++ m ∷ later) → IsSignedAt m e → HasUv e → WasCarriedOut s (past ++ m ∷ [])
