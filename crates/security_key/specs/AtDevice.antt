-- What a device's part of an act comes to. Private functions are proved against these.
use Rattle.std.specs.Prelude.{◌≡◌, ◌≢◌, ◌⊎◌, ℕ, List, [], ◌∷◌, ◌++◌, Option, Some}
use Rattle.hidframe.specs.declared.Packet.{Packet}
use Rattle.hidframe.specs.Packets.{fields}
use Rattle.hidframe.specs.declared.ctaphid.TheConstants.{CTAPHID_CBOR}
use Rattle.hidlink.specs.History.{DeviceCall, Answered, Leaves, Took}
use Rattle.hidlink.specs.Ranks.{Message, DeviceState, on_working, packets_of, response}
use Rattle.hidlink.specs.Told.{work}
use Rattle.hidlink.specs.declared.transaction.DeviceEvent.TheVariants as step
use Rattle.ctap_encoding.specs.declared.status.TheConstants.{KEEPALIVE_CANCEL}
use Rattle.cose.specs.Schemes.{Validity}
use Rattle.authenticator.specs.State.{AuthenticatorState}
use Rattle.authenticator.specs.Signing.{no_signature}
use Rattle.authenticator.specs.Steps.{Steps, Keys}
use Rattle.authenticator.specs.declared.consent.Consent.{Consent}
use Rattle.authenticator.specs.declared.consent.Words.{Words}
use Rattle.security_key.specs.declared.serving.Act.{Act}
use Rattle.security_key.specs.declared.serving.Served.{Served}
use Rattle.security_key.specs.declared.serving.Served.TheVariants as served
use Rattle.security_key.specs.Serving.{AsksToSign, Done, GoesOn, IsDecided, IsPayload, Serves, event_of}

-- these calls took a device from the one to the other, and this is left to send
pub record Moves (old new : DeviceState) (calls : List DeviceCall) (sent : Option Message) : Type 0 where
  pub left : new.left ≡ packets_of sent
  pub history : (h : List DeviceCall) → Leaves h old.channels old.state → Leaves (h ++ calls) new.channels new.state

-- whatever history left the device as it was
abbrev pub Keeps : DeviceState → AuthenticatorState → DeviceState → AuthenticatorState → Type 0
Keeps old a new b = (h : List DeviceCall) → Leaves h old.channels old.state → GoesOn old a new b

abbrev pub Takes : DeviceState → Packet → DeviceState → Type 0
Takes old p new =
    (((response old.channels old.state (fields p)).step ≡ step.Cancelled)
    × Moves old new (Took p ∷ Answered (KEEPALIVE_CANCEL ∷ []) ∷ []) (on_working old.state CTAPHID_CBOR (KEEPALIVE_CANCEL ∷ [])))
    ⊎ (((response old.channels old.state (fields p)).step ≢ step.Cancelled)
    × Moves old new (Took p ∷ []) (response old.channels old.state (fields p)).sent)

abbrev pub DecidesBy : Keys → DeviceState → AuthenticatorState → Consent → Words → Served → DeviceState → AuthenticatorState → Type 0
DecidesBy public old a consent words (served.Done event) new b =
    (event ≡ step.Quiet)
    × ((c : ℕ) × (payload : List ℕ) × (reply : List ℕ) × (work old.state ≡ Some (c, payload))
    × IsPayload reply × Steps no_signature public a c payload consent words reply b
    × Moves old new (Answered reply ∷ []) (on_working old.state CTAPHID_CBOR reply))
DecidesBy public old a consent words (served.Signs p) new b = IsDecided public old.state a consent words p × (new ≡ old) × (b ≡ a)

abbrev pub DeviceActs : Validity → Keys → DeviceState → AuthenticatorState → Act → DeviceState → AuthenticatorState → Type 0
DeviceActs valid public old a act new b =
    (done : Done) × Serves valid public old.channels old.state a act done × (b ≡ done.authenticator)
    × Moves old new done.calls done.sent

abbrev pub ActsBy : Keys → DeviceState → AuthenticatorState → Act → Served → DeviceState → AuthenticatorState → Type 0
ActsBy public old a x (served.Done event) new b = (event ≡ event_of old.channels old.state x) × DeviceActs no_signature public old a x new b
ActsBy public old a x (served.Signs p) new b = AsksToSign public old.state a x p × (new ≡ old) × (b ≡ a)
