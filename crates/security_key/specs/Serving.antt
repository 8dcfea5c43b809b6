-- What an act at the authenticator's end does (CTAP 2.1, section 11.2.5): at its device, and at the authenticator.
use Rattle.std.specs.Prelude.{◌≡◌, ◌≢◌, ◌⊎◌, ◌<◌, ◌≤◌, ℕ, List, [], ◌∷◌, ◌++◌, Option, Some, length, slice_index}
use Rattle.hidframe.specs.Packets.{fields}
use Rattle.hidframe.specs.declared.Packet.{Packet}
use Rattle.hidframe.specs.declared.ctaphid.TheConstants.{CTAPHID_CBOR, CTAPHID_KEEPALIVE, MAX_PAYLOAD_SIZE, STATUS_UPNEEDED}
use Rattle.hidlink.specs.History.{DeviceCall, Answered, Expired, Kept, Leaves, Took}
use Rattle.hidlink.specs.Ranks.{DeviceState, IsWorking, Message, expiry, on_working, packets_of, response}
use Rattle.hidlink.specs.Ranks as device
use Rattle.hidlink.specs.Told.{work}
use Rattle.hidlink.specs.declared.transaction.DeviceEvent.{DeviceEvent}
use Rattle.hidlink.specs.declared.transaction.DeviceEvent.TheVariants as step
use Rattle.ctap_encoding.specs.declared.status.TheConstants.{KEEPALIVE_CANCEL}
use Rattle.authenticator.specs.State.{AuthenticatorState}
use Rattle.cose.specs.Schemes.{Validity}
use Rattle.authenticator.specs.Signing.{AgreesOn, Begins, Finishes, message_of, no_signature}
use Rattle.authenticator.specs.Steps.{IsSignature, Steps, Keys}
use Rattle.authenticator.specs.declared.consent.Consent.{Consent}
use Rattle.authenticator.specs.declared.consent.Words.{Words}
use Rattle.authenticator.specs.declared.pending.Begun.TheVariants as begun
use Rattle.authenticator.specs.declared.pending.Pending.{Pending}
use Rattle.security_key.specs.declared.serving.Act.{Act}
use Rattle.security_key.specs.declared.serving.Act.TheVariants as act
use Rattle.security_key.specs.declared.serving.Served.{Served}
use Rattle.security_key.specs.declared.serving.Served.TheVariants as served

-- the calls that the act is to the device; the message that the device sends, if any; and what the authenticator
-- is afterwards
pub record Done : Type 0 where
  pub calls : List DeviceCall
  pub sent : Option Message
  pub authenticator : AuthenticatorState

-- bytes that fit into a message (section 11.2.4)
abbrev pub IsPayload : List ℕ → Type 0
IsPayload m = (length m ≤ MAX_PAYLOAD_SIZE) × ((k : ℕ) → slice_index m k < 256)

-- A packet is taken, and a cancelled request is answered by status 0x2D; what else comes of it is sent. A decision
-- on the request that the device works on is a step of the authenticator, whose reply is the answer. Waiting sends a
-- keepalive: the user's presence is needed.
abbrev pub Serves : Validity → Keys → ℕ → device.TransactionState → AuthenticatorState → Act → Done → Type 0
Serves valid public n s a (act.Packet p) d =
    (((response n s (fields p)).step ≡ step.Cancelled)
    × (d ≡ record {
      calls = Took p ∷ Answered (KEEPALIVE_CANCEL ∷ []) ∷ [];
      sent = on_working s CTAPHID_CBOR (KEEPALIVE_CANCEL ∷ []);
      authenticator = a;
    }))
    ⊎ (((response n s (fields p)).step ≢ step.Cancelled)
    × (d ≡ record { calls = Took p ∷ []; sent = (response n s (fields p)).sent; authenticator = a }))
Serves valid public n s a (act.Decide consent words) d =
    (c : ℕ) × (payload : List ℕ) × (reply : List ℕ) × (work s ≡ Some (c, payload))
    × IsPayload reply × Steps valid public a c payload consent words reply d.authenticator
    × (d.calls ≡ Answered reply ∷ []) × (d.sent ≡ on_working s CTAPHID_CBOR reply)
Serves valid public n s a act.Wait d =
    IsWorking s
    × (d ≡ record {
      calls = Kept STATUS_UPNEEDED ∷ [];
      sent = on_working s CTAPHID_KEEPALIVE (STATUS_UPNEEDED ∷ []);
      authenticator = a;
    })
Serves valid public n s a act.Expire d = d ≡ record { calls = Expired ∷ []; sent = expiry s; authenticator = a }

-- the act is on a request that waits
abbrev pub AsksForWork : Act → Type 0
AsksForWork (act.Packet p) = ⊥
AsksForWork (act.Decide consent words) = Unit {0}
AsksForWork act.Wait = Unit {0}
AsksForWork act.Expire = ⊥

-- ---- in two steps, for a host that signs elsewhere

-- what the device tells of an act that is done: of a packet what its response tells, else nothing
abbrev pub event_of : ℕ → device.TransactionState → Act → DeviceEvent
event_of n s (act.Packet p) = (response n s (fields p)).step
event_of n s (act.Decide consent words) = step.Quiet
event_of n s act.Wait = step.Quiet
event_of n s act.Expire = step.Quiet

-- of a decision, the one has the keys of the other for the secret that is passed with it
abbrev pub AgreesFor : Act → Keys → Keys → Type 0
AgreesFor (act.Packet p) public known = Unit {0}
AgreesFor (act.Decide consent words) public known = AgreesOn words.secret public known
AgreesFor act.Wait public known = Unit {0}
AgreesFor act.Expire public known = Unit {0}

-- the request that the device works on waits for its signature, of a decision by the first of the authenticator's two steps
abbrev pub IsDecided : Keys → device.TransactionState → AuthenticatorState → Consent → Words → Pending → Type 0
IsDecided public s a consent words p =
    (c : ℕ) × (payload : List ℕ) × (work s ≡ Some (c, payload)) × Begins public a c payload consent words (begun.Signs p) a

abbrev pub AsksToSign : Keys → device.TransactionState → AuthenticatorState → Act → Pending → Type 0
AsksToSign public s a (act.Packet packet) p = ⊥
AsksToSign public s a (act.Decide consent words) p = IsDecided public s a consent words p
AsksToSign public s a act.Wait p = ⊥
AsksToSign public s a act.Expire p = ⊥

-- with its signature the request that the device works on is answered, by the second step
abbrev pub FinishesServing : device.TransactionState → AuthenticatorState → Pending → List ℕ → Done → Type 0
FinishesServing s a p signature d =
    (reply : List ℕ) × IsWorking s × IsPayload reply × Finishes a p signature reply d.authenticator
    × (d.calls ≡ Answered reply ∷ []) × (d.sent ≡ on_working s CTAPHID_CBOR reply)

-- it is done: the packets of what is due stand after those that were there
abbrev pub IsDone : DeviceState → List Packet → Done → DeviceState → AuthenticatorState → List Packet → Type 0
IsDone old before d new b after =
    (b ≡ d.authenticator) × (after ≡ before ++ packets_of d.sent)
    × ((h : List DeviceCall) → Leaves h old.channels old.state → Leaves (h ++ d.calls) new.channels new.state)

-- the act is done, whatever signatures are valid; or its request waits for a signature, and nothing has changed
abbrev pub BeginsServing : Keys → DeviceState → AuthenticatorState → Act → List Packet → Served → DeviceState → AuthenticatorState → List Packet → Type 0
BeginsServing public old a x before (served.Done event) new b after =
    (event ≡ event_of old.channels old.state x)
    × ((d : Done) × Serves no_signature public old.channels old.state a x d × IsDone old before d new b after)
BeginsServing public old a x before (served.Signs p) new b after =
    AsksToSign public old.state a x p × (new ≡ old) × (b ≡ a) × (after ≡ before)

-- a request that the device works on before and after is the same one, and the authenticator is as it was
abbrev pub GoesOn : DeviceState → AuthenticatorState → DeviceState → AuthenticatorState → Type 0
GoesOn old a new b = IsWorking old.state → IsWorking new.state → (work new.state ≡ work old.state) × (b ≡ a)

-- ---- both steps are one act

pub record ServingLaws (valid : Validity) (public : Keys) : Type 0 where
  -- what is done at once is done by the act
  pub done : (n : ℕ) (s : device.TransactionState) (a : AuthenticatorState) (x : Act) (d : Done)
      → Serves no_signature public n s a x d → Serves valid public n s a x d
  -- what waits is done by it with a signature that is valid
  pub signed : (n : ℕ) (s : device.TransactionState) (a : AuthenticatorState) (x : Act) (p : Pending) (signature : List ℕ) (d : Done)
      → AsksToSign public s a x p → IsSignature valid (public p.alg p.secret) (message_of p) signature
      → FinishesServing s a p signature d → Serves valid public n s a x d
  -- and what waits goes on waiting with its request
  pub waits : (s t : device.TransactionState) (a : AuthenticatorState) (x : Act) (p : Pending)
      → work t ≡ work s → AsksToSign public s a x p → AsksToSign public t a x p
