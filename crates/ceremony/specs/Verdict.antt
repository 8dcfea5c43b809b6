-- What a list of packets is worth at a site: the verdict, the same for both ceremonies. Its layers are the packets
-- (CTAPHID), the reply that they carry (CTAP 2.1, section 6) and the steps of the site (WebAuthn Level 2, section 7).
use Rattle.std.specs.Prelude.{◌≢◌, ◌<◌, ◌≤◌, ◌+◌, ℕ, List, [], ◌∷◌, length, take}
use Rattle.hidframe.specs.declared.Packet.{Packet}
use Rattle.hidframe.specs.declared.ctaphid.TheConstants.{CTAPHID_CBOR, CTAPHID_ERROR}
use Rattle.hidlink.specs.Wire.{Carries, Dies, HasEnded}
use Rattle.ctap_encoding.specs.declared.error.Error.TheVariants as replies
use Rattle.ctap_replies.specs.declared.reply.Kind.{Kind}
use Rattle.ctap_replies.specs.Replies.{ReplyRefused}
use Rattle.ceremony.specs.declared.error.Error.{Error}
use Rattle.ceremony.specs.declared.error.Error.TheVariants as errors

-- A ceremony at a site: the command whose reply is judged; that a message is this reply to it; that the reply passes
-- each step of the site; and the first step that it does not pass.
pub record Ceremony (R W : Type 0) : Type 1 where
  pub command : Kind
  pub IsReply : R → List ℕ → Type 0
  pub PassesSite : R → Type 0
  pub FailsSite : R → W → Type 0

-- the first n packets carry the message m on channel c, as the reply to a request
abbrev pub Delivers : ℕ → List Packet → ℕ → List ℕ → Type 0
Delivers c ps n m = (n ≤ length ps) × Carries c (take n ps) CTAPHID_CBOR m

-- they carry a reply which passes each step of the site
abbrev pub Succeeds : {R W : Type 0} → Ceremony R W → ℕ → List Packet → ℕ → R → Type 0
Succeeds k c ps n r = (m : List ℕ) × Delivers c ps n m × k.IsReply r m × k.PassesSite r

-- they carry a reply of which this holds
abbrev pub CarriesReply : {R : Type 0} → (R → List ℕ → Type 0) → (R → Type 0) → ℕ → List Packet → Type 0
CarriesReply {R} IsReply P c ps = (n : ℕ) × (m : List ℕ) × (r : R) × Delivers c ps n m × IsReply r m × P r

-- why the message is refused: it is no reply to the command, or the first step of the site that the reply does not pass.
-- Running out of memory says nothing.
abbrev pub RefusedMessage : {R W : Type 0} → Ceremony R W → List ℕ → Error W → Type 0
RefusedMessage k m (errors.Reply e) = ReplyRefused k.command m e × (e ≢ replies.Memory)
RefusedMessage {R} k m (errors.Refused w) = (r : R) × k.IsReply r m × k.FailsSite r w
RefusedMessage k m errors.Memory = Unit {0}
RefusedMessage k m e = ⊥

-- why the packets carry no message: the device's error, the packet after which none can come, or that none came and
-- one still can
abbrev pub Undelivered : {W : Type 0} → ℕ → List Packet → Error W → Type 0
Undelivered c ps (errors.DeviceError code) = (n : ℕ) × (n ≤ length ps) × Carries c (take n ps) CTAPHID_ERROR (code ∷ [])
Undelivered c ps (errors.Dead index kind) = (index < length ps) × Dies c (take (index + 1) ps) kind
Undelivered c ps errors.Incomplete = HasEnded c ps → ⊥
Undelivered c ps e = ⊥

-- why the packets are refused: they carry no message, or the message is refused
abbrev pub Refused : {R W : Type 0} → Ceremony R W → ℕ → List Packet → Error W → Type 0
Refused k c ps errors.Memory = Unit {0}
Refused k c ps (errors.Reply e) = (n : ℕ) × (m : List ℕ) × Delivers c ps n m × RefusedMessage k m (errors.Reply e)
Refused k c ps (errors.Refused w) = (n : ℕ) × (m : List ℕ) × Delivers c ps n m × RefusedMessage k m (errors.Refused w)
Refused k c ps e = Undelivered c ps e
