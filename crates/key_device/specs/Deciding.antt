-- What comes of a decision of the user: CTAP 2.1, sections 6.1.2, 6.2.2, 6.4, 6.5.3 and 6.6.
use Rattle.std.specs.Prelude.{◌≡◌, ◌⊎◌, ◌≤◌, ◌==◌, ℕ, List, [], ◌∷◌, Bool, true, false, ◌&&◌, length, Option, Some, None, option_map, if◌then◌else◌}
use Rattle.hidframe.specs.declared.Packet.{Packet}
use Rattle.hidframe.specs.declared.ctaphid.TheConstants.{MAX_PAYLOAD_SIZE}
use Rattle.hidlink.specs.Ranks.{DeviceState, TransactionState}
use Rattle.hidlink.specs.Told.{work}
use Rattle.ctap_open_replies.specs.Replies.{Info, IsReply, TellsInfo}
use Rattle.pin_key_messages.specs.Informing.{KeyInfoBytes}
use Rattle.authenticator.specs.State.{AuthenticatorState}
use Rattle.authenticator.specs.Signing.{Begins, no_signature}
use Rattle.authenticator.specs.Steps.{Keys, Steps}
use Rattle.authenticator.specs.declared.consent.Consent.{Consent}
use Rattle.authenticator.specs.declared.consent.Words.{Words}
use Rattle.authenticator.specs.declared.pending.Begun.TheVariants as begun
use Rattle.authenticator.specs.declared.pending.Pending.{Pending}
use Rattle.key_pin.specs.State.{PinState, new_pin_state, spent}
use Rattle.key_device.specs.Sending.{IsAnswered}
use Rattle.key_device.specs.Stages.{is_some}
use Rattle.key_device.specs.declared.stage.Stage.{Stage}
use Rattle.key_device.specs.declared.stage.Stage.TheVariants as stages

-- ---- what the authenticator is handed

-- a request's bytes, and the consent
pub record Handed : Type 0 where
  pub request : List ℕ
  pub consent : Consent

-- the user is verified as a consent says only where there is built-in verification, of a key that takes no PINs
abbrev pub as_it_is : Option PinState → Consent → Consent
as_it_is None consent = consent
as_it_is (Some s) consent = record { present = consent.present; verified = false }

abbrev pub by_token : Consent → Consent
by_token consent = record { present = consent.present; verified = true }

-- of a request that waits for the user: as it is, of a user whom no token verified; or, where a token granted it, its bare form, of
-- a user who is verified
abbrev pub handed : Option PinState → Stage → List ℕ → Consent → Option Handed
handed pin stages.User bs consent = Some (record { request = bs; consent = as_it_is pin consent })
handed pin (stages.Granted g) bs consent = Some (record { request = g.bytes.items; consent = by_token consent })
handed pin _ bs consent = None

-- ---- the PIN afterwards

-- the command byte is this
abbrev pub is_command : ℕ → List ℕ → Bool
is_command n [] = false
is_command n (c ∷ rest) = c == n

-- a reset that was answered by status 0 leaves none
abbrev pub reset_on : Bool → List ℕ → Option PinState → Option PinState
reset_on is_reset reply pin = if is_reset && is_command 0 reply then option_map (λ s. new_pin_state) pin else pin

abbrev pub reset_by : List ℕ → List ℕ → Option PinState → Option PinState
reset_by bs reply pin = reset_on (is_command 7 bs) reply pin

-- where the user was asked to be present and is, the token is spent
abbrev pub spent_by : Bool → Option PinState → Option PinState
spent_by b pin = if b then option_map spent pin else pin

-- ---- the answer

-- the authenticator's reply to getInfo, and whether a PIN is set; 0x7F where there is no memory
abbrev pub IsInfo : Bool → List ℕ → List ℕ → Type 0
IsInfo is_set reply message = (message ≡ 0x7F ∷ []) ⊎ ((q : Info) × IsReply TellsInfo q reply × KeyInfoBytes q is_set message)

abbrev pub TellsBy : Option PinState → Bool → List ℕ → List ℕ → Type 0
TellsBy None is_info reply message = message ≡ reply
TellsBy (Some s) false reply message = message ≡ reply
TellsBy (Some s) true reply message = IsInfo (is_some s.pin) reply message

-- getInfo (4) tells of the PIN, of a key that takes PINs; each other reply is the authenticator's
abbrev pub Tells : Option PinState → List ℕ → List ℕ → List ℕ → Type 0
Tells pin bs reply message = TellsBy pin (is_command 4 bs) reply message

-- with an empty pinUvAuthParam: the user isn't there (0x27); a PIN is set (0x31); none is (0x35)
abbrev pub touched : Bool → Bool → ℕ
touched is_set present = if present then (if is_set then 0x31 else 0x35) else 0x27

-- ---- what waits for its signature

-- it was decided on the request that the device works on, of what the authenticator is handed at this stage
abbrev pub IsDecided : Keys → TransactionState → AuthenticatorState → Option PinState → Stage → Consent → Words → Pending → Type 0
IsDecided public s a pin stage consent words p =
    (c : ℕ) × (bs : List ℕ) × (h : Handed) × (work s ≡ Some (c, bs)) × (handed pin stage bs consent ≡ Some h)
    × Begins public a c h.request h.consent words (begun.Signs p) a

-- ---- a decision

-- what the device answers by
abbrev pub TellsAt : Stage → Option PinState → List ℕ → List ℕ → List ℕ → Type 0
TellsAt stages.User pin bs reply message = Tells pin bs reply message
TellsAt (stages.Granted g) pin bs reply message = message ≡ reply
TellsAt _ pin bs reply message = ⊥

-- the PIN after an answer
abbrev pub pin_answered : Stage → List ℕ → List ℕ → Consent → Option PinState → Option PinState
pin_answered stages.User bs reply consent pin = reset_by bs reply pin
pin_answered (stages.Granted g) bs reply consent pin = spent_by (consent.present && g.presence) pin
pin_answered _ bs reply consent pin = pin

-- and where a signature is asked for
abbrev pub pin_asked : Stage → Consent → Option PinState → Option PinState
pin_asked (stages.Granted g) consent pin = spent_by (consent.present && g.presence) pin
pin_asked _ consent pin = pin

-- the request is answered by a step of the authenticator on what it is handed
pub record IsDecidedAtOnce (public : Keys) (old : DeviceState) (a : AuthenticatorState) (pin : Option PinState) (stage : Stage) (consent : Consent) (words : Words)
    (before : List Packet) (new : DeviceState) (b : AuthenticatorState) (pin_after : Option PinState) (after : List Packet) : Type 0 where
  pub channel : ℕ
  pub request : List ℕ
  pub given : Handed
  pub reply : List ℕ
  pub message : List ℕ
  pub works : work old.state ≡ Some (channel, request)
  pub hands : handed pin stage request consent ≡ Some given
  pub step : Steps no_signature public a channel given.request given.consent words reply b
  pub size : length reply ≤ MAX_PAYLOAD_SIZE
  pub tells : TellsAt stage pin request reply message
  pub leaves : pin_after ≡ pin_answered stage request reply consent pin
  pub answered : IsAnswered old before message new after

-- or waits for its signature, and nothing has changed, but that a token may be spent
abbrev pub Decides : Keys → DeviceState → AuthenticatorState → Option PinState → Stage → Consent → Words → List Packet → Option Pending → DeviceState
    → AuthenticatorState → Option PinState → List Packet → Type 0
Decides public old a pin stage consent words before None new b pin_after after =
    IsDecidedAtOnce public old a pin stage consent words before new b pin_after after
Decides public old a pin stage consent words before (Some p) new b pin_after after =
    IsDecided public old.state a pin stage consent words p × (new ≡ old) × (b ≡ a) × (pin_after ≡ pin_asked stage consent pin) × (after ≡ before)
