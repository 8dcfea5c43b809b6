-- What comes of a decision.
use Rattle.std.proofs.Common.{◌≡◌, ◌≤◌, ℕ, List, Option, Some, None, Bool, length, refl, ◌∙◌, ap, subst}
use Rattle.std.specs.Prelude.{◌&&◌}
use Rattle.hidframe.specs.declared.Packet.{Packet}
use Rattle.hidlink.specs.Ranks.{DeviceState, Idle, Receiving, TransactionState, Working, request_payload, working_channel}
use Rattle.hidlink.specs.Told.{work}
use Rattle.authenticator.specs.State.{AuthenticatorState}
use Rattle.authenticator.specs.Signing.{Begins, no_signature}
use Rattle.authenticator.specs.Steps.{Keys, Steps}
use Rattle.authenticator.specs.declared.consent.Consent.{Consent}
use Rattle.authenticator.specs.declared.consent.Words.{Words}
use Rattle.authenticator.specs.declared.pending.Begun.TheVariants as begun
use Rattle.authenticator.specs.declared.pending.Pending.{Pending}
use Rattle.key_pin.specs.State.{PinState}
use Rattle.security_key.proofs.Acting.{at_work}
use Rattle.key_device.specs.Deciding.{IsDecided, IsDecidedAtOnce, TellsBy, as_it_is, by_token, is_command, reset_on, spent_by}
use Rattle.key_device.specs.Sending.{IsAnswered}
use Rattle.key_device.specs.declared.stage.GrantedRequest.{GrantedRequest}
use Rattle.key_device.specs.declared.stage.Stage.TheVariants as stages

pub consent_is : (pin : Option PinState) (consent : Consent) (v : Bool) → v ≡ (as_it_is pin consent).verified
    → record { present = consent.present; verified = v } ≡ as_it_is pin consent
consent_is None consent v e = ap (λ (v : Bool). record { present = consent.present; verified = v }) e
consent_is (Some s) consent v e = ap (λ (v : Bool). record { present = consent.present; verified = v }) e

-- ---- as it is

pub answered : (public : Keys) (old new : DeviceState) (a b : AuthenticatorState) (pin pin_after : Option PinState) (consent given : Consent) (words : Words)
    (before after : List Packet) (channel : ℕ) (bs reply : List ℕ) (is_info is_reset : Bool)
    → working_channel old.state ≡ Some channel → request_payload old.state ≡ Some bs → given ≡ as_it_is pin consent
    → Steps no_signature public a channel bs given words reply b → length reply ≤ 7609 → is_info ≡ is_command 4 bs → is_reset ≡ is_command 7 bs
    → pin_after ≡ reset_on is_reset reply pin → ((m : List ℕ) × TellsBy pin is_info reply m × IsAnswered old before m new after)
    → IsDecidedAtOnce public old a pin stages.User consent words before new b pin_after after
answered public old new a b pin pin_after consent given words before after channel bs reply is_info is_reset at payload same steps fits info resets pin_is m =
    record {
      channel = channel;
      request = bs;
      given = record { request = bs; consent = as_it_is pin consent };
      reply = reply;
      message = m.0;
      works = at_work old.state channel bs at payload;
      hands = refl;
      step = subst (λ (k : Consent). Steps no_signature public a channel bs k words reply b) same steps;
      size = fits;
      tells = subst (λ (i : Bool). TellsBy pin i reply m.0) info m.1;
      leaves = pin_is ∙ ap (λ (i : Bool). reset_on i reply pin) resets;
      answered = m.2;
    }

pub signs : (public : Keys) (s : TransactionState) (a b : AuthenticatorState) (pin : Option PinState) (consent given : Consent) (words : Words) (channel : ℕ)
    (bs : List ℕ) (p : Pending)
    → working_channel s ≡ Some channel → request_payload s ≡ Some bs → given ≡ as_it_is pin consent
    → Begins public a channel bs given words (begun.Signs p) b → IsDecided public s a pin stages.User consent words p
signs public s a b pin consent given words channel bs p at payload same h = (
  channel,
  bs,
  record { request = bs; consent = as_it_is pin consent },
  at_work s channel bs at payload,
  refl,
  subst (λ (k : Consent). Begins public a channel bs k words (begun.Signs p) a) same (refl, h.1),
)

-- ---- granted

pub works_at : (s : TransactionState) (c : ℕ) → working_channel s ≡ Some c → (bs : List ℕ) × (work s ≡ Some (c, bs))
works_at (Working cid payload) c e = (payload, cc)
works_at Idle c e = absurd (cc)
works_at (Receiving cid cmd len next bytes) c e = absurd (cc)

pub answered_granted : (public : Keys) (old new : DeviceState) (a b : AuthenticatorState) (pin pin_after : Option PinState) (g : GrantedRequest) (consent : Consent)
    (words : Words) (before after : List Packet) (channel : ℕ) (reply : List ℕ)
    → working_channel old.state ≡ Some channel
    → Steps no_signature public a channel g.bytes.items (by_token consent) words reply b → length reply ≤ 7609
    → pin_after ≡ spent_by (consent.present && g.presence) pin → IsAnswered old before reply new after
    → IsDecidedAtOnce public old a pin (stages.Granted g) consent words before new b pin_after after
answered_granted public old new a b pin pin_after g consent words before after channel reply at steps fits pin_is sent =
    let w = works_at old.state channel at in
    record {
      channel = channel;
      request = w.0;
      given = record { request = g.bytes.items; consent = by_token consent };
      reply = reply;
      message = reply;
      works = w.1;
      hands = refl;
      step = steps;
      size = fits;
      tells = refl;
      leaves = pin_is;
      answered = sent;
    }

pub signs_granted : (public : Keys) (s : TransactionState) (a b : AuthenticatorState) (pin : Option PinState) (g : GrantedRequest) (consent : Consent) (words : Words)
    (channel : ℕ) (p : Pending)
    → working_channel s ≡ Some channel
    → Begins public a channel g.bytes.items (by_token consent) words (begun.Signs p) b → IsDecided public s a pin (stages.Granted g) consent words p
signs_granted public s a b pin g consent words channel p at h =
    let w = works_at s channel at in
    (channel, w.0, record { request = g.bytes.items; consent = by_token consent }, w.1, refl, (refl, h.1))
