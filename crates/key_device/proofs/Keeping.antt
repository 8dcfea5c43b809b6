-- What stays of a security key from act to act.
use Rattle.std.proofs.Common.{◌≡◌, ℕ, List, Option, Some, None, refl, sym, ◌∙◌, subst}
use Rattle.std.specs.Prelude.{IfSome, option_map}
use Rattle.hidlink.specs.Ranks.{DeviceState, Idle, Receiving, TransactionState, Working}
use Rattle.authenticator.specs.State.{AuthenticatorState}
use Rattle.authenticator.specs.declared.consent.Consent.{Consent}
use Rattle.authenticator.specs.declared.pending.Pending.{Pending}
use Rattle.key_pin.specs.State.{PinState, without_token}
use Rattle.key_device.specs.Deciding.{handed}
use Rattle.key_device.specs.Key.{Fits, IsSound, IsWaiting}
use Rattle.key_device.specs.Reading.{ReadsAs}
use Rattle.key_device.specs.Stages.{is_some}
use Rattle.key_device.specs.declared.reading.Reading.TheVariants as readings
use Rattle.key_device.specs.declared.stage.Stage.{Stage}
use Rattle.key_device.specs.declared.stage.Stage.TheVariants as stages

-- what the authenticator is handed, whatever the PIN is
handed_on : (s t : PinState) (stage : Stage) (bs : List ℕ) (consent : Consent) → handed (Some t) stage bs consent ≡ handed (Some s) stage bs consent
handed_on s t stages.Nothing bs consent = refl
handed_on s t stages.Unread bs consent = refl
handed_on s t (stages.Words r) bs consent = refl
handed_on s t (stages.Answer r c) bs consent = refl
handed_on s t stages.User bs consent = refl
handed_on s t stages.Touch bs consent = refl
handed_on s t (stages.Granted g) bs consent = refl

-- what was read, where a PIN is set or not as before
fits_on : (s t : PinState) (state : TransactionState) (stage : Stage) → t.pin ≡ s.pin → Fits (Some s) state stage → Fits (Some t) state stage
fits_on s t Idle stage e h = h
fits_on s t (Receiving cid cmd len next bytes) stage e h = h
fits_on s t (Working cid bs) stages.Nothing e h = h
fits_on s t (Working cid bs) stages.Unread e h = h
fits_on s t (Working cid bs) (stages.Words r) e h = subst (λ (p : Option (List ℕ)). ReadsAs (is_some p) bs (readings.Pin r)) (sym e) h
fits_on s t (Working cid bs) (stages.Answer r c) e h = subst (λ (p : Option (List ℕ)). ReadsAs (is_some p) bs (readings.Pin r)) (sym e) h
fits_on s t (Working cid bs) stages.User e h = subst (λ (p : Option (List ℕ)). ReadsAs (is_some p) bs readings.AsItIs) (sym e) h
fits_on s t (Working cid bs) stages.Touch e h = subst (λ (p : Option (List ℕ)). ReadsAs (is_some p) bs readings.Touch) (sym e) h
fits_on s t (Working cid bs) (stages.Granted g) e h = h

waits_on : (d : DeviceState) (a : AuthenticatorState) (s t : PinState) (stage : Stage) (whole : Option Pending) (o : Option Pending)
    → IfSome o (IsWaiting (record { device = d; authenticator = a; pin = Some s; stage = stage; pending = whole }))
    → IfSome o (IsWaiting (record { device = d; authenticator = a; pin = Some t; stage = stage; pending = whole }))
waits_on d a s t stage whole None h = tt
waits_on d a s t stage whole (Some p) h =
    (h.0, h.1, h.2, λ public agrees. let i = h.3 public agrees in (i.0, i.1, i.2, i.3, handed_on s t stage i.1 h.1 ∙ i.4, i.5))

-- the PIN is another, and set as before
pub pin_sound : (d : DeviceState) (a : AuthenticatorState) (s t : PinState) (stage : Stage) (o : Option Pending) → t.pin ≡ s.pin
    → IsSound (record { device = d; authenticator = a; pin = Some s; stage = stage; pending = o })
    → IsSound (record { device = d; authenticator = a; pin = Some t; stage = stage; pending = o })
pin_sound d a s t stage o e i =
    record { drained = i.drained; history = i.history; stage = fits_on s t d.state stage e i.stage; waiting = waits_on d a s t stage o o i.waiting }

pub token_ended : (d : DeviceState) (a : AuthenticatorState) (pin after : Option PinState) (stage : Stage) (o : Option Pending)
    → after ≡ option_map without_token pin
    → IsSound (record { device = d; authenticator = a; pin = pin; stage = stage; pending = o })
    → IsSound (record { device = d; authenticator = a; pin = after; stage = stage; pending = o })
token_ended d a None after stage o e i =
    subst (λ (p : Option PinState). IsSound (record { device = d; authenticator = a; pin = p; stage = stage; pending = o })) (sym e) i
token_ended d a (Some s) after stage o e i =
    subst (λ (p : Option PinState). IsSound (record { device = d; authenticator = a; pin = p; stage = stage; pending = o })) (sym e)
    (pin_sound d a s (without_token s) stage o refl i)
