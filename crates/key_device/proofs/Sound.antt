-- What is so between two acts is so after each.
use Rattle.std.proofs.Common.{◌≡◌, ℕ, inl, inr, List, [], ◌∷◌, ◌++◌, Option, Some, None, refl, sym, ap, subst, Ok, Err, Result}
use Rattle.std.specs.Prelude.{IfOk, OnErr}
use Rattle.hidframe.specs.declared.Packet.{Packet}
use Rattle.hidlink.specs.History.{Answered, DeviceCall, Leaves}
use Rattle.hidlink.specs.Ranks.{DeviceState, IsWorking, working_channel}
use Rattle.authenticator.specs.State.{AuthenticatorState}
use Rattle.authenticator.specs.declared.pending.Pending.{Pending}
use Rattle.key_pin.specs.Grants.{granted}
use Rattle.key_pin.specs.Host.{Ending, asks, refused}
use Rattle.key_pin.specs.State.{PinState}
use Rattle.key_pin.specs.declared.words.PinStep.{PinStep}
use Rattle.key_pin.specs.declared.words.PinStep.TheVariants as steps
use Rattle.key_pin.specs.declared.words.PinWords.{PinWords}
use Rattle.pin_protocols.specs.Asks.{ask_view}
use Rattle.key_device.specs.Computing.{AfterGrant, AfterStep, Computes, Entries, IsUndone, claim_of}
use Rattle.key_device.specs.Key.{Fits, IsSound, KeyDeviceState}
use Rattle.key_device.specs.Sending.{IsAnswered}
use Rattle.key_device.specs.Stages.{IsReading, Reads, SendsBy, stage_of}
use Rattle.key_device.specs.declared.reading.Reading.{Reading}
use Rattle.key_device.specs.declared.reading.Reading.TheVariants as readings
use Rattle.key_device.specs.declared.stage.PinRequest.{PinRequest}
use Rattle.key_device.specs.declared.stage.PinRequest.TheVariants as requests
use Rattle.key_device.specs.declared.stage.ProtectedAsked.{ProtectedAsked}
use Rattle.key_device.specs.declared.stage.Stage.{Stage}
use Rattle.key_device.specs.declared.stage.Stage.TheVariants as stages
use Rattle.key_device.specs.declared.stage.Told.{Told}
use Rattle.key_device.proofs.Fitting.{fits_answer, fits_granted, fits_pin, fits_rest, fits_touch, fits_unread, fits_user, fits_words}

abbrev pub key : DeviceState → AuthenticatorState → Option PinState → Stage → Option Pending → KeyDeviceState
key d a pin stage o = record { device = d; authenticator = a; pin = pin; stage = stage; pending = o }

-- some calls left the device so
abbrev pub HasHistory : DeviceState → Type 0
HasHistory d = (h : List DeviceCall) × Leaves h d.channels d.state

pub goes : (d new : DeviceState) (calls : List DeviceCall) → ((h : List DeviceCall) → Leaves h d.channels d.state → Leaves (h ++ calls) new.channels new.state)
    → HasHistory d → HasHistory new
goes d new calls f h = (h.0 ++ calls, f h.0 h.1)

pub same_key : (d e : DeviceState) (a b : AuthenticatorState) (p q : Option PinState) (s t : Stage) (o u : Option Pending)
    → e ≡ d → b ≡ a → q ≡ p → t ≡ s → u ≡ o → key e b q t u ≡ key d a p s o
same_key d e a b p q s t o u i j k l m = rw (i, j, k, l, m) refl

pub same_sound : (k l : KeyDeviceState) → l ≡ k → IsSound k → IsSound l
same_sound k l e i = subst IsSound (sym e) i

-- ---- nothing waits

pub unpending : (d : DeviceState) (a : AuthenticatorState) (pin : Option PinState) (stage : Stage) (o : Option Pending)
    → d.left ≡ [] → HasHistory d → Fits pin d.state stage → o ≡ None → IsSound (key d a pin stage o)
unpending d a pin stage o left history fits none =
    same_sound (key d a pin stage None) (key d a pin stage o) (ap (key d a pin stage) none)
    (record { drained = left; history = history; stage = fits; waiting = tt })

pub at_rest : (d : DeviceState) (a : AuthenticatorState) (pin : Option PinState) (stage : Stage) (o : Option Pending)
    → d.left ≡ [] → HasHistory d → working_channel d.state ≡ None → stage ≡ stages.Nothing → o ≡ None → IsSound (key d a pin stage o)
at_rest d a pin stage o left history rests nothing none = unpending d a pin stage o left history (fits_rest pin d.state stage rests nothing) none

-- ---- an answer

pub answered_rests : (d new : DeviceState) (before after : List Packet) (reply : List ℕ) → IsAnswered d before reply new after → working_channel new.state ≡ None
answered_rests d new before after reply (inl s) = ap working_channel s.idle
answered_rests d new before after reply (inr s) = ap working_channel s.1.idle

answered_history : (d new : DeviceState) (before after : List Packet) (reply : List ℕ) → IsAnswered d before reply new after → HasHistory d → HasHistory new
answered_history d new before after reply (inl s) h = goes d new (Answered reply ∷ []) s.history h
answered_history d new before after reply (inr s) h = goes d new (Answered (0x7F ∷ []) ∷ []) s.1.history h

pub answered_sound : (d new : DeviceState) (a : AuthenticatorState) (pin : Option PinState) (stage : Stage) (o : Option Pending) (before after : List Packet)
    (reply : List ℕ)
    → HasHistory d → IsAnswered d before reply new after → new.left ≡ [] → stage ≡ stages.Nothing → o ≡ None → IsSound (key new a pin stage o)
answered_sound d new a pin stage o before after reply history sent left nothing none =
    at_rest new a pin stage o left (answered_history d new before after reply sent history) (answered_rests d new before after reply sent) nothing none

-- ---- the device is as it was, and nothing waits

kept : (d new : DeviceState) (a : AuthenticatorState) (pin : Option PinState) (s stage : Stage) (o : Option Pending)
    → d.left ≡ [] → HasHistory d → new ≡ d → stage ≡ s → Fits pin d.state s → o ≡ None → IsSound (key new a pin stage o)
kept d new a pin s stage o left history same is fits none =
    same_sound (key d a pin s None) (key new a pin stage o) (same_key d new a a pin pin s stage None o same refl refl is none)
    (unpending d a pin s None left history fits refl)

-- ---- a request is read

pub read_sound : (d new : DeviceState) (a : AuthenticatorState) (pin : Option PinState) (stage : Stage) (o : Option Pending) (cid : ℕ) (t : Told)
    (before after : List Packet)
    → d.left ≡ [] → HasHistory d → IsWorking d.state → o ≡ None → Reads pin d cid before stage t new after → new.left ≡ [] → IsSound (key new a pin stage o)
read_sound d new a pin stage o cid t before after left history works none (inl r) drained = by r.0 r.1 r.2 r.4
  where
    by : (r : Reading) → IsReading pin d.state r → stage ≡ stage_of r → SendsBy d before r new after → IsSound (key new a pin stage o)
    by (readings.Pin request) h is sends = kept d new a pin (stages.Words request) stage o left history sends.0 is (fits_pin pin d.state request h) none
    by readings.AsItIs h is sends = kept d new a pin stages.User stage o left history sends.0 is (fits_user pin d.state h) none
    by readings.Touch h is sends = kept d new a pin stages.Touch stage o left history sends.0 is (fits_touch pin d.state h) none
    by (readings.Refused s) h is sends = answered_sound d new a pin stage o before after (s ∷ []) history sends drained is none
read_sound d new a pin stage o cid t before after left history works none (inr r) drained =
    kept d new a pin stages.Unread stage o left history r.2 r.0 (fits_unread pin d.state works) none

-- ---- a computation

stepped : (d new : DeviceState) (a : AuthenticatorState) (s u : PinState) (r : PinRequest) (words : PinWords) (es : Entries) (stage : Stage) (t : Told)
    (before after : List Packet) (step : PinStep)
    → d.left ≡ [] → HasHistory d → Fits (Some s) d.state (stages.Words r) → AfterStep r words es d before step stage t new after → new.left ≡ []
    → IsSound (key new a (Some u) stage None)
stepped d new a s u r words es stage t before after (steps.Asks x) left history fits h drained =
    kept d new a (Some u) stage stage None left history h.2 refl (fits_answer s u d.state r words es (ask_view x) stage fits h.0) refl
stepped d new a s u r words es stage t before after (steps.Replies reply) left history fits h drained =
    answered_sound d new a (Some u) stage None before after reply.items history h.2 drained h.0 refl

after_grant : (d new : DeviceState) (a : AuthenticatorState) (s u : PinState) (r : ProtectedAsked) (words : PinWords) (es : Entries) (cid : ℕ) (stage : Stage)
    (t : Told) (before after : List Packet) (g : Result (Unit {0}) Ending)
    → d.left ≡ [] → HasHistory d → Fits (Some s) d.state (stages.Words (requests.Protected r)) → granted es (claim_of r) s.token ≡ g
    → AfterGrant r words es d cid before g stage t new after → new.left ≡ [] → IsSound (key new a (Some u) stage None)
after_grant d new a s u r words es cid stage t before after (Ok x) left history fits is h drained =
    kept d new a (Some u) stage stage None left history h.2 refl (fits_granted s u d.state r es stage fits is h.0) refl
after_grant d new a s u r words es cid stage t before after (Err (asks x)) left history fits is h drained =
    kept d new a (Some u) stage stage None left history h.2 refl (fits_answer s u d.state (requests.Protected r) words es x stage fits h.0) refl
after_grant d new a s u r words es cid stage t before after (Err (refused x)) left history fits is h drained =
    answered_sound d new a (Some u) stage None before after (x ∷ []) history h.2 drained h.0 refl

computes : (d new : DeviceState) (a : AuthenticatorState) (s u : PinState) (r : PinRequest) (words : PinWords) (es : Entries) (cid : ℕ) (stage : Stage) (t : Told)
    (before after : List Packet)
    → d.left ≡ [] → HasHistory d → Fits (Some s) d.state (stages.Words r) → Computes s words es d cid before r stage t u new after → new.left ≡ []
    → IsSound (key new a (Some u) stage None)
computes d new a s u (requests.Command c) words es cid stage t before after left history fits (inl h) drained =
    stepped d new a s u (requests.Command c) words es stage t before after h.1.0 left history fits h.1.2 drained
computes d new a s u (requests.Command c) words es cid stage t before after left history fits (inr h) drained = absurd h
computes d new a s u (requests.Protected r) words es cid stage t before after left history fits (inl h) drained = absurd h
computes d new a s u (requests.Protected r) words es cid stage t before after left history fits (inr h) drained =
    after_grant d new a s u r words es cid stage t before after (granted es (claim_of r) s.token) left history fits refl h.1 drained

-- it goes on, or is to begin anew
pub computed_sound : {E : Type 0} (result : Result Told E) (d new : DeviceState) (a : AuthenticatorState) (pin pin_after : Option PinState) (r : PinRequest)
    (words : PinWords) (es : Entries) (cid : ℕ) (stage : Stage) (o : Option Pending) (before after : List Packet)
    → d.left ≡ [] → HasHistory d → Fits pin d.state (stages.Words r) → o ≡ None → new.left ≡ []
    → IfOk result (λ t. (s : PinState) × (u : PinState) × (pin ≡ Some s) × (pin_after ≡ Some u) × Computes s words es d cid before r stage t u new after)
    → OnErr result ((s : PinState) × (u : PinState) × (pin ≡ Some s) × (pin_after ≡ Some u) × IsUndone s words es r u)
    → OnErr result (stage ≡ stages.Words r) → OnErr result (new ≡ d)
    → IsSound (key new a pin_after stage o)
computed_sound (Ok t) d new a pin pin_after r words es cid stage o before after left history fits none drained h undone anew same =
    let at : Fits (Some h.0) d.state (stages.Words r) = subst (λ (p : Option PinState). Fits p d.state (stages.Words r)) h.2 fits in
    same_sound (key new a (Some h.1) stage None) (key new a pin_after stage o)
    (same_key new new a a (Some h.1) pin_after stage stage None o refl refl h.3 refl none)
    (computes d new a h.0 h.1 r words es cid stage t before after left history at h.4 drained)
computed_sound (Err e) d new a pin pin_after r words es cid stage o before after left history fits none drained h undone anew same =
    let at : Fits (Some undone.0) d.state (stages.Words r) = subst (λ (p : Option PinState). Fits p d.state (stages.Words r)) undone.2 fits in
    same_sound (key d a (Some undone.1) (stages.Words r) None) (key new a pin_after stage o)
    (same_key d new a a (Some undone.1) pin_after (stages.Words r) stage None o same refl undone.3 anew none)
    (unpending d a (Some undone.1) (stages.Words r) None left history (fits_words undone.0 undone.1 d.state r at) refl)
