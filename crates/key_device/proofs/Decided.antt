-- What is so between two acts is so after a decision, and after a signature.
use Rattle.std.proofs.Common.{◌≡◌, ◌≤◌, ℕ, List, [], ◌∷◌, ◌++◌, length, Option, Some, None, refl, sym, ◌∙◌, ap, subst}
use Rattle.std.specs.Prelude.{IfSome, IsSome}
use Rattle.std.proofs.lemmas.Bool.{le-ltb}
use Rattle.hidframe.specs.declared.Packet.{Packet}
use Rattle.hidlink.specs.History.{Answered, DeviceCall, Leaves}
use Rattle.hidlink.specs.Machine.{effect}
use Rattle.hidlink.specs.Ranks.{DeviceState, Message, TransactionState, Idle, Receiving, Working, IsWorking, packets_of, working_channel}
use Rattle.hidlink.proofs.Steps.{leaves-push, one_state}
use Rattle.authenticator.specs.State.{AuthenticatorState}
use Rattle.authenticator.specs.Signing.{AgreesOn, Finishes, message_of, only}
use Rattle.authenticator.specs.Steps.{Keys}
use Rattle.authenticator.specs.declared.consent.Consent.{Consent}
use Rattle.authenticator.specs.declared.consent.Words.{Words}
use Rattle.authenticator.specs.declared.pending.Pending.{Pending}
use Rattle.authenticator.proofs.Waiting.{composed}
use Rattle.key_pin.specs.State.{PinState}
use Rattle.hidlink.specs.Told.{work}
use Rattle.security_key.specs.Serving.{Done, FinishesServing, IsDone}
use Rattle.security_key.specs.declared.serving.ServeError.{ServeError}
use Rattle.security_key.specs.declared.serving.ServeError.TheVariants as serves
use Rattle.key_device.specs.Acts.{IsDecision}
use Rattle.key_device.specs.Deciding.{Decides, handed, pin_asked}
use Rattle.key_device.specs.Key.{Fits, IsSigned, IsSound, IsWaiting, KeyDeviceState}
use Rattle.key_device.specs.Numbers.{told_as}
use Rattle.key_device.specs.Sending.{IsSent}
use Rattle.key_device.specs.declared.error.KeyError.TheVariants as errors
use Rattle.key_device.specs.declared.stage.Stage.{Stage}
use Rattle.key_device.specs.declared.stage.Stage.TheVariants as stages
use Rattle.key_device.specs.declared.stage.Told.{Told}
use Rattle.key_device.proofs.Sound.{HasHistory, answered_sound, at_rest, goes, key, same_key, same_sound}

-- ---- a decision

-- a token that is spent changes nothing of what the request waits for, or of what the authenticator is handed
fits_spent : (pin : Option PinState) (s : TransactionState) (stage : Stage) (consent : Consent) → Fits pin s stage → Fits (pin_asked stage consent pin) s stage
fits_spent pin Idle stage consent h = h
fits_spent pin (Receiving cid cmd len next bytes) stage consent h = h
fits_spent pin (Working cid bs) (stages.Granted g) consent h = h
fits_spent pin (Working cid bs) stages.Nothing consent h = h
fits_spent pin (Working cid bs) stages.Unread consent h = h
fits_spent pin (Working cid bs) (stages.Words r) consent h = h
fits_spent pin (Working cid bs) (stages.Answer r c) consent h = h
fits_spent pin (Working cid bs) stages.User consent h = h
fits_spent pin (Working cid bs) stages.Touch consent h = h

handed_spent : (pin : Option PinState) (stage : Stage) (consent : Consent) (bs : List ℕ) → handed (pin_asked stage consent pin) stage bs consent ≡ handed pin stage bs consent
handed_spent pin (stages.Granted g) consent bs = refl
handed_spent pin stages.Nothing consent bs = refl
handed_spent pin stages.Unread consent bs = refl
handed_spent pin (stages.Words r) consent bs = refl
handed_spent pin (stages.Answer r c) consent bs = refl
handed_spent pin stages.User consent bs = refl
handed_spent pin stages.Touch consent bs = refl

pub decided_sound : (o : Option Pending) (d new : DeviceState) (a b : AuthenticatorState) (pin pin_after : Option PinState) (stage new_stage : Stage)
    (pending : Option Pending) (known : Keys) (consent : Consent) (words : Words) (t : Told) (before after : List Packet)
    → d.left ≡ [] → HasHistory d → Fits pin d.state stage
    → ((public : Keys) → AgreesOn words.secret public known → Decides public d a pin stage consent words before o new b pin_after after)
    → new.left ≡ [] → IsDecision o t stage new_stage pending
    → IsSound (key new b pin_after new_stage pending)
decided_sound None d new a b pin pin_after stage new_stage pending known consent words t before after left history fits decides drained is =
    let h = decides known (λ alg. refl) in
    answered_sound d new b pin_after new_stage pending before after h.message history h.answered drained is.1 is.2
decided_sound (Some p) d new a b pin pin_after stage new_stage pending known consent words t before after left history fits decides drained is =
    let h = decides known (λ alg. refl) in
    let spent = pin_asked stage consent pin in
    same_sound (key d a spent stage (Some p)) (key new b pin_after new_stage pending)
    (same_key d new a b spent pin_after stage new_stage (Some p) pending h.1 h.2 h.3 is.1 is.2)
    (record {
      drained = left;
      history = history;
      stage = fits_spent pin d.state stage consent fits;
      waiting = (
        known,
        consent,
        words,
        λ public agrees.
            let i = (decides public agrees).0 in
            (i.0, i.1, i.2, i.3, handed_spent pin stage consent i.1 ∙ i.4, i.5),
      );
    })

-- ---- a signature

ended : (n : ℕ) (s : TransactionState) (m : List ℕ) → IsWorking s → length m ≤ 7609 → (effect n s (Answered m)).after ≡ Idle
ended n (Working cid payload) m works fits = rw (le-ltb 7609 (length m) fits) refl
ended n Idle m works fits = absurd works
ended n (Receiving cid cmd len next bytes) m works fits = absurd works

-- an answer ends the work
ends : (d new : DeviceState) (m : List ℕ) → IsWorking d.state → length m ≤ 7609 → HasHistory d
    → ((h : List DeviceCall) → Leaves h d.channels d.state → Leaves (h ++ Answered m ∷ []) new.channels new.state) → new.state ≡ Idle
ends d new m works fits h f =
    (one_state (h.0 ++ Answered m ∷ []) new.channels _ new.state _ (f h.0 h.1) (leaves-push h.0 d.channels d.state (Answered m) h.1)).1
    ∙ ended d.channels d.state m works fits

-- what the two steps of serving come to
finished : (d new : DeviceState) (a b : AuthenticatorState) (p : Pending) (signature : List ℕ) (before after : List Packet) (done : Done)
    → HasHistory d → FinishesServing d.state a p signature done → IsDone d before done new b after
    → (reply : List ℕ) × Finishes a p signature reply b × IsSent d before reply new after
finished d new a b p signature before after done history f is =
    let went : (h : List DeviceCall) → Leaves h d.channels d.state → Leaves (h ++ Answered f.0 ∷ []) new.channels new.state =
    λ h l. subst (λ (cs : List DeviceCall). Leaves (h ++ cs) new.channels new.state) f.4 (is.2 h l) in (
      f.0,
      subst (λ (x : AuthenticatorState). Finishes a p signature f.0 x) (sym is.0) f.3,
      record {
        packets = is.1 ∙ ap (λ (m : Option Message). before ++ packets_of m) f.5;
        idle = ends d new f.0 f.1 f.2.0 history went;
        history = went;
      },
    )

waiting_for : (k : KeyDeviceState) (o : Option Pending) (p : Pending) → o ≡ Some p → IfSome o (IsWaiting k) → IsWaiting k p
waiting_for k o p is h = let P : Option Pending → Type 0 = λ o. IfSome o (IsWaiting k) in subst P is h

pub signed : (k : KeyDeviceState) (d : DeviceState) (b : AuthenticatorState) (p : Pending) (signature : List ℕ) (before after : List Packet) (o : Option Pending)
    → IsSound k → k.pending ≡ Some p → o ≡ None → 1 ≤ length signature → length signature ≤ 128
    → ((done : Done) × FinishesServing k.device.state k.authenticator p signature done × IsDone k.device before done d b after)
    → IsSigned k before signature (key d b k.pin stages.Nothing o) after
signed k d b p signature before after o sound is none low high f =
    let w = waiting_for k k.pending p is sound.waiting in
    let e = finished k.device d k.authenticator b p signature before after f.0 sound.history f.1 f.2 in
    record {
      pending = p;
      known = w.0;
      consent = w.1;
      words = w.2;
      reply = e.0;
      waits = is;
      decided = w.3;
      step = λ public agrees.
          let i = w.3 public agrees in (
            i.0,
            i.1,
            i.2,
            i.3,
            i.4,
            composed (only (public p.alg p.secret) (message_of p) signature) public k.authenticator k.authenticator b i.0 i.2.request i.2.consent w.2 p signature
                e.0 i.5 (low, high, (refl, refl, refl)) e.1,
          );
      finishes = e.1;
      sent = e.2;
      leaves = ap (key d b k.pin stages.Nothing) none;
    }

pub signed_sound : (k : KeyDeviceState) (d : DeviceState) (b : AuthenticatorState) (p : Pending) (signature : List ℕ) (before after : List Packet) (o : Option Pending)
    → IsSound k
    → ((done : Done) × FinishesServing k.device.state k.authenticator p signature done × IsDone k.device before done d b after)
    → d.left ≡ [] → o ≡ None → IsSound (key d b k.pin stages.Nothing o)
signed_sound k d b p signature before after o sound f drained none =
    let e = finished k.device d k.authenticator b p signature before after f.0 sound.history f.1 f.2 in
    at_rest d b k.pin stages.Nothing o drained (goes k.device d (Answered e.0 ∷ []) e.2.history sound.history) (ap working_channel e.2.idle) refl none

-- ---- a signature that is refused

pub works_for : (k : KeyDeviceState) (p : Pending) → IsSound k → k.pending ≡ Some p → IsWorking k.device.state
works_for k p i is =
    let w = waiting_for k k.pending p is i.waiting in
    let d = w.3 w.0 (λ alg. refl) in
    at_some k.device.state d.0 d.1 d.3
  where
    at_some : (s : TransactionState) (c : ℕ) (m : List ℕ) → work s ≡ Some (c, m) → IsWorking s
    at_some (Working cid payload) c m e = tt
    at_some Idle c m e = absurd (cc)
    at_some (Receiving cid cmd len next bytes) c m e = absurd (cc)

-- only if memory runs out, where something waits
pub only_memory : (e : ServeError) → (e ≡ serves.NotWorking → ⊥) → told_as e ≡ errors.Memory
only_memory serves.NotWorking works = absurd (works refl)
only_memory serves.Memory works = refl

pub has_some : (o : Option Pending) (p : Pending) → o ≡ Some p → IsSome o
has_some o p is = rw is refl
