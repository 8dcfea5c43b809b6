-- What the device does by itself.
use Rattle.std.proofs.Common.{◌≡◌, ℕ, inl, inr, List, [], ◌∷◌, ◌++◌, Bool, true, false, Option, Some, None, refl, sym, ◌∙◌, ap, subst}
use Rattle.std.specs.Bool.{OnFalse, OnTrue}
use Rattle.std.specs.Option.{is_some}
use Rattle.std.specs.Prelude.{IfSome, IsTrue, ◌↔◌}
use Rattle.hidframe.specs.declared.Packet.{Packet}
use Rattle.hidlink.specs.History.{DeviceCall, Expired, Kept, Leaves}
use Rattle.hidlink.specs.Ranks.{DeviceState, TransactionState, Idle, IsReceiving, Receiving, Working, IsWorking, expiry, on_working, packets_of, working_channel}
use Rattle.hidlink.specs.Told.{work}
use Rattle.hidlink.specs.declared.transaction.DeviceEvent.{DeviceEvent}
use Rattle.hidlink.specs.declared.transaction.DeviceEvent.TheVariants as events
use Rattle.authenticator.specs.Handed.{handed_key}
use Rattle.authenticator.specs.State.{AuthenticatorState}
use Rattle.authenticator.specs.Signing.{no_signature}
use Rattle.authenticator.specs.Steps.{Keys}
use Rattle.authenticator.specs.declared.keys.TheConstants.{NO_KEYS}
use Rattle.authenticator.specs.declared.pending.Pending.{Pending}
use Rattle.key_pin.specs.State.{PinState}
use Rattle.security_key.proofs.Acting as acting
use Rattle.security_key.specs.Serving.{BeginsServing, Done, Serves}
use Rattle.security_key.specs.declared.serving.Act.TheVariants as act
use Rattle.security_key.specs.declared.serving.Served.{Served}
use Rattle.security_key.specs.declared.serving.Served.TheVariants as served
use Rattle.key_device.specs.Acts.{Goes, Passes, ReadsOn, given_up}
use Rattle.key_device.specs.Key.{Fits, IsSound, IsWaiting, KeyDeviceState}
use Rattle.key_device.specs.declared.stage.Stage.{Stage}
use Rattle.key_device.specs.declared.stage.Told.{Told}
use Rattle.key_device.specs.declared.stage.Told.TheVariants as told
use Rattle.key_device.proofs.Fitting.{rests_at}
use Rattle.key_device.proofs.Sound.{HasHistory, at_rest, goes, key, same_sound}
use Rattle.key_device.proofs.Waiting.{no_work, none_at_rest}

-- ---- waiting and expiry

pub waits : (old mid new : DeviceState) (a : AuthenticatorState) (before out after : List Packet) → old.left ≡ [] → IsWorking old.state
    → mid.left ≡ packets_of (on_working old.state 59 (2 ∷ []))
    → ((h : List DeviceCall) → Leaves h old.channels old.state → Leaves (h ++ Kept 2 ∷ []) mid.channels mid.state)
    → new ≡ record mid { left = [] } → out ≡ before → after ≡ out ++ mid.left → Passes old a act.Wait before events.Quiet new after
waits old mid new a before out after none works left history drained same all = λ public.
    acting.sent public old mid new a a act.Wait before out after (served.Done events.Quiet)
    (refl, acting.waited no_signature public old mid a works (record { left = left; history = history })) none drained same all

pub expires : (old mid new : DeviceState) (a : AuthenticatorState) (before out after : List Packet) → old.left ≡ []
    → mid.left ≡ packets_of (expiry old.state)
    → ((h : List DeviceCall) → Leaves h old.channels old.state → Leaves (h ++ Expired ∷ []) mid.channels mid.state)
    → new ≡ record mid { left = [] } → out ≡ before → after ≡ out ++ mid.left → Passes old a act.Expire before events.Quiet new after
expires old mid new a before out after none left history drained same all = λ public.
    acting.sent public old mid new a a act.Expire before out after (served.Done events.Quiet)
    (refl, acting.expired no_signature public old mid a (record { left = left; history = history })) none drained same all

-- a device that is as it was, but for what it has sent
same_device : (old mid new : DeviceState) → old.left ≡ [] → mid ≡ record old { left = mid.left } → new ≡ record mid { left = [] } → new ≡ old
same_device old mid new none same drained =
    drained ∙ ap (λ (d : DeviceState). record d { left = [] }) same ∙ ap (λ (ps : List Packet). record old { left = ps }) (sym none)

pub waited_sound : (k : KeyDeviceState) (mid new : DeviceState) → IsSound k → mid ≡ record k.device { left = mid.left } → new ≡ record mid { left = [] }
    → IsSound (key new k.authenticator k.pin k.stage k.pending)
waited_sound k mid new i same drained =
    same_sound k (key new k.authenticator k.pin k.stage k.pending)
    (ap (λ (d : DeviceState). key d k.authenticator k.pin k.stage k.pending) (same_device k.device mid new i.drained same drained)) i

receives_not : (s : TransactionState) → IsReceiving s → working_channel s ≡ None
receives_not (Receiving cid cmd len next bytes) r = refl
receives_not Idle r = absurd r
receives_not (Working cid payload) r = absurd r

pub expired_sound : (b : Bool) (k : KeyDeviceState) (mid new : DeviceState) → IsSound k → IsTrue b ↔ IsReceiving k.device.state
    → OnTrue b (mid ≡ record k.device { state = Idle; left = mid.left }) → OnFalse b (mid ≡ k.device)
    → ((h : List DeviceCall) → Leaves h k.device.channels k.device.state → Leaves (h ++ Expired ∷ []) mid.channels mid.state)
    → new ≡ record mid { left = [] } → IsSound (key new k.authenticator k.pin k.stage k.pending)
expired_sound true k mid new i is ended same history drained =
    let rests = receives_not k.device.state (is.0 refl) in
    let state : new.state ≡ Idle = ap (λ (d : DeviceState). d.state) drained ∙ ap (λ (d : DeviceState). d.state) ended in
    at_rest new k.authenticator k.pin k.stage k.pending (ap (λ (d : DeviceState). d.left) drained)
    (goes k.device new (Expired ∷ []) (λ h l. subst (λ (d : DeviceState). Leaves (h ++ Expired ∷ []) d.channels d.state) (sym drained) (history h l)) i.history)
    (ap working_channel state) (rests_at k.pin k.device.state k.stage rests i.stage) (none_at_rest k k.pending (no_work k.device.state rests) i.waiting)
expired_sound false k mid new i is ended same history drained =
    waited_sound k mid new i (same ∙ ap (λ (ps : List Packet). record k.device { left = ps }) (sym (ap (λ (d : DeviceState). d.left) same))) drained

-- ---- a packet

-- whether a device works
pub works_if : (s : TransactionState) (o : Option ℕ) (b : Bool) → o ≡ working_channel s → b ≡ is_some o → b ≡ true → IsWorking s
works_if (Working cid payload) o b e f g = tt
works_if Idle o b e f g = absurd (let h = ap (λ (x : Option ℕ). is_some x) (sym e) ∙ sym f ∙ g in cc)
works_if (Receiving cid cmd len next bytes) o b e f g = absurd (let h = ap (λ (x : Option ℕ). is_some x) (sym e) ∙ sym f ∙ g in cc)

pub rests_if : (s : TransactionState) (o : Option ℕ) (b : Bool) → o ≡ working_channel s → b ≡ is_some o → b ≡ false → working_channel s ≡ None
rests_if Idle o b e f g = refl
rests_if (Receiving cid cmd len next bytes) o b e f g = refl
rests_if (Working cid payload) o b e f g = absurd (let h = ap (λ (x : Option ℕ). is_some x) (sym e) ∙ sym f ∙ g in cc)

no_keys : Keys
no_keys = λ alg secret. handed_key NO_KEYS alg

took : (public : Keys) (n : ℕ) (s : TransactionState) (a : AuthenticatorState) (p : Packet) (done : Done) → Serves no_signature public n s a (act.Packet p) done
    → done.authenticator ≡ a
took public n s a p done (inl h) = ap (λ (d : Done). d.authenticator) h.1
took public n s a p done (inr h) = ap (λ (d : Done). d.authenticator) h.1

pub record Took (old : DeviceState) (a : AuthenticatorState) (p : Packet) (before : List Packet) (event : DeviceEvent) (new : DeviceState)
    (b : AuthenticatorState) (after : List Packet) : Type 0 where
  pub same : b ≡ a
  pub passes : Passes old a (act.Packet p) before event new after

-- it changes nothing of the authenticator
pub takes : (old new : DeviceState) (a b : AuthenticatorState) (p : Packet) (before after : List Packet) (x : Served) (event : DeviceEvent)
    → ((public : Keys) → Unit {0} → BeginsServing public old a (act.Packet p) before x new b after)
    → ((e : DeviceEvent) → x ≡ served.Done e → event ≡ e)
    → Took old a p before event new b after
takes old new a b p before after (served.Signs q) event begins tells = absurd (begins no_keys tt).0
takes old new a b p before after (served.Done e) event begins tells =
    let first = begins no_keys tt in
    let same : b ≡ a = first.1.2.0 ∙ took no_keys old.channels old.state a p first.1.0 first.1.1 in
    record {
      same = same;
      passes = λ public.
          subst (λ (x : DeviceEvent). BeginsServing public old a (act.Packet p) before (served.Done x) new a after) (sym (tells e refl))
          (subst (λ (x : AuthenticatorState). BeginsServing public old a (act.Packet p) before (served.Done e) new x after) same (begins public tt));
    }

pub took_history : (old new : DeviceState) (a : AuthenticatorState) (p : Packet) (before after : List Packet) (event : DeviceEvent)
    → Passes old a (act.Packet p) before event new after → HasHistory old → HasHistory new
took_history old new a p before after event passes h = let d = (passes no_keys).1 in goes old new d.0.calls d.2.2 h

-- where it goes on with its request
abbrev payload_of : Option (ℕ × List ℕ) → List ℕ
payload_of None = []
payload_of (Some w) = w.1

same_payload : (pin : Option PinState) (s t : TransactionState) (stage : Stage) → IsWorking s → IsWorking t → work t ≡ work s → Fits pin s stage → Fits pin t stage
same_payload pin (Working c bs) (Working d cs) stage v w same h = let e : bs ≡ cs = sym (ap payload_of same) in subst (λ (x : List ℕ). Fits pin (Working d x) stage) e h
same_payload pin Idle t stage v w same h = absurd v
same_payload pin (Receiving cid cmd len next bytes) t stage v w same h = absurd v
same_payload pin s Idle stage v w same h = absurd w
same_payload pin s (Receiving cid cmd len next bytes) stage v w same h = absurd w

still : (k : KeyDeviceState) (d : DeviceState) (o : Option Pending) → work d.state ≡ work k.device.state → IfSome o (IsWaiting k)
    → IfSome o (IsWaiting (key d k.authenticator k.pin k.stage k.pending))
still k d None same h = tt
still k d (Some p) same h = (h.0, h.1, h.2, λ public agrees. let i = h.3 public agrees in (i.0, i.1, i.2, same ∙ i.3, i.4, i.5))

pub still_sound : (k : KeyDeviceState) (d : DeviceState) (b : AuthenticatorState) → IsSound k → IsWorking k.device.state → IsWorking d.state
    → (work d.state ≡ work k.device.state) × (b ≡ k.authenticator) → d.left ≡ [] → HasHistory d → IsSound (key d b k.pin k.stage k.pending)
still_sound k d b i before after same left history =
    same_sound (key d k.authenticator k.pin k.stage k.pending) (key d b k.pin k.stage k.pending)
    (ap (λ (x : AuthenticatorState). key d x k.pin k.stage k.pending) same.1)
    (record {
      drained = left;
      history = history;
      stage = same_payload k.pin k.device.state d.state k.stage before after same.0 i.stage;
      waiting = still k d k.pending same.0 i.waiting;
    })

pub goes_still : (s t : TransactionState) (mid : KeyDeviceState) (between : List Packet) (event : DeviceEvent) → IsWorking s → IsWorking t
    → work mid.device.state ≡ work s → Goes s t mid between event (told.Event event) mid between
goes_still (Working c bs) (Working d cs) mid between event v w same = (same, refl, refl, refl)
goes_still Idle t mid between event v w same = absurd v
goes_still (Receiving cid cmd len next bytes) t mid between event v w same = absurd v
goes_still s Idle mid between event v w same = absurd w
goes_still s (Receiving cid cmd len next bytes) mid between event v w same = absurd w

-- where it works on none
pub goes_to_rest : (s t : TransactionState) (mid : KeyDeviceState) (between : List Packet) (event : DeviceEvent) → working_channel t ≡ None
    → Goes s t mid between event (told.Event event) (given_up mid) between
goes_to_rest Idle Idle mid between event rests = (refl, refl, refl)
goes_to_rest Idle (Receiving cid cmd len next bytes) mid between event rests = (refl, refl, refl)
goes_to_rest (Receiving c k l n bs) Idle mid between event rests = (refl, refl, refl)
goes_to_rest (Receiving c k l n bs) (Receiving cid cmd len next bytes) mid between event rests = (refl, refl, refl)
goes_to_rest (Working c bs) Idle mid between event rests = (refl, refl, refl)
goes_to_rest (Working c bs) (Receiving cid cmd len next bytes) mid between event rests = (refl, refl, refl)
goes_to_rest s (Working c bs) mid between event rests = absurd (cc)

-- where it begins to work on one
pub goes_to_work : (s t : TransactionState) (mid : KeyDeviceState) (between : List Packet) (event : DeviceEvent) (x : Told) (new : KeyDeviceState) (after : List Packet)
    → working_channel s ≡ None → IsWorking t → ReadsOn mid between x new after → Goes s t mid between event x new after
goes_to_work Idle (Working c bs) mid between event x new after rests w h = h
goes_to_work (Receiving cid cmd len next bytes) (Working c bs) mid between event x new after rests w h = h
goes_to_work (Working cid payload) t mid between event x new after rests w h = absurd (cc)
goes_to_work s Idle mid between event x new after rests w h = absurd w
goes_to_work s (Receiving cid cmd len next bytes) mid between event x new after rests w h = absurd w
