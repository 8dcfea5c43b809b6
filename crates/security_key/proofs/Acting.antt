-- What the parts of an act come to.
use Rattle.std.proofs.Common.{◌≡◌, ℕ, suc, ◌+◌, ◌-◌, ◌≤◌, ◌<◌, ◌⊎◌, inl, inr, List, [], ◌∷◌, ◌++◌, length, refl, sym, ◌∙◌, ap, subst, arith, Result}
use Rattle.std.proofs.Common.{Ok, Err, cond}
use Rattle.std.proofs.lemmas.List.{append-nil}
use Rattle.std.specs.Bool.{OnFalse, OnTrue}
use Rattle.std.specs.Prelude.{Bool, true, false, None, Some, IfOk, IsErrOf, IsOk, OnErr, OnOk, is_ok}
use Rattle.hidframe.specs.declared.Packet.{Packet}
use Rattle.hidframe.specs.Packets.{Fields}
use Rattle.hidlink.specs.History.{Answered, DeviceCall, Expired, Kept, Leaves}
use Rattle.hidlink.specs.Ranks.{TransactionState, Idle, Receiving, Working, IsWorking, DeviceState, expiry, on_working, packets_of, request_payload}
use Rattle.hidlink.specs.Ranks.{working_channel}
use Rattle.hidlink.specs.Told.{TellsEvent, work}
use Rattle.hidlink.specs.declared.transaction.DeviceEvent.{DeviceEvent}
use Rattle.hidlink.specs.declared.transaction.DeviceEvent.TheVariants as events
use Rattle.hidlink.specs.declared.transaction.Refusal.{Refusal}
use Rattle.hidlink.specs.declared.transaction.Refusal.TheVariants.{NotWorking, TooLong}
use Rattle.cose.specs.Schemes.{Validity}
use Rattle.authenticator.specs.State as authenticator
use Rattle.authenticator.specs.Signing.{message_of, no_signature}
use Rattle.authenticator.specs.Steps.{IsSignature, Keys}
use Rattle.authenticator.specs.declared.consent.Consent.{Consent}
use Rattle.authenticator.specs.declared.consent.Words.{Words}
use Rattle.authenticator.specs.declared.pending.Pending.{Pending}
use Rattle.authenticator.proofs.Waiting.{composed, replied}
use Rattle.security_key.specs.AtDevice.{ActsBy, DecidesBy, DeviceActs, Keeps, Moves, Takes}
use Rattle.security_key.specs.Serving.{AgreesFor, AsksToSign, BeginsServing, Done, FinishesServing, IsDone, Serves, ServingLaws}
use Rattle.security_key.specs.declared.serving.Served.{Served}
use Rattle.security_key.specs.declared.serving.Served.TheVariants as served
use Rattle.security_key.specs.declared.serving.Act.{Act}
use Rattle.security_key.specs.declared.serving.Act.TheVariants as act

-- keys agree with themselves
pub agrees_itself : (x : Act) (public : Keys) → AgreesFor x public public
agrees_itself (act.Packet p) public = tt
agrees_itself (act.Decide consent words) public = λ alg. refl
agrees_itself act.Wait public = tt
agrees_itself act.Expire public = tt

-- the request that a device works on
pub at_work : (s : TransactionState) (c : ℕ) (m : List ℕ) → working_channel s ≡ Some c → request_payload s ≡ Some m → work s ≡ Some (c, m)
at_work (Working cid payload) c m e f = cc
at_work _ c m e f = absurd (cc)

pub works : (s : TransactionState) (c : ℕ) → working_channel s ≡ Some c → IsWorking s
works (Working cid payload) c e = tt
works _ c e = absurd (cc)

-- an answer that isn't refused
pub not_refused : {A X : Type 0} (r : Result A Refusal) → (IsErrOf r NotWorking → ⊥) → (IsErrOf r TooLong → ⊥) → OnOk r X → X
not_refused (Ok x) a b k = k
not_refused (Err NotWorking) a b k = absurd (a refl)
not_refused (Err TooLong) a b k = absurd (b refl)

-- packets sent one by one
pub few_left : (n : ℕ) (old new : List Packet) (p : Packet) → old ≡ p ∷ new → length old ≤ 129 → n < 129 → (n ≡ 0) ⊎ (length old + n ≤ 129)
    → length new + (n + 1) ≤ 129
few_left n old new p e most less (inl none) = let size : length old ≡ suc (length new) = ap length e in omega arith
few_left n old new p e most less (inr few) = let size : length old ≡ suc (length new) = ap length e in omega arith

pub all_sent : (n : ℕ) (left : List Packet) → 129 ≤ n → (n ≡ 0) ⊎ (length left + n ≤ 129) → left ≡ []
all_sent n left all (inl none) = absurd (omega arith)
all_sent n [] all (inr few) = refl
all_sent n (p ∷ left) all (inr few) = absurd (omega arith)

pub room_on : (n len room more wide : ℕ) → n < 129 → len + (129 - n) ≤ room → room ≤ wide → more ≤ len + 1 → more + (129 - (n + 1)) ≤ wide
room_on n len room more wide less h wider one = omega arith

-- what is pushed where there is room
pub one_sent : {A E X : Type 0} (r : Result A E) (x y z : X) → IsOk r → z ≡ cond (is_ok r) x y → z ≡ x
one_sent (Ok a) x y z k e = e
one_sent (Err a) x y z k e = absurd (cc)

-- the acts
pub took : (valid : Validity) (public : Keys) (old new : DeviceState) (a : authenticator.AuthenticatorState) (p : Packet) → Takes old p new
    → DeviceActs valid public old a (act.Packet p) new a
took valid public old new a p (inl t) = (_, inl (t.0, refl), refl, t.1)
took valid public old new a p (inr t) = (_, inr (t.0, refl), refl, t.1)

pub decided : (public : Keys) (old new : DeviceState) (a b : authenticator.AuthenticatorState) (consent : Consent) (words : Words) (x : Served)
    → DecidesBy public old a consent words x new b
    → ActsBy public old a (act.Decide consent words) x new b
decided public old new a b consent words (served.Done event) d =
    let e = d.1 in (
      d.0,
      (
        record { calls = Answered e.2 ∷ []; sent = on_working old.state 16 e.2; authenticator = b },
        (e.0, e.1, e.2, e.3, e.4, e.5, refl, refl),
        refl,
        e.6,
      ),
    )
decided public old new a b consent words (served.Signs p) d = d

pub waited : (valid : Validity) (public : Keys) (old new : DeviceState) (a : authenticator.AuthenticatorState) → IsWorking old.state
    → Moves old new (Kept 2 ∷ []) (on_working old.state 59 (2 ∷ []))
    → DeviceActs valid public old a act.Wait new a
waited valid public old new a works m = (_, (works, refl), refl, m)

pub expired : (valid : Validity) (public : Keys) (old new : DeviceState) (a : authenticator.AuthenticatorState)
    → Moves old new (Expired ∷ []) (expiry old.state) → DeviceActs valid public old a act.Expire new a
expired valid public old new a m = (_, refl, refl, m)

-- ---- a request that goes on

-- a device that works on nothing any more
pub idle : (a : authenticator.AuthenticatorState) (old : DeviceState) (b : authenticator.AuthenticatorState) (new : DeviceState) → new.state ≡ Idle
    → Keeps old a new b
idle a old b new is h left before after = absurd (subst IsWorking is after)

pub same_work : (a : authenticator.AuthenticatorState) (old new : DeviceState) → new.state ≡ old.state → Keeps old a new a
same_work a old new is h left before after = (ap work is, refl)

-- an answer that may be refused
pub answered_or_not : {A E : Type 0} (r : Result A E) (a : authenticator.AuthenticatorState) (old new : DeviceState)
    → OnOk r (new ≡ record old { state = Idle; left = new.left }) → OnErr r (new ≡ old) → Keeps old a new a
answered_or_not (Ok x) a old new f g = idle a old a new (ap (λ (d : DeviceState). d.state) f)
answered_or_not (Err e) a old new f g = same_work a old new (ap (λ (d : DeviceState). d.state) g)

-- an end of a message that is coming in
pub ended_or_not : (b : Bool) (a : authenticator.AuthenticatorState) (old new : DeviceState)
    → OnTrue b (new ≡ record old { state = Idle; left = new.left }) → OnFalse b (new ≡ old) → Keeps old a new a
ended_or_not true a old new f g = idle a old a new (ap (λ (d : DeviceState). d.state) f)
ended_or_not false a old new f g = same_work a old new (ap (λ (d : DeviceState). d.state) g)

no_work : (s : TransactionState) → IsWorking s → work s ≡ None → ⊥
no_work (Working cid payload) w e = absurd (cc)
no_work Idle w e = w
no_work (Receiving cid cmd len next bytes) w e = w

-- what a packet tells
pub told_keeps : (e : DeviceEvent) (f : Fields) (a : authenticator.AuthenticatorState) (old new : DeviceState)
    → ((h : List DeviceCall) → Leaves h old.channels old.state → TellsEvent old.state f new.state e) → Keeps old a new a
told_keeps events.Quiet f a old new told h left before after = ((told h left).1, refl)
told_keeps (events.Request c) f a old new told h left before after = absurd (no_work old.state before (told h left).0)
told_keeps events.Cancelled f a old new told h left before after = ((told h left).1, refl)
told_keeps events.Aborted f a old new told h left before after = absurd (no_work new.state after (told h left).1)

-- ---- what is due is sent

pub on_ok : {A E X Y : Type 0} (r : Result A E) → (X → Y) → OnOk r X → OnOk r Y
on_ok (Ok x) f h = f h
on_ok (Err e) f h = tt

pub if_ok : {A E : Type 0} {X Y : A → Type 0} (r : Result A E) → ((x : A) → X x → Y x) → IfOk r X → IfOk r Y
if_ok (Ok x) f h = f x h
if_ok (Err e) f h = tt

drained : (old mid new : DeviceState) → old.left ≡ [] → mid ≡ old → new ≡ record mid { left = [] } → new ≡ old
drained old mid new none same e = e ∙ ap (λ (d : DeviceState). record d { left = [] }) same ∙ ap (λ (ps : List Packet). record old { left = ps }) (sym none)

pub sent_done : (old mid new : DeviceState) (b : authenticator.AuthenticatorState) (before out after : List Packet) (d : Done)
    → b ≡ d.authenticator → Moves old mid d.calls d.sent → new ≡ record mid { left = [] } → out ≡ before → after ≡ out ++ mid.left
    → IsDone old before d new b after
sent_done old mid new b before out after d is m e same all = (
  is,
  all ∙ ap (λ xs. xs ++ mid.left) same ∙ ap (λ xs. before ++ xs) m.left,
  λ h l. subst (λ (x : DeviceState). Leaves (h ++ d.calls) x.channels x.state) (sym e) (m.history h l),
)

pub sent : (public : Keys) (old mid new : DeviceState) (a b : authenticator.AuthenticatorState) (x : Act) (before out after : List Packet) (y : Served)
    → ActsBy public old a x y mid b
    → old.left ≡ [] → new ≡ record mid { left = [] } → out ≡ before → after ≡ out ++ mid.left → BeginsServing public old a x before y new b after
sent public old mid new a b x before out after (served.Done event) k none e same all =
    let d = k.1 in (k.0, (d.0, d.1, sent_done old mid new b before out after d.0 d.2 d.3 e same all))
sent public old mid new a b x before out after (served.Signs p) k none e same all = (
  k.0,
  drained old mid new none k.1 e,
  k.2,
  all ∙ ap (λ xs. xs ++ mid.left) same ∙ ap (λ xs. before ++ xs) (ap (λ (d : DeviceState). d.left) k.1 ∙ none) ∙ append-nil before,
)

pub sent_keeps : (old mid new : DeviceState) (a b : authenticator.AuthenticatorState) → new ≡ record mid { left = [] } → Keeps old a mid b → Keeps old a new b
sent_keeps old mid new a b e k h left before after =
    let is = ap (λ (d : DeviceState). d.state) e in
    let goes = k h left before (subst IsWorking is after) in (ap work is ∙ goes.0, goes.1)

-- ---- both steps are one act

pub done_by : (valid : Validity) (public : Keys) (n : ℕ) (s : TransactionState) (a : authenticator.AuthenticatorState) (x : Act) (d : Done)
    → Serves no_signature public n s a x d → Serves valid public n s a x d
done_by valid public n s a (act.Packet p) d h = h
done_by valid public n s a (act.Decide consent words) d h =
    (h.0, h.1, h.2, h.3, h.4, replied valid public a d.authenticator h.0 h.1 consent words h.2 h.5, h.6, h.7)
done_by valid public n s a act.Wait d h = h
done_by valid public n s a act.Expire d h = h

pub signed_by : (valid : Validity) (public : Keys) (n : ℕ) (s : TransactionState) (a : authenticator.AuthenticatorState) (x : Act) (p : Pending)
    (signature : List ℕ) (d : Done)
    → AsksToSign public s a x p → IsSignature valid (public p.alg p.secret) (message_of p) signature
    → FinishesServing s a p signature d → Serves valid public n s a x d
signed_by valid public n s a (act.Packet packet) p signature d asks is f = absurd asks
signed_by valid public n s a (act.Decide consent words) p signature d asks is f = (
  asks.0,
  asks.1,
  f.0,
  asks.2,
  f.2,
  composed valid public a a d.authenticator asks.0 asks.1 consent words p signature f.0 asks.3 is f.3,
  f.4,
  f.5,
)
signed_by valid public n s a act.Wait p signature d asks is f = absurd asks
signed_by valid public n s a act.Expire p signature d asks is f = absurd asks

pub waits_by : (public : Keys) (s t : TransactionState) (a : authenticator.AuthenticatorState) (x : Act) (p : Pending) → work t ≡ work s
    → AsksToSign public s a x p → AsksToSign public t a x p
waits_by public s t a (act.Packet packet) p same asks = asks
waits_by public s t a (act.Decide consent words) p same asks = (asks.0, asks.1, same ∙ asks.2, asks.3)
waits_by public s t a act.Wait p same asks = asks
waits_by public s t a act.Expire p same asks = asks

pub laws : (valid : Validity) (public : Keys) → ServingLaws valid public
laws valid public = record { done = done_by valid public; signed = signed_by valid public; waits = waits_by public }

-- an act that asks to sign is on a request
pub asks_at_work : (public : Keys) (s : TransactionState) (a : authenticator.AuthenticatorState) (x : Act) (p : Pending)
    → AsksToSign public s a x p → IsWorking s
asks_at_work public s a (act.Packet packet) p asks = absurd asks
asks_at_work public s a (act.Decide consent words) p asks = at_some s asks.0 asks.1 asks.2
  where
    at_some : (s : TransactionState) (c : ℕ) (m : List ℕ) → work s ≡ Some (c, m) → IsWorking s
    at_some (Working cid payload) c m e = tt
    at_some Idle c m e = absurd (cc)
    at_some (Receiving cid cmd len next bytes) c m e = absurd (cc)
asks_at_work public s a act.Wait p asks = absurd asks
asks_at_work public s a act.Expire p asks = absurd asks

-- the two calls, one after the other
pub both : {A E : Type 0} (valid : Validity) (public : Keys) (old mid new : DeviceState) (a b c : authenticator.AuthenticatorState) (x : Act) (p : Pending)
    (signature : List ℕ) (before between after : List Packet) (r : Result A E)
    → BeginsServing public old a x before (served.Signs p) mid b between
    → IsSignature valid (public p.alg p.secret) (message_of p) signature
    → OnOk r ((d : Done) × FinishesServing mid.state b p signature d × IsDone mid between d new c after)
    → OnOk r ((d : Done) × Serves valid public old.channels old.state a x d × (c ≡ d.authenticator) × (after ≡ before ++ packets_of d.sent)
    × ((h : List DeviceCall) → Leaves h old.channels old.state → Leaves (h ++ d.calls) new.channels new.state))
both valid public old mid new a b c x p signature before between after (Ok y) begins is f =
    let d = f.0 in
    let at_old : FinishesServing old.state a p signature d =
    subst (λ (e : DeviceState). FinishesServing e.state a p signature d) begins.1
    (subst (λ (e : authenticator.AuthenticatorState). FinishesServing mid.state e p signature d) begins.2 f.1) in
    let done : IsDone old before d new c after =
    subst (λ (e : DeviceState). IsDone e before d new c after) begins.1 (subst (λ (ps : List Packet). IsDone mid ps d new c after) begins.3 f.2) in
    (d, signed_by valid public old.channels old.state a x p signature d begins.0 is at_old, done.0, done.1, done.2)
both valid public old mid new a b c x p signature before between after (Err e) begins is f = tt

pub at_once : (valid : Validity) (public : Keys) (old new : DeviceState) (a b : authenticator.AuthenticatorState) (x : Act) (event : DeviceEvent)
    (before after : List Packet)
    → BeginsServing public old a x before (served.Done event) new b after
    → (d : Done) × Serves valid public old.channels old.state a x d × (b ≡ d.authenticator) × (after ≡ before ++ packets_of d.sent)
    × ((h : List DeviceCall) → Leaves h old.channels old.state → Leaves (h ++ d.calls) new.channels new.state)
at_once valid public old new a b x event before after begins =
    let f = begins.1 in (f.0, done_by valid public old.channels old.state a x f.0 f.1, f.2.0, f.2.1, f.2.2)
