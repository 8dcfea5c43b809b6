-- What one act is to the PIN, and which request is granted with it.
use Rattle.std.proofs.Common.{◌≡◌, ◌⊎◌, ℕ, List, [], ◌∷◌, ◌++◌, Bool, true, false, ◌&&◌, Option, Some, None, Result, Ok, Err, refl, sym, ap, subst, ◌∙◌, inl, inr}
use Rattle.std.specs.Prelude.{if◌then◌else◌, option_map}
use Rattle.std.proofs.lemmas.Option.{same_Some}
use Rattle.hidframe.specs.declared.Packet.{Packet}
use Rattle.hidlink.specs.Ranks.{DeviceState, Idle, Receiving, TransactionState, Working}
use Rattle.hidlink.specs.declared.transaction.DeviceEvent.{DeviceEvent}
use Rattle.authenticator.specs.Steps.{Keys}
use Rattle.authenticator.specs.declared.consent.Consent.{Consent}
use Rattle.authenticator.specs.declared.consent.Words.{Words}
use Rattle.authenticator.specs.declared.pending.Pending.{Pending}
use Rattle.pin_protocols.specs.Asks.{ask_view, entries}
use Rattle.key_pin.specs.Calls.{Call, handle, begin, leave, verify, spend, end_token, give_up, power_up, reset, nexts}
use Rattle.key_pin.specs.Grants.{granted}
use Rattle.key_pin.specs.Host.{Ending, asks, refused}
use Rattle.key_pin.specs.State.{PinState, new_pin_state, over, powered_up, without_token}
use Rattle.key_pin.specs.declared.words.PinStep.{PinStep}
use Rattle.key_pin.specs.declared.words.PinStep.TheVariants as steps
use Rattle.key_pin.specs.declared.words.PinWords.{PinWords}
use Rattle.security_key.specs.declared.serving.Act.{Act}
use Rattle.security_key.specs.declared.serving.Act.TheVariants as act
use Rattle.key_device.specs.Acts.{BeginsAnew, Goes, GoesOn, IsDecision, PassesOn, ReadsOn, TakesAnswer, TakesDecision, TakesWords, WantsAnswer, WantsWords, given_up}
use Rattle.key_device.specs.Computing.{AfterGrant, AfterStep, Computes, Entries, IsGrantedRequest, IsUndone, claim_of}
use Rattle.key_device.specs.Deciding.{Decides, is_command, reset_on, spent_by}
use Rattle.key_device.specs.Key.{KeyDeviceState}
use Rattle.key_device.specs.Reading.{query_of}
use Rattle.key_device.specs.declared.stage.GrantedRequest.{GrantedRequest}
use Rattle.key_device.specs.declared.stage.PinRequest.{PinRequest}
use Rattle.key_device.specs.declared.stage.PinRequest.TheVariants as requests
use Rattle.key_device.specs.declared.stage.ProtectedAsked.{ProtectedAsked}
use Rattle.key_device.specs.declared.stage.Stage.{Stage}
use Rattle.key_device.specs.declared.stage.Stage.TheVariants as stages
use Rattle.key_device.specs.declared.stage.Told.{Told}
use Rattle.key_device.proofs.Ungranted.{read_ungranted}
use Rattle.key_runs.specs.Runs as runs
use Rattle.key_runs.specs.Runs.{Acts, Answers, EndsToken, Expires, KeyAct, Loads, MayCall, MayCompute, PowersUp, Signs, Takes, Waits}
use Rattle.key_runs.specs.Vouched.{IsUngranted}

-- a token granted this now
pub record GrantsNow (u : PinState) (g : GrantedRequest) : Type 0 where
  pub asked : ProtectedAsked
  pub same : IsGrantedRequest asked g
  pub answers : Entries
  pub grants : granted answers (claim_of asked) u.token ≡ Ok tt

-- by an act that these calls may be, a key whose PIN was u has come to this
pub record Stepped (May : List Call → Type 0) (before : Stage) (u : PinState) (new : KeyDeviceState) : Type 0 where
  pub calls : List Call
  pub may : May calls
  pub pin : new.pin ≡ Some (nexts calls u)
  pub granted : (g : GrantedRequest) → new.stage ≡ stages.Granted g → (before ≡ stages.Granted g) ⊎ GrantsNow u g

-- ---- where nothing is granted

not_granted : (stage : Stage) → stage ≡ stages.Nothing → IsUngranted stage
not_granted stage is g e = let bad : stages.Nothing ≡ stages.Granted g = sym is ∙ e in absurd cc

module _ (May : List Call → Type 0) (before : Stage) (u : PinState) (new : KeyDeviceState) where
  -- nothing changes that matters here
  kept : May [] → new.pin ≡ Some u → new.stage ≡ before → Stepped May before u new
  kept may pin stage = record { calls = []; may = may; pin = pin; granted = λ g e. inl (sym stage ∙ e) }

  ungranted : (calls : List Call) → May calls → new.pin ≡ Some (nexts calls u) → IsUngranted new.stage → Stepped May before u new
  ungranted calls may pin none = record { calls = calls; may = may; pin = pin; granted = λ g e. absurd (none g e) }

  -- a request is read
  was_read : (old : KeyDeviceState) (sent : List Packet) (t : Told) (after : List Packet) → old.pin ≡ Some u → May [] → ReadsOn old sent t new after
      → Stepped May before u new
  was_read old sent t after pin may h =
      ungranted [] may (ap (λ (k : KeyDeviceState). k.pin) h.4 ∙ pin) (λ g e. elim h.3 [
        | inl r ↦ read_ungranted r.0 g (sym r.2 ∙ e)
        | inr later ↦ (let bad : stages.Unread ≡ stages.Granted g = sym later.0 ∙ e in absurd cc)
      ])

-- ---- packets

module _ (May : List Call → Type 0) (before : Stage) (u : PinState) (mid new : KeyDeviceState) (sent : List Packet) (event : DeviceEvent) (t : Told) (after : List Packet)
    (pin : mid.pin ≡ Some u) (stage : mid.stage ≡ before) (none : May []) (given : May (give_up ∷ [])) where
  same : new ≡ mid → Stepped May before u new
  same is = kept May before u new none (ap (λ (k : KeyDeviceState). k.pin) is ∙ pin) (ap (λ (k : KeyDeviceState). k.stage) is ∙ stage)

  rests : new ≡ given_up mid → Stepped May before u new
  rests is =
      ungranted May before u new (give_up ∷ []) given (ap (λ (k : KeyDeviceState). k.pin) is ∙ ap (option_map over) pin)
      (not_granted new.stage (ap (λ (k : KeyDeviceState). k.stage) is))

  goes : (s d : TransactionState) → Goes s d mid sent event t new after → Stepped May before u new
  goes (Working c bs) (Working e cs) h = same h.2
  goes Idle (Working e cs) h = was_read May before u new mid sent t after pin none h
  goes (Receiving c k l n bs) (Working e cs) h = was_read May before u new mid sent t after pin none h
  goes Idle Idle h = rests h.1
  goes Idle (Receiving e m l n cs) h = rests h.1
  goes (Receiving c k l n bs) Idle h = rests h.1
  goes (Receiving c k l n bs) (Receiving e m j o cs) h = rests h.1
  goes (Working c bs) Idle h = rests h.1
  goes (Working c bs) (Receiving e m l n cs) h = rests h.1

-- ---- words and answers

after_step : (r : PinRequest) (words : PinWords) (es : Entries) (old : DeviceState) (sent : List Packet) (step : PinStep) (stage : Stage) (t : Told) (new : DeviceState)
    (after : List Packet) → AfterStep r words es old sent step stage t new after → IsUngranted stage
after_step r words es old sent (steps.Asks a) (stages.Answer q c) t new after h g e = absurd cc
after_step r words es old sent (steps.Asks a) stages.Nothing t new after h g e = absurd cc
after_step r words es old sent (steps.Asks a) stages.Unread t new after h g e = absurd cc
after_step r words es old sent (steps.Asks a) (stages.Words q) t new after h g e = absurd cc
after_step r words es old sent (steps.Asks a) stages.User t new after h g e = absurd cc
after_step r words es old sent (steps.Asks a) stages.Touch t new after h g e = absurd cc
after_step r words es old sent (steps.Asks a) (stages.Granted x) t new after h g e = absurd h.0
after_step r words es old sent (steps.Replies reply) stage t new after h g e = not_granted stage h.0 g e

after_grant : (a : ProtectedAsked) (words : PinWords) (es : Entries) (old : DeviceState) (cid : ℕ) (sent : List Packet) (u : PinState) (r : Result (Unit {0}) Ending)
    (stage : Stage) (t : Told) (new : DeviceState) (after : List Packet) → granted es (claim_of a) u.token ≡ r → AfterGrant a words es old cid sent r stage t new after
    → (g : GrantedRequest) → stage ≡ stages.Granted g → GrantsNow u g
after_grant a words es old cid sent u (Ok x) (stages.Granted f) t new after is h g e =
    let one : f ≡ g = cc in
    record { asked = a; same = subst (λ (z : GrantedRequest). IsGrantedRequest a z) one h.0; answers = es; grants = is }
after_grant a words es old cid sent u (Ok x) stages.Nothing t new after is h g e = absurd h.0
after_grant a words es old cid sent u (Ok x) stages.Unread t new after is h g e = absurd h.0
after_grant a words es old cid sent u (Ok x) (stages.Words q) t new after is h g e = absurd h.0
after_grant a words es old cid sent u (Ok x) (stages.Answer q c) t new after is h g e = absurd h.0
after_grant a words es old cid sent u (Ok x) stages.User t new after is h g e = absurd h.0
after_grant a words es old cid sent u (Ok x) stages.Touch t new after is h g e = absurd h.0
after_grant a words es old cid sent u (Err (asks b)) (stages.Granted f) t new after is h g e = absurd h.0
after_grant a words es old cid sent u (Err (asks b)) stages.Nothing t new after is h g e = absurd h.0
after_grant a words es old cid sent u (Err (asks b)) stages.Unread t new after is h g e = absurd h.0
after_grant a words es old cid sent u (Err (asks b)) (stages.Words q) t new after is h g e = absurd h.0
after_grant a words es old cid sent u (Err (asks b)) (stages.Answer q c) t new after is h g e = absurd cc
after_grant a words es old cid sent u (Err (asks b)) stages.User t new after is h g e = absurd h.0
after_grant a words es old cid sent u (Err (asks b)) stages.Touch t new after is h g e = absurd h.0
after_grant a words es old cid sent u (Err (refused s)) stage t new after is h g e = absurd (not_granted stage h.0 g e)

module _ (before : Stage) (u : PinState) (old new : KeyDeviceState) (words : PinWords) (es : Entries) (pin : old.pin ≡ Some u) where
  -- the device computes, in a state of the PIN that is this one
  computed : (r : PinRequest) (s v : PinState) (cid : ℕ) (sent : List Packet) (t : Told) (after : List Packet) → s ≡ u → new.pin ≡ Some v
      → Computes s words es old.device cid sent r new.stage t v new.device after → Stepped (MayCompute r words es) before u new
  computed (requests.Command c) s v cid sent t after is now (inl h) =
      ungranted (MayCompute (requests.Command c) words es) before u new (handle es words (query_of c) ∷ []) (inl refl)
      (now ∙ ap (λ (z : PinState). Some z) h.0 ∙ ap (λ (z : PinState). Some (nexts (handle es words (query_of c) ∷ []) z)) is)
      (after_step (requests.Command c) words es old.device sent h.1.0 new.stage t new.device after h.1.2)
  computed (requests.Command c) s v cid sent t after is now (inr h) = absurd h
  computed (requests.Protected a) s v cid sent t after is now (inl h) = absurd h
  computed (requests.Protected a) s v cid sent t after is now (inr h) = record {
    calls = verify es (claim_of a) ∷ [];
    may = inl refl;
    pin = now ∙ ap (λ (z : PinState). Some z) h.0 ∙ ap (λ (z : PinState). Some (nexts (verify es (claim_of a) ∷ []) z)) is;
    granted = λ g e. inr (after_grant a words es old.device cid sent u (granted es (claim_of a) s.token) new.stage t new.device after
        (ap (λ (z : PinState). granted es (claim_of a) z.token) (sym is)) h.1 g e);
  }

  goes_on : (r : PinRequest) (sent : List Packet) (t : Told) (after : List Packet) → GoesOn old r words es sent t new after → Stepped (MayCompute r words es) before u new
  goes_on r sent t after h =
      computed r h.2 h.3 h.0 sent t after (same_Some h.2 u (sym h.5 ∙ pin)) (ap (λ (k : KeyDeviceState). k.pin) h.7) h.6

  undone : (r : PinRequest) (s v : PinState) → s ≡ u → new.pin ≡ Some v → new.stage ≡ stages.Words r → IsUndone s words es r v → Stepped (MayCompute r words es) before u new
  undone (requests.Command c) s v is now stage (inl h) =
      ungranted (MayCompute (requests.Command c) words es) before u new (begin words ∷ []) (inr (inl refl))
      (now ∙ ap (λ (z : PinState). Some z) h ∙ ap (λ (z : PinState). Some (nexts (begin words ∷ []) z)) is)
      (λ g e. let bad : stages.Words (requests.Command c) ≡ stages.Granted g = sym stage ∙ e in absurd cc)
  undone (requests.Command c) s v is now stage (inr h) =
      ungranted (MayCompute (requests.Command c) words es) before u new (leave es words (query_of c) ∷ []) (inr (inr (inl refl)))
      (now ∙ ap (λ (z : PinState). Some z) h ∙ ap (λ (z : PinState). Some (nexts (leave es words (query_of c) ∷ []) z)) is)
      (λ g e. let bad : stages.Words (requests.Command c) ≡ stages.Granted g = sym stage ∙ e in absurd cc)
  undone (requests.Protected a) s v is now stage h =
      ungranted (MayCompute (requests.Protected a) words es) before u new [] (inr refl) (now ∙ ap (λ (z : PinState). Some z) (h ∙ is))
      (λ g e. let bad : stages.Words (requests.Protected a) ≡ stages.Granted g = sym stage ∙ e in absurd cc)

  anew : (r : PinRequest) → BeginsAnew old r words es new → Stepped (MayCompute r words es) before u new
  anew r h =
      undone r h.0 h.1 (same_Some h.0 u (sym h.2 ∙ pin)) (ap (λ (k : KeyDeviceState). k.pin) h.4) (ap (λ (k : KeyDeviceState). k.stage) h.4) h.3

-- no call, whatever the request
none_called : (r : PinRequest) (words : PinWords) (es : Entries) → MayCompute r words es []
none_called (requests.Command c) words es = inr (inr (inr refl))
none_called (requests.Protected a) words es = inr refl

module _ (u : PinState) (old new : KeyDeviceState) (pin : old.pin ≡ Some u) where
  unchanged : (May : List Call → Type 0) (st : Stage) → May [] → old.stage ≡ st → new ≡ old → Stepped May st u new
  unchanged May st none at is =
      kept May st u new none (ap (λ (k : KeyDeviceState). k.pin) is ∙ pin) (ap (λ (k : KeyDeviceState). k.stage) is ∙ at)

  takes_words : (words : PinWords) (st : Stage) (sent : List Packet) (t : Told) (after : List Packet) → TakesWords st old words sent t new after
      → Stepped (MayCall (runs.Computes words) st) st u new
  takes_words words (stages.Words r) sent t after h = goes_on (stages.Words r) u old new words [] pin r sent t after h
  takes_words words stages.Unread sent t after h = was_read (MayCall (runs.Computes words) stages.Unread) stages.Unread u new old sent t after pin refl h
  takes_words words stages.Nothing sent t after h = absurd h
  takes_words words (stages.Answer r c) sent t after h = absurd h
  takes_words words stages.User sent t after h = absurd h
  takes_words words stages.Touch sent t after h = absurd h
  takes_words words (stages.Granted g) sent t after h = absurd h

  wants_words : (words : PinWords) (st : Stage) → old.stage ≡ st → WantsWords st old words new → Stepped (MayCall (runs.Computes words) st) st u new
  wants_words words (stages.Words r) at (inl is) = unchanged (MayCall (runs.Computes words) (stages.Words r)) (stages.Words r) (none_called r words []) at is
  wants_words words (stages.Words r) at (inr h) = anew (stages.Words r) u old new words [] pin r h
  wants_words words stages.Unread at is = unchanged (MayCall (runs.Computes words) stages.Unread) stages.Unread refl at is
  wants_words words stages.Nothing at is = unchanged (MayCall (runs.Computes words) stages.Nothing) stages.Nothing refl at is
  wants_words words (stages.Answer r c) at is = unchanged (MayCall (runs.Computes words) (stages.Answer r c)) (stages.Answer r c) refl at is
  wants_words words stages.User at is = unchanged (MayCall (runs.Computes words) stages.User) stages.User refl at is
  wants_words words stages.Touch at is = unchanged (MayCall (runs.Computes words) stages.Touch) stages.Touch refl at is
  wants_words words (stages.Granted g) at is = unchanged (MayCall (runs.Computes words) (stages.Granted g)) (stages.Granted g) refl at is

  takes_answer : (answer : List ℕ) (st : Stage) (sent : List Packet) (t : Told) (after : List Packet) → TakesAnswer st old answer sent t new after
      → Stepped (MayCall (Answers answer) st) st u new
  takes_answer answer (stages.Answer r c) sent t after h =
      goes_on (stages.Answer r c) u old new c.words (entries c.answers ++ (ask_view c.ask, answer) ∷ []) pin r sent t after h
  takes_answer answer stages.Unread sent t after h = absurd h
  takes_answer answer stages.Nothing sent t after h = absurd h
  takes_answer answer (stages.Words r) sent t after h = absurd h
  takes_answer answer stages.User sent t after h = absurd h
  takes_answer answer stages.Touch sent t after h = absurd h
  takes_answer answer (stages.Granted g) sent t after h = absurd h

  wants_answer : (answer : List ℕ) (st : Stage) → old.stage ≡ st → WantsAnswer st old answer new → Stepped (MayCall (Answers answer) st) st u new
  wants_answer answer (stages.Answer r c) at (inl is) =
      unchanged (MayCall (Answers answer) (stages.Answer r c)) (stages.Answer r c) (none_called r c.words (entries c.answers ++ (ask_view c.ask, answer) ∷ [])) at is
  wants_answer answer (stages.Answer r c) at (inr (inl is)) =
      ungranted (MayCall (Answers answer) (stages.Answer r c)) (stages.Answer r c) u new [] (none_called r c.words (entries c.answers ++ (ask_view c.ask, answer) ∷ []))
      (ap (λ (k : KeyDeviceState). k.pin) is ∙ pin)
      (λ g e. let bad : stages.Words r ≡ stages.Granted g = sym (ap (λ (k : KeyDeviceState). k.stage) is) ∙ e in absurd cc)
  wants_answer answer (stages.Answer r c) at (inr (inr h)) =
      anew (stages.Answer r c) u old new c.words (entries c.answers ++ (ask_view c.ask, answer) ∷ []) pin r h
  wants_answer answer stages.Unread at is = unchanged (MayCall (Answers answer) stages.Unread) stages.Unread refl at is
  wants_answer answer stages.Nothing at is = unchanged (MayCall (Answers answer) stages.Nothing) stages.Nothing refl at is
  wants_answer answer (stages.Words r) at is = unchanged (MayCall (Answers answer) (stages.Words r)) (stages.Words r) refl at is
  wants_answer answer stages.User at is = unchanged (MayCall (Answers answer) stages.User) stages.User refl at is
  wants_answer answer stages.Touch at is = unchanged (MayCall (Answers answer) stages.Touch) stages.Touch refl at is
  wants_answer answer (stages.Granted g) at is = unchanged (MayCall (Answers answer) (stages.Granted g)) (stages.Granted g) refl at is

  -- ---- decisions

  reset_calls : (b : Bool) → (calls : List Call) × ((calls ≡ reset ∷ []) ⊎ (calls ≡ []))
      × ((if b then Some new_pin_state else Some u) ≡ Some (nexts calls u))
  reset_calls true = (reset ∷ [], inl refl, refl)
  reset_calls false = ([], inr refl, refl)

  spent_calls : (b : Bool) → (calls : List Call) × ((calls ≡ spend ∷ []) ⊎ (calls ≡ [])) × (spent_by b (Some u) ≡ Some (nexts calls u))
  spent_calls true = (spend ∷ [], inl refl, refl)
  spent_calls false = ([], inr refl, refl)

  decided_user : (public : Keys) (consent : Consent) (words : Words) (sent : List Packet) (t : Told) (after : List Packet) (o : Option Pending)
      → Decides public old.device old.authenticator old.pin stages.User consent words sent o new.device new.authenticator new.pin after
      → IsDecision o t stages.User new.stage new.pending → Stepped (MayCall (runs.Decides consent words) stages.User) stages.User u new
  decided_user public consent words sent t after None d is =
      let b = is_command 7 d.request && is_command 0 d.reply in
      let c = reset_calls b in
      ungranted (MayCall (runs.Decides consent words) stages.User) stages.User u new c.0 c.1
      (d.leaves ∙ ap (λ (p : Option PinState). reset_on (is_command 7 d.request) d.reply p) pin ∙ c.2) (not_granted new.stage is.1)
  decided_user public consent words sent t after (Some p) d is =
      kept (MayCall (runs.Decides consent words) stages.User) stages.User u new (inr refl) (d.3 ∙ pin) is.1

  decided_granted : (g : GrantedRequest) (public : Keys) (consent : Consent) (words : Words) (sent : List Packet) (t : Told) (after : List Packet) (o : Option Pending)
      → Decides public old.device old.authenticator old.pin (stages.Granted g) consent words sent o new.device new.authenticator new.pin after
      → IsDecision o t (stages.Granted g) new.stage new.pending → Stepped (MayCall (runs.Decides consent words) (stages.Granted g)) (stages.Granted g) u new
  decided_granted g public consent words sent t after None d is =
      let c = spent_calls (consent.present && g.presence) in
      ungranted (MayCall (runs.Decides consent words) (stages.Granted g)) (stages.Granted g) u new c.0 c.1
      (d.leaves ∙ ap (λ (p : Option PinState). spent_by (consent.present && g.presence) p) pin ∙ c.2) (not_granted new.stage is.1)
  decided_granted g public consent words sent t after (Some p) d is =
      let c = spent_calls (consent.present && g.presence) in
      record {
        calls = c.0;
        may = c.1;
        pin = d.3 ∙ ap (λ (q : Option PinState). spent_by (consent.present && g.presence) q) pin ∙ c.2;
        granted = λ f e. inl (sym is.1 ∙ e);
      }

  decides : (public : Keys) (consent : Consent) (words : Words) (st : Stage) → old.stage ≡ st → (sent : List Packet) (t : Told) (after : List Packet)
      → TakesDecision public st old consent words sent t new after → Stepped (MayCall (runs.Decides consent words) st) st u new
  decides public consent words stages.User at sent t after h =
      decided_user public consent words sent t after h.0
      (subst (λ (s : Stage). Decides public old.device old.authenticator old.pin s consent words sent h.0 new.device new.authenticator new.pin after) at h.1)
      (subst (λ (s : Stage). IsDecision h.0 t s new.stage new.pending) at h.2)
  decides public consent words (stages.Granted g) at sent t after h =
      decided_granted g public consent words sent t after h.0
      (subst (λ (s : Stage). Decides public old.device old.authenticator old.pin s consent words sent h.0 new.device new.authenticator new.pin after) at h.1)
      (subst (λ (s : Stage). IsDecision h.0 t s new.stage new.pending) at h.2)
  decides public consent words stages.Touch at sent t after h =
      ungranted (MayCall (runs.Decides consent words) stages.Touch) stages.Touch u new [] refl (ap (λ (k : KeyDeviceState). k.pin) h.2 ∙ pin)
      (not_granted new.stage (ap (λ (k : KeyDeviceState). k.stage) h.2))
  decides public consent words stages.Unread at sent t after h =
      was_read (MayCall (runs.Decides consent words) stages.Unread) stages.Unread u new old sent t after pin refl h
  decides public consent words stages.Nothing at sent t after h = absurd h
  decides public consent words (stages.Words r) at sent t after h = absurd h
  decides public consent words (stages.Answer r c) at sent t after h = absurd h

  -- ---- each

  passes_on : (May : List Call → Type 0) (a : Act) (sent : List Packet) (t : Told) (after : List Packet) → May [] → PassesOn old a sent t new after
      → Stepped May old.stage u new
  passes_on May a sent t after none h =
      kept May old.stage u new none (ap (λ (k : KeyDeviceState). k.pin) h.3 ∙ pin) (ap (λ (k : KeyDeviceState). k.stage) h.3)

  pub acts : (a : KeyAct) → Acts old a new → Stepped (MayCall a old.stage) old.stage u new
  acts Waits h = passes_on (MayCall Waits old.stage) act.Wait h.0 h.1 h.2 refl h.3
  acts Expires h = passes_on (MayCall Expires old.stage) act.Expire h.0 h.1 h.2 refl h.3
  acts (Takes p) h =
      let x = h.3 in
      goes (MayCall (Takes p) old.stage) old.stage u (record old { device = x.1 }) new x.2 x.0 h.1 h.2 pin refl (inr refl) (inl refl) old.device.state x.1.state x.4
  acts (runs.Computes words) (inl h) = takes_words words old.stage h.0 h.1 h.2 h.3
  acts (runs.Computes words) (inr h) = wants_words words old.stage refl h
  acts (Answers answer) (inl h) = takes_answer answer old.stage h.0 h.1 h.2 h.3
  acts (Answers answer) (inr h) = wants_answer answer old.stage refl h
  acts (runs.Decides consent words) h = decides h.0 consent words old.stage refl h.1 h.2 h.3 h.4
  acts (Signs signature) (inl h) =
      ungranted (MayCall (Signs signature) old.stage) old.stage u new [] refl (ap (λ (k : KeyDeviceState). k.pin) h.2.leaves ∙ pin)
      (not_granted new.stage (ap (λ (k : KeyDeviceState). k.stage) h.2.leaves))
  acts (Signs signature) (inr is) =
      kept (MayCall (Signs signature) old.stage) old.stage u new refl (ap (λ (k : KeyDeviceState). k.pin) is ∙ pin) (ap (λ (k : KeyDeviceState). k.stage) is)
  acts PowersUp is =
      ungranted (MayCall PowersUp old.stage) old.stage u new (power_up ∷ []) refl (ap (λ (k : KeyDeviceState). k.pin) is ∙ ap (option_map powered_up) pin)
      (not_granted new.stage (ap (λ (k : KeyDeviceState). k.stage) is))
  acts EndsToken is = record {
    calls = end_token ∷ [];
    may = refl;
    pin = ap (λ (k : KeyDeviceState). k.pin) is ∙ ap (option_map without_token) pin;
    granted = λ g e. inl (sym (ap (λ (k : KeyDeviceState). k.stage) is) ∙ e);
  }
  acts (Loads bytes) h =
      kept (MayCall (Loads bytes) old.stage) old.stage u new refl (ap (λ (k : KeyDeviceState). k.pin) h.1 ∙ pin) (ap (λ (k : KeyDeviceState). k.stage) h.1)
