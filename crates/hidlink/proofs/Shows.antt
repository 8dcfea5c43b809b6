-- What a collector shows is so of the packets.
use Rattle.std.proofs.Common.{◌≡◌, ℕ, ◌-◌, ◌^◌, ◌<◌, ◌≤◌, ◌⊎◌, inl, inr, true, false, cond, List, [], ◌∷◌, ◌++◌, length, take, refl, sym, ◌∙◌, ap}
use Rattle.std.proofs.Common.{subst, arith, slice_index}
use Rattle.std.specs.Prelude.{◌==◌}
use Rattle.std.proofs.lemmas.List.{append_assoc, append-nil, same_from_push}
use Rattle.std.proofs.lemmas.Bool.{eq-eqb, ne_eqb, eqb-true, eqb-false, le-leb, lt-leb, cond_both}
use Rattle.std.proofs.lemmas.Bool.Decides.{nat_tests, eqb_tells, leb_tells}
use Rattle.hidframe.specs.declared.Packet.{Packet}
use Rattle.hidframe.specs.Packets.{Fields, Initial, Continuation, fields}
use Rattle.hidframe.specs.Frames.{continuation_count}
use Rattle.hidlink.specs.declared.collection.DeadKind.{DeadKind}
use Rattle.hidlink.specs.declared.collection.DeadKind.TheVariants.{WrongCommand, BadLength, BadKeepalive, StrayContinuation, WrongSequence, Interrupted}
use Rattle.hidlink.specs.Wire.{channel_of, on, IsKeepalive, AreKeepalives, IsWrongCommand, IsBadLength, IsBadKeepalive, Carries, IsBeginning, IsDead}
use Rattle.hidlink.specs.Wire.{OpenMessage, IsOpen, PacketFault, Dies, Shown, Waiting, Receiving, Replied, Failed, Died, Holds, HasEnded}
use Rattle.hidlink.specs.Steps.{on_channel, step, state, IsEnded}
use Rattle.hidlink.proofs.Runs.{begun_of, open_as, on-push, on-other, keepalive_stays, run-keepalives, received-missing, run_begun, state-push}
use Rattle.hidlink.proofs.Runs.{state-ended, state-carries, ending, pending_before}
use Rattle.hidlink.proofs.Beginnings.{begins_itself, begins_later, dead_itself}
use Rattle.hidframe.proofs.Uniqueness.{AreaFits, fields_fit}
use Rattle.hidlink.proofs.SoFar.{ArePackets, packets_left, completes, completes_waiting, first_packet, begins_with, goes_on, holds-received}
use Rattle.hidlink.proofs.SoFar.{packets_right, carries}

-- an open message is the state
pub state-open : {c len next : ℕ} {ps : List Packet} {bytes : List ℕ} → OpenMessage c ps len next bytes → state c ps ≡ Receiving len next bytes
state-open {len} {next} {bytes} o =
    let missing : next < continuation_count len = o.missing in
    run_begun (begun_of o) o.room (omega arith) ∙ received-missing len next bytes missing

-- a message isn't a death
pub ending_ended : (cmd : ℕ) (m : List ℕ) → IsEnded (ending cmd m)
ending_ended cmd m = elim (cmd == 16) as (λ b. IsEnded (cond b (Replied m) (Failed (slice_index m 0)))) [ true ↦ tt | false ↦ tt ]

ending_alive : (cmd : ℕ) (m : List ℕ) (kind : DeadKind) → ending cmd m ≡ Died kind → ⊥
ending_alive cmd m kind = elim (cmd == 16) as (λ b. cond b (Replied m) (Failed (slice_index m 0)) ≡ Died kind → ⊥) [ true ↦ λ e. cc | false ↦ λ e. cc ]

-- where a message is carried, the state is its end from then on
pub state-carried : (c : ℕ) (qs ps : List Packet) (cmd : ℕ) (m : List ℕ) → IsBeginning qs ps → Carries c qs cmd m → state c ps ≡ ending cmd m
state-carried c qs ps cmd m b h = state-ended c qs ps b (rw (state-carries c qs cmd m h) (ending_ended cmd m)) ∙ state-carries c qs cmd m h

-- after a fault nothing is carried
pub dead_from_state : (c : ℕ) (ps : List Packet) (kind : DeadKind) → state c ps ≡ Died kind → IsDead c ps
dead_from_state c ps kind e qs cmd m (inl b) h = ending_alive cmd m kind (sym (state-carried c qs ps cmd m b h) ∙ e)
dead_from_state c ps kind e qs cmd m (inr b) h = ending_alive cmd m kind (sym (state-carries c qs cmd m h) ∙ state-ended c ps qs b (rw e tt) ∙ e)

-- nothing is dead that can be completed
pub alive : (c : ℕ) (ps : List Packet) (s : Shown) → c < 2 ^ 32 → ArePackets ps → Holds c ps s → (IsEnded s → ⊥) → IsDead c ps → ⊥
alive c ps Waiting low all waits n dead = dead (ps ++ first_packet c ∷ []) 16 [] (inr (first_packet c ∷ [], refl)) (completes_waiting c ps low waits)
alive c ps (Receiving len next bytes) low all o n dead =
    let missing : next < continuation_count len = o.missing in
    let done : (more : List Packet) × (m : List ℕ) × Carries c (ps ++ more) 16 m =
    completes c ps len next bytes (continuation_count len - next - 1) low all (begun_of o) o.room (omega arith) in
    dead (ps ++ done.0) 16 done.1 (inr (done.0, refl)) done.2
alive c ps _ low all h n dead = n tt

not_open : (c : ℕ) (ps : List Packet) → AreKeepalives (on c ps) → IsOpen c ps → ⊥
not_open c ps waits o = let e : Waiting ≡ Receiving o.0 o.1 o.2 = sym (run-keepalives (on c ps) waits) ∙ state-open o.3 in cc

-- a beginning is one of more
pub more_begins : (qs ps : List Packet) (p : Packet) → IsBeginning qs ps → IsBeginning qs (ps ++ p ∷ [])
more_begins qs ps p b = begins_later qs ps (ps ++ p ∷ []) b (p ∷ [], refl)

-- after an end nothing changes
pub holds-later : (c : ℕ) (ps : List Packet) (p : Packet) (s : Shown) → IsEnded s → Holds c ps s → Holds c (ps ++ p ∷ []) s
holds-later c ps p Waiting e h = absurd e
holds-later c ps p (Receiving len next bytes) e h = absurd e
holds-later c ps p (Replied m) e h = (h.0, more_begins h.0 ps p h.1, h.2)
holds-later c ps p (Failed code) e h = (h.0, more_begins h.0 ps p h.1, h.2)
holds-later c ps p (Died kind) e h = (h.0, more_begins h.0 ps p h.1, h.2)

-- a packet on another channel changes nothing
holds-other : (c : ℕ) (ps : List Packet) (p : Packet) (s : Shown) → (channel_of (fields p) ≡ c → ⊥) → Holds c ps s → Holds c (ps ++ p ∷ []) s
holds-other c ps p Waiting n h = rw (on-other c ps p n) h
holds-other c ps p (Receiving len next bytes) n h = open_as (rw (on-other c ps p n) (begun_of h)) h.room h.missing
holds-other c ps p (Replied m) n h = holds-later c ps p (Replied m) tt h
holds-other c ps p (Failed code) n h = holds-later c ps p (Failed code) tt h
holds-other c ps p (Died kind) n h = holds-later c ps p (Died kind) tt h

-- a collector shows the state: where it isn't at the end, and where it carries
state-shown : (c : ℕ) (ps : List Packet) (s : Shown) → Holds c ps s → (IsEnded s → ⊥) → state c ps ≡ s
state-shown c ps Waiting h n = run-keepalives (on c ps) h
state-shown c ps (Receiving len next bytes) h n = state-open h
state-shown c ps _ h n = absurd (n tt)

-- a fault
-- which fault a packet outside a message is
waiting_fault : (kind : DeadKind) (c : ℕ) (ps : List Packet) (f : Fields) → (IsOpen c ps → ⊥) → PacketFault c ps f kind → on_channel Waiting f ≡ Died kind
unfolding on_channel
waiting_fault WrongCommand c ps (Initial cid cmd len area) shut h =
    rw (ne_eqb cmd 16 h.1.0, ne_eqb cmd 63 h.1.1, ne_eqb cmd 59 h.1.2) refl
waiting_fault WrongCommand c ps (Continuation cid seq area) shut h = absurd h.1
waiting_fault BadLength c ps (Initial cid cmd len area) shut h = elim h.1 [
  | inl e ↦ rw (e.0, lt-leb len 7609 e.1) refl
  | inr e ↦ elim e.0 [ inl k ↦ rw (k, ne_eqb len 1 e.1) refl | inr k ↦ rw (k, ne_eqb len 1 e.1) refl ]
]
waiting_fault BadLength c ps (Continuation cid seq area) shut h = absurd h.1
waiting_fault BadKeepalive c ps (Initial cid cmd len area) shut h =
    rw (h.1.0, h.1.1, ne_eqb (slice_index area 0) 1 h.1.2, ne_eqb (slice_index area 0) 2 h.1.3) refl
waiting_fault BadKeepalive c ps (Continuation cid seq area) shut h = absurd h.1
waiting_fault StrayContinuation c ps (Initial cid cmd len area) shut h = absurd h.1
waiting_fault StrayContinuation c ps (Continuation cid seq area) shut h = refl
waiting_fault WrongSequence c ps f shut h = absurd (shut (h.0, h.1, h.2, h.3))
waiting_fault Interrupted c ps f shut h = absurd (shut h.0)

open_fault : (kind : DeadKind) (c : ℕ) (ps : List Packet) (f : Fields) (len next : ℕ) (bytes : List ℕ) → OpenMessage c ps len next bytes
    → PacketFault c ps f kind → on_channel (Receiving len next bytes) f ≡ Died kind
unfolding on_channel
open_fault WrongCommand c ps f len next bytes o h = absurd (h.0 (len, next, bytes, o))
open_fault BadLength c ps f len next bytes o h = absurd (h.0 (len, next, bytes, o))
open_fault BadKeepalive c ps f len next bytes o h = absurd (h.0 (len, next, bytes, o))
open_fault StrayContinuation c ps f len next bytes o h = absurd (h.0 (len, next, bytes, o))
open_fault WrongSequence c ps (Initial cid cmd more area) len next bytes o h = absurd h.4
open_fault WrongSequence c ps (Continuation cid seq area) len next bytes o h =
    let e : Receiving h.0 h.1 h.2 ≡ Receiving len next bytes = sym (state-open h.3) ∙ state-open o in
    let same : h.1 ≡ next = cc in
    rw (ne_eqb seq next (λ k. h.4 (k ∙ sym same))) refl
open_fault Interrupted c ps (Initial cid cmd more area) len next bytes o h = refl
open_fault Interrupted c ps (Continuation cid seq area) len next bytes o h = absurd h.1

dies : (c : ℕ) (ps : List Packet) (p : Packet) (s : Shown) (f : Fields) (kind : DeadKind) → c < 2 ^ 32 → ArePackets (ps ++ p ∷ []) → Holds c ps s
    → (IsEnded s → ⊥) → fields p ≡ f → channel_of f ≡ c
    → on_channel s f ≡ Died kind → PacketFault c ps f kind → Holds c (ps ++ p ∷ []) (on_channel s f)
dies c ps p s f kind low all h n says on_c e fault =
    let after : state c (ps ++ p ∷ []) ≡ Died kind = state-push c ps p ∙ rw (says, eq-eqb (channel_of f) c on_c, state-shown c ps s h n) e in
    let death : Dies c (ps ++ p ∷ []) kind =
    record {
      before = ps;
      last = p;
      ends = refl;
      dead = dead_from_state c (ps ++ p ∷ []) kind after;
      shortest = alive c ps s low (packets_left ps (p ∷ []) all) h n;
      fault = rw says fault;
    } in
    rw e (ps ++ p ∷ [], begins_itself (ps ++ p ∷ []), death)

all-push : (ps : List Packet) (p : Packet) → AreKeepalives ps → IsKeepalive (fields p) → AreKeepalives (ps ++ p ∷ [])
all-push [] p h k = (k, tt)
all-push (q ∷ ps) p h k = (h.0, all-push ps p h.1 k)

-- what an initial packet outside a message is
opening : (cid cmd len : ℕ) (area : List ℕ) → let f = Initial cid cmd len area in
    ((cmd ≡ 16) × (len ≤ 7609)) ⊎ (((cmd ≡ 63) × (len ≡ 1)) ⊎ (IsKeepalive f ⊎ (IsWrongCommand f ⊎ (IsBadLength f ⊎ IsBadKeepalive f))))
opening cid cmd len area = grind (
  arith,
  nat_tests,
  eqb_tells cmd 16,
  eqb_tells cmd 63,
  eqb_tells cmd 59,
  eqb_tells len 1,
  leb_tells len 7609,
  eqb_tells (slice_index area 0) 1,
  eqb_tells (slice_index area 0) 2,
)

-- a packet on the channel
holds-waiting : (c : ℕ) (ps : List Packet) (p : Packet) (f : Fields) → c < 2 ^ 32 → ArePackets (ps ++ p ∷ []) → AreKeepalives (on c ps) → fields p ≡ f
    → channel_of f ≡ c → Holds c (ps ++ p ∷ []) (on_channel Waiting f)
unfolding on_channel
holds-waiting c ps p (Continuation cid seq area) low all waits says here =
    dies c ps p Waiting (Continuation cid seq area) StrayContinuation low all waits (λ e. e) says here refl (not_open c ps waits, tt)
holds-waiting c ps p (Initial cid cmd len area) low all waits says here =
    let bad = λ (kind : DeadKind) (fault : PacketFault c ps (Initial cid cmd len area) kind).
    dies c ps p Waiting (Initial cid cmd len area) kind low all waits (λ e. e) says here
    (waiting_fault kind c ps (Initial cid cmd len area) (not_open c ps waits) fault) fault in
    let shut : IsOpen c ps → ⊥ = not_open c ps waits in
    let says' : fields p ≡ Initial c cmd len area = says ∙ ap (λ k. Initial k cmd len area) here in
    let on_c : channel_of (fields p) ≡ c = ap channel_of says' in
    elim (opening cid cmd len area) [
      | inl cbor ↦ rw (cbor.0, le-leb len 7609 cbor.1)
          (holds-received ps p all (begins_with c ps p 16 len area waits (says' ∙ ap (λ k. Initial c k len area) cbor.0)) cbor.1 on_c (omega arith))
      | inr (inl error) ↦ rw (error.0, error.1) (
        ps ++ p ∷ [],
        begins_itself (ps ++ p ∷ []),
        fails c ps p area all waits (says' ∙ ap (λ k. Initial c k len area) error.0 ∙ ap (λ k. Initial c 63 k area) error.1),
      )
      | inr (inr (inl keepalive)) ↦ rw (keepalive_stays (Initial cid cmd len area) keepalive, on-push c ps p on_c)
          (all-push (on c ps) p waits (rw says keepalive))
      | inr (inr (inr (inl wrong))) ↦ bad WrongCommand (shut, wrong)
      | inr (inr (inr (inr (inl long)))) ↦ bad BadLength (shut, long)
      | inr (inr (inr (inr (inr status)))) ↦ bad BadKeepalive (shut, status)
    ]
  where
    -- an error of one byte carries that byte
    fails : (c : ℕ) (ps : List Packet) (p : Packet) (area : List ℕ) → ArePackets (ps ++ p ∷ []) → AreKeepalives (on c ps) → fields p ≡ Initial c 63 1 area
        → Carries c (ps ++ p ∷ []) 63 (slice_index area 0 ∷ [])
    fails c ps p area all waits says =
        let long : length area ≡ 57 = subst AreaFits says (fields_fit p (packets_right ps (p ∷ []) all).0) in
        subst (λ m. Carries c (ps ++ p ∷ []) 63 m) (front area long)
        (carries ps p (begins_with c ps p 63 1 area waits says) (ap channel_of says) (omega arith) (omega arith) (inr (refl, refl)))
      where
        front : (area : List ℕ) → length area ≡ 57 → take 1 area ≡ slice_index area 0 ∷ []
        front [] h = absurd (omega arith)
        front (x ∷ xs) h = refl

holds-here : (c : ℕ) (ps : List Packet) (p : Packet) (s : Shown) (f : Fields) → c < 2 ^ 32 → ArePackets (ps ++ p ∷ []) → fields p ≡ f → channel_of f ≡ c
    → Holds c ps s → Holds c (ps ++ p ∷ []) (on_channel s f)
unfolding on_channel
holds-here c ps p Waiting f low all says here h = holds-waiting c ps p f low all h says here
holds-here c ps p (Receiving len next bytes) (Initial cid cmd more area) low all says here h =
    dies c ps p (Receiving len next bytes) (Initial cid cmd more area) Interrupted low all h (λ e. e) says here refl ((len, next, bytes, h), tt)
holds-here c ps p (Receiving len next bytes) (Continuation cid seq area) low all says here h = elim (eqb_tells seq next) [
  | inl same ↦ let missing : next < continuation_count len = h.missing in
      rw same.0 (holds-received ps p all
      (goes_on ps p area (begun_of h) (says ∙ ap (λ k. Continuation k seq area) here ∙ ap (λ k. Continuation c k area) same.1)) h.room (ap channel_of says
      ∙ here) (omega arith))
  | inr other ↦ dies c ps p (Receiving len next bytes) (Continuation cid seq area) WrongSequence low all h (λ e. e) says here (rw other.0 refl)
      (len, next, bytes, h, other.1)
]
holds-here c ps p (Replied m) f low all says here h = holds-later c ps p (Replied m) tt h
holds-here c ps p (Failed code) f low all says here h = holds-later c ps p (Failed code) tt h
holds-here c ps p (Died kind) f low all says here h = holds-later c ps p (Died kind) tt h

-- one packet more
pub holds-step : (c : ℕ) (ps : List Packet) (p : Packet) (s : Shown) → c < 2 ^ 32 → ArePackets (ps ++ p ∷ []) → Holds c ps s
    → Holds c (ps ++ p ∷ []) (step c s (fields p))
holds-step c ps p s low all h =
    let P : Shown → Type 0 = Holds c (ps ++ p ∷ []) in
    cond_both (channel_of (fields p) == c) (on_channel s (fields p)) s P
    (λ e. holds-here c ps p s (fields p) low all refl (eqb-true (channel_of (fields p)) c e) h)
    (λ e. holds-other c ps p s (eqb-false (channel_of (fields p)) c e) h)

-- what the state says is so
holds-from : (c : ℕ) (ps more : List Packet) → c < 2 ^ 32 → ArePackets (ps ++ more) → Holds c ps (state c ps) → Holds c (ps ++ more) (state c (ps ++ more))
holds-from c ps [] low all h = let P : List Packet → Type 0 = λ qs. Holds c qs (state c qs) in subst P (sym (append-nil ps)) h
holds-from c ps (p ∷ more) low all h =
    let P : List Packet → Type 0 = λ qs. Holds c qs (state c qs) in
    let A : List Packet → Type 0 = ArePackets in
    let Q : Shown → Type 0 = Holds c (ps ++ p ∷ []) in
    let all' : ArePackets ((ps ++ p ∷ []) ++ more) = subst A (sym (append_assoc ps (p ∷ []) more)) all in
    subst P (append_assoc ps (p ∷ []) more)
    (holds-from c (ps ++ p ∷ []) more low all'
    (subst Q (sym (state-push c ps p)) (holds-step c ps p (state c ps) low (packets_left (ps ++ p ∷ []) more all') h)))

pub holds-state : (c : ℕ) (ps : List Packet) → c < 2 ^ 32 → ArePackets ps → Holds c ps (state c ps)
holds-state c ps low all = holds-from c [] ps low all tt

-- ---- the state is the one thing that can be shown

pub ended_holds : (c : ℕ) (ps : List Packet) (s : Shown) → IsEnded s → Holds c ps s → HasEnded c ps
ended_holds c ps Waiting e h = absurd e
ended_holds c ps (Receiving len next bytes) e h = absurd e
ended_holds c ps (Replied m) e h = inl (h.0, 16, m, h.1, h.2)
ended_holds c ps (Failed code) e h = inl (h.0, 63, code ∷ [], h.1, h.2)
ended_holds c ps (Died kind) e h = inr (h.0, h.1, h.2.dead)

-- what is carried, or dies, with this packet had not ended before
pub carries_now : (c : ℕ) (ps : List Packet) (p : Packet) (cmd : ℕ) (m : List ℕ) → Carries c (ps ++ p ∷ []) cmd m → HasEnded c ps → ⊥
carries_now c ps p cmd m h (inl e) = pending_before c ps p cmd m h (rw (state-carried c e.0 ps e.1 e.2 e.3 e.4) (ending_ended e.1 e.2))
carries_now c ps p cmd m h (inr e) = e.2 (ps ++ p ∷ []) cmd m (inr (more_begins e.0 ps p e.1)) h

pub dies_now : (c : ℕ) (ps : List Packet) (p : Packet) (kind : DeadKind) → Dies c (ps ++ p ∷ []) kind → HasEnded c ps → ⊥
dies_now c ps p kind d (inl e) = d.dead e.0 e.1 e.2 (inl (more_begins e.0 ps p e.3)) e.4
dies_now c ps p kind d (inr e) = d.shortest (subst (λ qs. IsDead c qs) (same_from_push ps d.before p d.last d.ends).0 (dead_itself c ps e))

state_fault : (c : ℕ) (ps : List Packet) (s : Shown) (f : Fields) (kind : DeadKind) → Holds c ps s → (IsEnded s → ⊥) → PacketFault c ps f kind
    → on_channel s f ≡ Died kind
state_fault c ps Waiting f kind h n fault = waiting_fault kind c ps f (not_open c ps h) fault
state_fault c ps (Receiving len next bytes) f kind h n fault = open_fault kind c ps f len next bytes h fault
state_fault c ps _ f kind h n fault = absurd (n tt)

pub state-dies : (c : ℕ) (ps : List Packet) (kind : DeadKind) → c < 2 ^ 32 → ArePackets ps → Dies c ps kind → state c ps ≡ Died kind
state-dies c ps kind low all d =
    let all' : ArePackets (d.before ++ d.last ∷ []) = subst (λ qs. ArePackets qs) d.ends all in
    let d' : Dies c (d.before ++ d.last ∷ []) kind = subst (λ qs. Dies c qs kind) d.ends d in
    let h : Holds c d.before (state c d.before) = holds-state c d.before low (packets_left d.before (d.last ∷ []) all') in
    let n : IsEnded (state c d.before) → ⊥ = λ e. dies_now c d.before d.last kind d' (ended_holds c d.before (state c d.before) e h) in
    ap (state c) d.ends ∙ state-push c d.before d.last ∙ (elim (eqb_tells (channel_of (fields d.last)) c) [
      | inl here ↦ rw here.0 (state_fault c d.before (state c d.before) (fields d.last) kind h n d.fault)
      | inr other ↦ absurd (alive c (d.before ++ d.last ∷ []) (state c d.before) low all'
          (holds-other c d.before d.last (state c d.before) other.1 h) n d'.dead)
    ])

got-state : (c : ℕ) (ps : List Packet) (s : Shown) → c < 2 ^ 32 → ArePackets ps → Holds c ps s → state c ps ≡ s
got-state c ps Waiting low all h = run-keepalives (on c ps) h
got-state c ps (Receiving len next bytes) low all h = state-open h
got-state c ps (Replied m) low all h = state-carried c h.0 ps 16 m h.1 h.2
got-state c ps (Failed code) low all h = state-carried c h.0 ps 63 (code ∷ []) h.1 h.2
got-state c ps (Died kind) low all h =
    let e : state c h.0 ≡ Died kind = state-dies c h.0 kind low (packets_left h.0 h.1.0 (subst (λ qs. ArePackets qs) h.1.1 all)) h.2 in
    state-ended c h.0 ps h.1 (rw e tt) ∙ e

pub one_shown : (c : ℕ) (ps : List Packet) (s t : Shown) → c < 2 ^ 32 → ArePackets ps → Holds c ps s → Holds c ps t → s ≡ t
one_shown c ps s t low all h k = sym (got-state c ps s low all h) ∙ got-state c ps t low all k

-- it shows an end, or none
pub ended_or : (s : Shown) → IsEnded s ⊎ (IsEnded s → ⊥)
ended_or Waiting = inr (λ e. e)
ended_or (Receiving len next bytes) = inr (λ e. e)
ended_or _ = inl tt

pub holds_ended : (c : ℕ) (ps : List Packet) (s : Shown) → c < 2 ^ 32 → ArePackets ps → Holds c ps s → HasEnded c ps → IsEnded s
holds_ended c ps s low all h (inl e) = rw (sym (got-state c ps s low all h) ∙ state-carried c e.0 ps e.1 e.2 e.3 e.4) (ending_ended e.1 e.2)
holds_ended c ps s low all h (inr dead) = elim (ended_or s) [ inl e ↦ e | inr n ↦ absurd (alive c ps s low all h n (dead_itself c ps dead)) ]
