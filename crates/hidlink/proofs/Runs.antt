-- What a collector shows after a run of packets.
use Rattle.std.proofs.Common.{◌≡◌, ℕ, suc, ◌+◌, ◌<◌, ◌≤◌, ◌⊎◌, inl, inr, true, false, cond, List, [], ◌∷◌, ◌++◌, length, take, map, refl, sym, ◌∙◌}
use Rattle.std.proofs.Common.{ap, subst, arith, slice_index, add-zero}
use Rattle.std.proofs.lemmas.List.{append_assoc, append-nil, same_from_push, map-append, take_at}
use Rattle.std.proofs.lemmas.List.Elements.{filter-append}
use Rattle.std.proofs.lemmas.Bool.{eq-eqb, lt-ltb, le-ltb, le-leb, ne_eqb}
use Rattle.std.proofs.lemmas.List.{nil_from_length, length_push}
use Rattle.hidframe.specs.declared.Packet.{Packet}
use Rattle.hidframe.specs.Packets.{Fields, Initial, Continuation, fields}
use Rattle.hidframe.specs.Frames.{continuations, continuation_count, joined}
use Rattle.std.specs.Prelude.{◌==◌}
use Rattle.hidlink.specs.Wire.{channel_of, on, IsKeepalive, AreKeepalives, Carries, IsBeginning, OpenMessage, Shown, Waiting, Receiving, Replied, Failed, Died}
use Rattle.hidlink.specs.Steps.{received, on_channel, step, run, state, IsEnded}

-- a run in two parts
pub run-append : (s : Shown) (xs ys : List Fields) → run s (xs ++ ys) ≡ run (run s xs) ys
run-append s [] ys = refl
run-append s (x ∷ xs) ys = run-append (on_channel s x) xs ys

-- one packet more on c, or elsewhere
pub on-push : (c : ℕ) (ps : List Packet) (p : Packet) → channel_of (fields p) ≡ c → on c (ps ++ p ∷ []) ≡ on c ps ++ p ∷ []
on-push c ps p e =
    filter-append (λ q. channel_of (fields q) == c) ps (p ∷ [])
    ∙ ap (λ b. on c ps ++ cond b (p ∷ []) []) (eq-eqb (channel_of (fields p)) c e)

pub on-other : (c : ℕ) (ps : List Packet) (p : Packet) → (channel_of (fields p) ≡ c → ⊥) → on c (ps ++ p ∷ []) ≡ on c ps
on-other c ps p n =
    filter-append (λ q. channel_of (fields q) == c) ps (p ∷ [])
    ∙ ap (λ b. on c ps ++ cond b (p ∷ []) []) (ne_eqb (channel_of (fields p)) c n)
    ∙ append-nil (on c ps)

-- the state after more packets
pub state-append : (c : ℕ) (ps more : List Packet) → state c (ps ++ more) ≡ run (state c ps) (map fields (on c more))
state-append c ps more =
    ap (λ qs. run Waiting (map fields qs)) (filter-append (λ q. channel_of (fields q) == c) ps more)
    ∙ ap (run Waiting) (map-append fields (on c ps) (on c more))
    ∙ run-append Waiting (map fields (on c ps)) (map fields (on c more))

pub state-push : (c : ℕ) (ps : List Packet) (p : Packet) → state c (ps ++ p ∷ []) ≡ step c (state c ps) (fields p)
state-push c ps p =
    state-append c ps (p ∷ [])
    ∙ (elim (channel_of (fields p) == c) as (λ b. run (state c ps) (map fields (cond b (p ∷ []) [])) ≡ cond b (on_channel (state c ps) (fields p)) (state c ps))
    [ true ↦ refl | false ↦ refl ])

-- nothing comes after the end
pub run-ended : (s : Shown) → IsEnded s → (fs : List Fields) → run s fs ≡ s
unfolding on_channel
run-ended s h [] = refl
run-ended Waiting h (f ∷ fs) = absurd h
run-ended (Receiving len next bytes) h (f ∷ fs) = absurd h
run-ended (Replied m) h (f ∷ fs) = run-ended (Replied m) h fs
run-ended (Failed code) h (f ∷ fs) = run-ended (Failed code) h fs
run-ended (Died kind) h (f ∷ fs) = run-ended (Died kind) h fs

pub state-ended : (c : ℕ) (qs ps : List Packet) → IsBeginning qs ps → IsEnded (state c qs) → state c ps ≡ state c qs
state-ended c qs ps b h = ap (state c) b.1 ∙ state-append c qs b.0 ∙ run-ended (state c qs) h (map fields (on c b.0))

-- keepalives change nothing
pub keepalive_stays : (f : Fields) → IsKeepalive f → on_channel Waiting f ≡ Waiting
unfolding on_channel
keepalive_stays (Initial cid cmd len area) h =
    rw (h.0, h.1) (elim h.2 [ inl e ↦ rw e refl | inr e ↦ rw e refl ])
keepalive_stays (Continuation cid seq area) h = absurd h

pub run-keepalives : (ws : List Packet) → AreKeepalives ws → run Waiting (map fields ws) ≡ Waiting
run-keepalives [] h = refl
run-keepalives (w ∷ ws) h = ap (λ s. run s (map fields ws)) (keepalive_stays (fields w) h.0) ∙ run-keepalives ws h.1

-- continuations in order fill the message
pub received-missing : (len next : ℕ) (bytes : List ℕ) → next < continuation_count len → received len next bytes ≡ Receiving len next bytes
received-missing len next bytes h = ap (λ b. cond b (Receiving len next bytes) (Replied (take len bytes))) (lt-ltb next (continuation_count len) h)

pub received-whole : (len next : ℕ) (bytes : List ℕ) → continuation_count len ≤ next → received len next bytes ≡ Replied (take len bytes)
received-whole len next bytes h = ap (λ b. cond b (Receiving len next bytes) (Replied (take len bytes))) (le-ltb next (continuation_count len) h)

pub run-continuations : (len c next : ℕ) (bytes : List ℕ) (later : List (List ℕ)) → next + length later ≤ continuation_count len
    → run (received len next bytes) (continuations c next later) ≡ received len (next + length later) (bytes ++ joined later)
unfolding on_channel
run-continuations len c next bytes [] h =
    ap (λ n. received len n bytes) (sym (add-zero next)) ∙ ap (received len (next + 0)) (sym (append-nil bytes))
run-continuations len c next bytes (a ∷ areas) h =
    ap (λ s. run s (continuations c next (a ∷ areas))) (received-missing len next bytes (omega arith))
    ∙ ap (λ s. run s (continuations c (next + 1) areas)) (rw (eq-eqb next next refl) refl)
    ∙ run-continuations len c (next + 1) (bytes ++ a) areas (omega arith)
    ∙ ap (λ n. received len n ((bytes ++ a) ++ joined areas)) (omega arith)
    ∙ ap (received len (next + suc (length areas))) (append_assoc bytes a (joined areas))

-- an error of one byte
error_says : (c : ℕ) (area : List ℕ) → on_channel Waiting (Initial c 63 1 area) ≡ Failed (slice_index area 0)
unfolding on_channel
error_says c area = refl

-- a list has a last element, or none
pub cases_last : {X : Type 0} (xs : List X) → (xs ≡ []) ⊎ ((front : List X) × (last : X) × (xs ≡ front ++ last ∷ []))
cases_last [] = inl refl
cases_last (x ∷ xs) = inr (elim (cases_last xs) [
  | inl e ↦ ([], x, ap (λ ys. x ∷ ys) e)
  | inr h ↦ (x ∷ h.0, h.1, ap (λ ys. x ∷ ys) h.2)
])

pub continuations-append : (c k : ℕ) (xs : List (List ℕ)) (y : List ℕ)
    → continuations c k (xs ++ y ∷ []) ≡ continuations c k xs ++ Continuation c (k + length xs) y ∷ []
continuations-append c k [] y = ap (λ n. Continuation c n y ∷ []) (sym (add-zero k))
continuations-append c k (x ∷ xs) y =
    ap (λ fs. Continuation c k x ∷ fs) (continuations-append c (k + 1) xs y ∙ ap (λ n. continuations c (k + 1) xs ++ Continuation c n y ∷ []) (omega arith))

-- ---- a message that has begun

-- keepalives, and then a packet that says f
run_from : (waits begun : List Packet) (f : Fields) (fs : List Fields) → AreKeepalives waits → map fields begun ≡ f ∷ fs
    → run Waiting (map fields (waits ++ begun)) ≡ run (on_channel Waiting f) fs
run_from waits begun f fs k e =
    ap (run Waiting) (map-append fields waits begun ∙ ap (λ xs. map fields waits ++ xs) e) ∙ run-append Waiting (map fields waits) (f ∷ fs)
    ∙ ap (λ s. run s (f ∷ fs)) (run-keepalives waits k)

-- The packets qs are keepalives, then packets of a message of len bytes on c: these data areas joined, with
-- `next` continuations.
pub record Begun (c : ℕ) (qs : List Packet) (cmd len next : ℕ) (bytes : List ℕ) : Type 0 where
  pub waits : List Packet
  pub begun : List Packet
  pub first : List ℕ
  pub later : List (List ℕ)
  pub split : qs ≡ waits ++ begun
  pub keepalives : AreKeepalives waits
  pub packets : map fields begun ≡ Initial c cmd len first ∷ continuations c 0 later
  pub number : length later ≡ next
  pub so_far : bytes ≡ first ++ joined later

-- a message is open that has begun, can be carried and is not all there
pub begun_of : {c len next : ℕ} {ps : List Packet} {bytes : List ℕ} → OpenMessage c ps len next bytes → Begun c (on c ps) 16 len next bytes
begun_of o = record {
  waits = o.waits;
  begun = o.begun;
  first = o.first;
  later = o.later;
  split = o.split;
  keepalives = o.keepalives;
  packets = o.packets;
  number = o.number;
  so_far = o.so_far;
}

pub open_as : {c len next : ℕ} {ps : List Packet} {bytes : List ℕ} → Begun c (on c ps) 16 len next bytes → len ≤ 7609 → next < continuation_count len
    → OpenMessage c ps len next bytes
open_as b room missing = record {
  waits = b.waits;
  begun = b.begun;
  first = b.first;
  later = b.later;
  split = b.split;
  keepalives = b.keepalives;
  room = room;
  packets = b.packets;
  number = b.number;
  missing = missing;
  so_far = b.so_far;
}

pub run_begun : {c len next : ℕ} {qs : List Packet} {bytes : List ℕ} (b : Begun c qs 16 len next bytes) → len ≤ 7609 → next ≤ continuation_count len
    → run Waiting (map fields qs) ≡ received len next bytes
unfolding on_channel
run_begun {c} {len} {next} b room within =
    let number : length b.later ≡ next = b.number in
    ap (λ xs. run Waiting (map fields xs)) b.split ∙ run_from b.waits b.begun (Initial c 16 len b.first) (continuations c 0 b.later) b.keepalives b.packets
    ∙ ap (λ s. run s (continuations c 0 b.later)) (rw (le-leb len 7609 room) refl)
    ∙ run-continuations len c 0 b.first b.later (omega arith)
    ∙ ap (λ k. received len k (b.first ++ joined b.later)) (omega arith) ∙ ap (received len next) (sym b.so_far)

-- a packet before, it has begun too, or isn't there
before_last : {c cmd len next : ℕ} {qs : List Packet} {bytes : List ℕ} (p : Packet) → Begun c (qs ++ p ∷ []) cmd len next bytes
    → AreKeepalives qs ⊎ ((k : ℕ) × (less : List ℕ) × Begun c qs cmd len k less × (k + 1 ≡ next))
before_last {c} {cmd} {len} {next} {qs} p b = elim (cases_last b.begun) [
  | inl none ↦ let x : [] ≡ Initial c cmd len b.first ∷ continuations c 0 b.later = ap (map fields) (sym none) ∙ b.packets in absurd (cc)
  | inr q ↦
      let same : qs ≡ b.waits ++ q.0 =
      (same_from_push qs (b.waits ++ q.0) p q.1 (b.split ∙ ap (λ xs. b.waits ++ xs) q.2 ∙ sym (append_assoc b.waits q.0 (q.1 ∷ [])))).0 in
      let said : map fields q.0 ++ fields q.1 ∷ [] ≡ Initial c cmd len b.first ∷ continuations c 0 b.later = sym (map-append fields q.0 (q.1 ∷ []))
      ∙ ap (map fields) (sym q.2) ∙ b.packets in
      elim (cases_last b.later) [
        | inl none ↦
            let first : q.0 ≡ [] = no_packets q.0
            (same_from_push (map fields q.0) [] (fields q.1) (Initial c cmd len b.first) (said
            ∙ ap (λ l. Initial c cmd len b.first ∷ continuations c 0 l) none)).0 in
            inl (rw (same, first, append-nil) b.keepalives)
        | inr k ↦
            let size : length b.later ≡ length k.0 + 1 = ap length k.2 ∙ length_push k.0 k.1 in
            let packets : map fields q.0 ≡ Initial c cmd len b.first ∷ continuations c 0 k.0 =
            (same_from_push (map fields q.0) (Initial c cmd len b.first ∷ continuations c 0 k.0) (fields q.1) (Continuation c (0 + length k.0) k.1)
            (said ∙ ap (λ fs. Initial c cmd len b.first ∷ fs) (ap (continuations c 0) k.2 ∙ continuations-append c 0 k.0 k.1))).0 in
            inr (
              length k.0,
              b.first ++ joined k.0,
              record {
                waits = b.waits;
                begun = q.0;
                first = b.first;
                later = k.0;
                split = same;
                keepalives = b.keepalives;
                packets = packets;
                number = refl;
                so_far = refl;
              },
              sym size ∙ b.number,
            )
      ]
]
  where
    no_packets : (xs : List Packet) → map fields xs ≡ [] → xs ≡ []
    no_packets [] e = refl
    no_packets (x ∷ xs) e = absurd (cc)

-- ---- a list that carries a message

-- how a message ends
abbrev pub ending : ℕ → List ℕ → Shown
ending cmd m = cond (cmd == 16) (Replied m) (Failed (slice_index m 0))

begun_whole : {c cmd : ℕ} {ps : List Packet} {m : List ℕ} (h : Carries c ps cmd m)
    → Begun c (on c ps) cmd (length m) (continuation_count (length m)) (m ++ h.frames.rest)
begun_whole h = record {
  waits = h.waits;
  begun = h.message;
  first = h.frames.first;
  later = h.frames.later;
  split = h.split;
  keepalives = h.keepalives;
  packets = h.frames.packets;
  number = h.frames.count;
  so_far = sym h.frames.begins;
}

-- it ends with it
pub state-carries : (c : ℕ) (ps : List Packet) (cmd : ℕ) (m : List ℕ) → Carries c ps cmd m → state c ps ≡ ending cmd m
state-carries c ps cmd m h = elim h.kind [
  | inl e ↦ run_begun (subst (λ k. Begun c (on c ps) k (length m) (continuation_count (length m)) (m ++ h.frames.rest)) e (begun_whole h)) h.frames.room
      (omega arith)
      ∙ received-whole (length m) (continuation_count (length m)) (m ++ h.frames.rest) (omega arith) ∙ ap Replied (take_at m h.frames.rest (length m) refl)
      ∙ rw e refl
  | inr e ↦ ap (λ xs. run Waiting (map fields xs)) h.split
      ∙ run_from h.waits h.message (Initial c cmd (length m) h.frames.first) (continuations c 0 h.frames.later) h.keepalives h.frames.packets
      ∙ rw e.0 (one_byte m h.frames.first h.frames.later h.frames.rest e.1 h.frames.count h.frames.begins)
]
  where
    one_byte : (m first : List ℕ) (later : List (List ℕ)) (rest : List ℕ) → length m ≡ 1 → length later ≡ continuation_count (length m)
        → first ++ joined later ≡ m ++ rest
        → run (on_channel Waiting (Initial c 63 (length m) first)) (continuations c 0 later) ≡ Failed (slice_index m 0)
    one_byte [] first later rest one count begins = absurd (omega arith)
    one_byte (b ∷ m) first later rest one count begins =
        let none : later ≡ [] = nil_from_length later (rw one at count) in
        let e : first ++ joined [] ≡ (b ∷ m) ++ rest = rw none at begins in
        rw (one, none) (error_says c first ∙ ap (λ xs. Failed (slice_index xs 0)) (sym (append-nil first) ∙ e))

-- before its last packet it isn't at an end
pub pending_before : (c : ℕ) (ps : List Packet) (p : Packet) (cmd : ℕ) (m : List ℕ) → Carries c (ps ++ p ∷ []) cmd m → IsEnded (state c ps) → ⊥
pending_before c ps p cmd m h ended =
    let P : Shown → Type 0 = IsEnded in
    let on_c : channel_of (fields p) ≡ c = ap (λ q. channel_of (fields q)) (same_from_push ps h.before p h.last h.ends).1 ∙ h.last_on in
    let b : Begun c (on c ps ++ p ∷ []) cmd (length m) (continuation_count (length m)) (m ++ h.frames.rest) =
    subst (λ qs. Begun c qs cmd (length m) (continuation_count (length m)) (m ++ h.frames.rest)) (on-push c ps p on_c) (begun_whole h) in
    elim (before_last p b) [
      | inl waits ↦ subst P (run-keepalives (on c ps) waits) ended
      | inr o ↦ let less : o.0 + 1 ≡ continuation_count (length m) = o.3 in elim h.kind [
        | inl e ↦ subst P (run_begun (subst (λ k. Begun c (on c ps) k (length m) o.0 o.1) e o.2) h.frames.room (omega arith)
            ∙ received-missing (length m) o.0 o.1 (omega arith)) ended
        | inr e ↦ let one : length m ≡ 1 = e.1 in omega arith
      ]
    ]
