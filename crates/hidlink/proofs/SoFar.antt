-- A request's packets up to one of them.
use Rattle.std.proofs.Common.{◌≡◌, ℕ, suc, zero, ◌+◌, ◌-◌, ◌*◌, ◌^◌, ◌<◌, ◌≤◌, ◌⊎◌, inl, true, false, cond, nat_lt, List, [], ◌∷◌, ◌++◌, length}
use Rattle.std.proofs.Common.{take, drop, map, refl, sym, ◌∙◌, ap, subst, arith, zero-add}
use Rattle.std.specs.Prelude.{◌==◌, replicate}
use Rattle.std.specs.Int.{w32, to_be_bytes}
use Rattle.std.specs.List.{AllByRecursion}
use Rattle.std.proofs.lemmas.List.{append_assoc, append-nil, map-append, flat_map_more, length-take-le, take-append-drop, length-append, length_push}
use Rattle.std.proofs.lemmas.Bool.{cond_both, lt-ltb, ltb-true, ltb-false}
use Rattle.std.proofs.lemmas.Nat.{from_be_bytes-to_be_bytes_4}
use Rattle.hidframe.specs.declared.Packet.{Packet}
use Rattle.hidframe.specs.Packets.{Initial, Continuation, fields, IsPacket, channel}
use Rattle.hidframe.specs.Frames.{continuations, continuation_count, joined}
use Rattle.hidframe.proofs.Uniqueness.{AreaFits, areas_size, fields_fit}
use Rattle.hidframe.proofs.Bytes.{bytes-append, bytes-cons, bytes_zeros, bytes_of_32}
use Rattle.hidlink.specs.Wire.{channel_of, on, AreKeepalives, Carries, Holds}
use Rattle.hidlink.specs.Steps.{received}
use Rattle.hidlink.proofs.Runs.{on-push, continuations-append, Begun, open_as}

abbrev pub ArePackets : List Packet → Type 0
ArePackets ps = AllByRecursion IsPacket ps

pub packets-append : (xs ys : List Packet) → ArePackets xs → ArePackets ys → ArePackets (xs ++ ys)
packets-append [] ys h k = k
packets-append (x ∷ xs) ys h k = (h.0, packets-append xs ys h.1 k)

pub packets_left : (xs ys : List Packet) → ArePackets (xs ++ ys) → ArePackets xs
packets_left [] ys h = tt
packets_left (x ∷ xs) ys h = (h.0, packets_left xs ys h.1)

pub packets_right : (xs ys : List Packet) → ArePackets (xs ++ ys) → ArePackets ys
packets_right [] ys h = h
packets_right (x ∷ xs) ys h = packets_right xs ys h.1

pub packets_on : (c : ℕ) (ps : List Packet) → ArePackets ps → ArePackets (on c ps)
packets_on c [] h = tt
packets_on c (p ∷ ps) h =
    elim (channel_of (fields p) == c) as (λ b. ArePackets (cond b (p ∷ on c ps) (on c ps))) [
      | true ↦ (h.0, packets_on c ps h.1)
      | false ↦ packets_on c ps h.1
    ]

pub size : {c cmd len next : ℕ} {bytes : List ℕ} (ps : List Packet) → ArePackets ps → Begun c (on c ps) cmd len next bytes → length bytes ≡ 57 + 59 * next
size {c} {cmd} {len} ps all s =
    let begun : ArePackets s.begun = packets_right s.waits s.begun (subst (λ qs. ArePackets qs) s.split (packets_on c ps all)) in
    ap length s.so_far ∙ length-append s.first (joined s.later) ∙ sizes s.begun s.first s.later begun s.packets ∙ ap (λ n. 57 + 59 * n) s.number
  where
    sizes : (ps : List Packet) (first : List ℕ) (later : List (List ℕ)) → ArePackets ps → map fields ps ≡ Initial c cmd len first ∷ continuations c 0 later
        → length first + length (joined later) ≡ 57 + 59 * length later
    sizes [] first later h e = absurd (cc)
    sizes (p ∷ ps) first later h e =
        let head : fields p ≡ Initial c cmd len first = cc in
        let here : length first ≡ 57 = subst AreaFits head (fields_fit p h.0) in
        let more : length (joined later) ≡ 59 * length later = areas_size c 0 ps later h.1 (cc) in
        omega arith

-- the first packet
pub begins_with : (c : ℕ) (ps : List Packet) (p : Packet) (cmd len : ℕ) (area : List ℕ) → AreKeepalives (on c ps) → fields p ≡ Initial c cmd len area
    → Begun c (on c (ps ++ p ∷ [])) cmd len 0 area
begins_with c ps p cmd len area waits says = rw (on-push c ps p (ap channel_of says)) (record {
  waits = on c ps;
  begun = p ∷ [];
  first = area;
  later = [];
  split = refl;
  keepalives = waits;
  packets = ap (λ f. f ∷ []) says;
  number = refl;
  so_far = sym (append-nil area);
})

-- one more
pub goes_on : {c cmd len next : ℕ} {bytes : List ℕ} (ps : List Packet) (p : Packet) (area : List ℕ) → Begun c (on c ps) cmd len next bytes
    → fields p ≡ Continuation c next area
    → Begun c (on c (ps ++ p ∷ [])) cmd len (next + 1) (bytes ++ area)
goes_on {c} {cmd} {len} ps p area o says = rw (on-push c ps p (ap channel_of says)) (record {
  waits = o.waits;
  begun = o.begun ++ p ∷ [];
  first = o.first;
  later = o.later ++ area ∷ [];
  split = ap (λ qs. qs ++ p ∷ []) o.split ∙ append_assoc o.waits o.begun (p ∷ []);
  keepalives = o.keepalives;
  packets = map-append fields o.begun (p ∷ []) ∙ ap (λ fs. fs ++ fields p ∷ []) o.packets
      ∙ ap (λ f. (Initial c cmd len o.first ∷ continuations c 0 o.later) ++ f ∷ []) (says
      ∙ ap (λ n. Continuation c n area) (sym (zero-add (length o.later) ∙ o.number)))
      ∙ ap (λ fs. Initial c cmd len o.first ∷ fs) (sym (continuations-append c 0 o.later area));
  number = length_push o.later area ∙ ap (λ n. n + 1) o.number;
  so_far = ap (λ bs. bs ++ area) o.so_far ∙ flat_map_more (λ (a : List ℕ). a) o.first o.later area;
})

-- all of them
pub carries : {c cmd len : ℕ} {bytes : List ℕ} (ps : List Packet) (p : Packet) → Begun c (on c (ps ++ p ∷ [])) cmd len (continuation_count len) bytes
    → channel_of (fields p) ≡ c → len ≤ 7609 → len ≤ length bytes
    → (cmd ≡ 16) ⊎ ((cmd ≡ 63) × (len ≡ 1)) → Carries c (ps ++ p ∷ []) cmd (take len bytes)
carries {c} {cmd} {len} {bytes} ps p s on_c room long kind =
    let size : length (take len bytes) ≡ len = length-take-le len bytes long in
    record {
      before = ps;
      last = p;
      ends = refl;
      last_on = on_c;
      waits = s.waits;
      message = s.begun;
      split = s.split;
      keepalives = s.keepalives;
      frames = record {
        first = s.first;
        later = s.later;
        rest = drop len bytes;
        room = rw size room;
        packets = s.packets ∙ ap (λ n. Initial c cmd n s.first ∷ continuations c 0 s.later) (sym size);
        count = s.number ∙ ap continuation_count (sym size);
        begins = sym s.so_far ∙ sym (take-append-drop len bytes);
      };
      kind = rw size kind;
    }

-- what the last packet left
pub holds-received : {c len next : ℕ} {bytes : List ℕ} (ps : List Packet) (p : Packet) → ArePackets (ps ++ p ∷ [])
    → Begun c (on c (ps ++ p ∷ [])) 16 len next bytes → len ≤ 7609
    → channel_of (fields p) ≡ c → next ≤ continuation_count len → Holds c (ps ++ p ∷ []) (received len next bytes)
holds-received {c} {len} {next} {bytes} ps p all s room on_c within =
    cond_both (nat_lt next (continuation_count len)) _ _ (Holds c (ps ++ p ∷ []))
    (λ e. open_as s room (ltb-true next (continuation_count len) e))
    (λ e. let h : continuation_count len ≤ next = ltb-false next (continuation_count len) e in
    let whole : next ≡ continuation_count len = omega arith in
    let all_came : length bytes ≡ 57 + 59 * next = size (ps ++ p ∷ []) all s in (
      ps ++ p ∷ [],
      ([], sym (append-nil (ps ++ p ∷ []))),
      carries ps p (subst (λ k. Begun c (on c (ps ++ p ∷ [])) 16 len k bytes) whole s) on_c room (omega arith) (inl refl),
    ))

-- packets that complete a message
pub first_packet : ℕ → Packet
first_packet c = record { 0 = to_be_bytes w32 c ++ 144 ∷ replicate 59 0 }

pub next_packet : ℕ → ℕ → Packet
next_packet c k = record { 0 = to_be_bytes w32 c ++ k ∷ replicate 59 0 }

pub first-says : (c : ℕ) → c < 2 ^ 32 → fields (first_packet c) ≡ Initial c 16 0 (replicate 57 0)
unfolding fields first_packet
first-says c h = ap (λ n. Initial n 16 0 (replicate 57 0)) (from_be_bytes-to_be_bytes_4 c h)

pub next-says : (c k : ℕ) → c < 2 ^ 32 → k < 128 → fields (next_packet c k) ≡ Continuation c k (replicate 59 0)
unfolding fields next_packet
next-says c k h small =
    ap (λ b. cond b (Continuation (channel (next_packet c k)) k (replicate 59 0)) (Initial (channel (next_packet c k)) (k - 128) 0 (replicate 57 0)))
    (lt-ltb k 128 small)
    ∙ ap (λ n. Continuation n k (replicate 59 0)) (from_be_bytes-to_be_bytes_4 c h)

pub next_whole : (c k : ℕ) → c < 2 ^ 32 → k < 256 → IsPacket (next_packet c k)
unfolding next_packet
next_whole c k h small =
    (refl, bytes-append (to_be_bytes w32 c) (k ∷ replicate 59 0) (bytes_of_32 c h) (bytes-cons k (replicate 59 0) small (bytes_zeros 59)))

-- an open message can be completed
next_comes : {c len next : ℕ} {bytes : List ℕ} (ps : List Packet) → c < 2 ^ 32 → next < 128 → ArePackets ps → Begun c (on c ps) 16 len next bytes
    → ArePackets (ps ++ next_packet c next ∷ []) × Begun c (on c (ps ++ next_packet c next ∷ [])) 16 len (next + 1) (bytes ++ replicate 59 0)
next_comes {c} {len} {next} ps h small all s = (
  packets-append ps (next_packet c next ∷ []) all (next_whole c next h (omega arith), tt),
  goes_on ps (next_packet c next) (replicate 59 0) s (next-says c next h small),
)

pub completes : (c : ℕ) (ps : List Packet) (len next : ℕ) (bytes : List ℕ) (left : ℕ) → c < 2 ^ 32 → ArePackets ps → Begun c (on c ps) 16 len next bytes
    → len ≤ 7609 → next + left + 1 ≡ continuation_count len
    → (more : List Packet) × (m : List ℕ) × Carries c (ps ++ more) 16 m
completes c ps len next bytes zero h all s room e =
    let now = next_comes ps h (omega arith) all s in
    let sized : length (bytes ++ replicate 59 0) ≡ 57 + 59 * (next + 1) = size (ps ++ next_packet c next ∷ []) now.0 now.1 in
    let whole : next + 1 ≡ continuation_count len = omega arith in (
      next_packet c next ∷ [],
      take len (bytes ++ replicate 59 0),
      carries ps (next_packet c next) (subst (λ k. Begun c (on c (ps ++ next_packet c next ∷ [])) 16 len k (bytes ++ replicate 59 0)) whole now.1)
          (ap channel_of (next-says c next h (omega arith))) room (omega arith) (inl refl),
    )
completes c ps len next bytes (suc left) h all s room e =
    let now = next_comes ps h (omega arith) all s in
    let rest : (more : List Packet) × (m : List ℕ) × Carries c ((ps ++ next_packet c next ∷ []) ++ more) 16 m =
    completes c (ps ++ next_packet c next ∷ []) len (next + 1) (bytes ++ replicate 59 0) left h now.0 now.1 room (omega arith) in
    (next_packet c next ∷ rest.0, rest.1, rw append_assoc at rest.2)

-- so is one that isn't begun
pub completes_waiting : (c : ℕ) (ps : List Packet) → c < 2 ^ 32 → AreKeepalives (on c ps) → Carries c (ps ++ first_packet c ∷ []) 16 []
completes_waiting c ps h waits =
    carries ps (first_packet c) (begins_with c ps (first_packet c) 16 0 (replicate 57 0) waits (first-says c h)) (ap channel_of (first-says c h)) (omega arith)
    (omega arith) (inl refl)
