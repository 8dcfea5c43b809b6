-- There is one zero-filled frame list of a message.
use Rattle.std.proofs.Common.{◌≡◌, ℕ, suc, zero, ◌+◌, ◌-◌, ◌*◌, ◌<◌, ◌≤◌, Bool, true, false, cond, nat_lt, List, [], ◌∷◌, ◌++◌, length, take, drop}
use Rattle.std.proofs.Common.{map, refl, sym, ◌∙◌, ap, subst, arith, slice_index, get_or, append_assoc, length-append}
use Rattle.std.specs.Prelude.{replicate, slice_range}
use Rattle.std.specs.Int.{w16, w32, from_be_bytes, to_be_bytes}
use Rattle.std.specs.List.{AllByRecursion}
use Rattle.std.proofs.lemmas.List.{drop-drop, length-take, length-drop, take_all, take_at, drop_at}
use Rattle.std.proofs.lemmas.Nat.{be_bytes_4, be_bytes_2}
use Rattle.std.proofs.lemmas.Bool.{ltb-false}
use Rattle.hidframe.specs.declared.Packet.{Packet}
use Rattle.hidframe.specs.Packets.{Fields, Initial, Continuation, fields, IsPacket, byte, channel}
use Rattle.hidframe.specs.Frames.{ZeroFrames, continuations, continuation_count, joined}
use Rattle.hidframe.specs.Pieces.{padded, initial, continuation, item, items_from}
use Rattle.hidframe.proofs.Bytes.{bytes-cons}
use Rattle.hidframe.proofs.Padding.{pad}
use Rattle.hidframe.proofs.Items.{items-more, items-none}

-- a list begins with its elements
five : (xs : List ℕ) → 5 ≤ length xs → xs ≡ (slice_index xs 0 ∷ slice_index xs 1 ∷ slice_index xs 2 ∷ slice_index xs 3 ∷ []) ++ (slice_index xs 4 ∷ drop 5 xs)
five [] h = absurd (omega arith)
five (a ∷ []) h = absurd (omega arith)
five (a ∷ b ∷ []) h = absurd (omega arith)
five (a ∷ b ∷ c ∷ []) h = absurd (omega arith)
five (a ∷ b ∷ c ∷ d ∷ []) h = absurd (omega arith)
five (a ∷ b ∷ c ∷ d ∷ e ∷ xs) h = refl

seven : (xs : List ℕ) → 7 ≤ length xs → xs ≡ (slice_index xs 0 ∷ slice_index xs 1 ∷ slice_index xs 2 ∷ slice_index xs 3 ∷ [])
    ++ (slice_index xs 4 ∷ ((slice_index xs 5 ∷ slice_index xs 6 ∷ []) ++ drop 7 xs))
seven [] h = absurd (omega arith)
seven (a ∷ []) h = absurd (omega arith)
seven (a ∷ b ∷ []) h = absurd (omega arith)
seven (a ∷ b ∷ c ∷ []) h = absurd (omega arith)
seven (a ∷ b ∷ c ∷ d ∷ []) h = absurd (omega arith)
seven (a ∷ b ∷ c ∷ d ∷ e ∷ []) h = absurd (omega arith)
seven (a ∷ b ∷ c ∷ d ∷ e ∷ f ∷ []) h = absurd (omega arith)
seven (a ∷ b ∷ c ∷ d ∷ e ∷ f ∷ g ∷ xs) h = refl

four : (x y z w : ℕ) → x < 256 → y < 256 → z < 256 → w < 256 → (i : ℕ) → get_or (x ∷ y ∷ z ∷ w ∷ []) i 0 < 256
four x y z w a b d e = bytes-cons x (y ∷ z ∷ w ∷ []) a (bytes-cons y (z ∷ w ∷ []) b (bytes-cons z (w ∷ []) d (bytes-cons w [] e (λ i. omega arith))))

both : (x y : ℕ) → x < 256 → y < 256 → (i : ℕ) → get_or (x ∷ y ∷ []) i 0 < 256
both x y a b = bytes-cons x (y ∷ []) a (bytes-cons y [] b (λ i. omega arith))

range_tail : (p : Packet) (i : ℕ) → IsPacket p → i ≤ 64 → slice_range p.0 i 64 ≡ drop i p.0
range_tail p i whole h = take_all (64 - i) (drop i p.0)
    (let e : length p.0 ≡ 64 = whole.0 in let k : length (drop i p.0) ≡ length p.0 - i = length-drop i p.0 in omega arith)

-- the bytes of a continuation, from what it says
pub continuation_bytes : (p : Packet) (c k : ℕ) (area : List ℕ) → IsPacket p → fields p ≡ Continuation c k area → p.0 ≡ (to_be_bytes w32 c ++ k ∷ []) ++ area
unfolding fields
continuation_bytes p c k area whole says = split (nat_lt (byte p 4) 128) says
  where
    split : (b : Bool) → cond b (Continuation (channel p) (byte p 4) (slice_range p.0 5 64))
        (Initial (channel p) (byte p 4 - 128) (from_be_bytes w16 (byte p 5 ∷ byte p 6 ∷ [])) (slice_range p.0 7 64)) ≡ Continuation c k area
        → p.0 ≡ (to_be_bytes w32 c ++ k ∷ []) ++ area
    split true e =
        let cid : channel p ≡ c = cc in
        let seq : byte p 4 ≡ k = cc in
        let rest : slice_range p.0 5 64 ≡ area = cc in
        let size : length p.0 ≡ 64 = whole.0 in
        let front : to_be_bytes w32 c ≡ byte p 0 ∷ byte p 1 ∷ byte p 2 ∷ byte p 3 ∷ [] =
        be_bytes_4 (byte p 0 ∷ byte p 1 ∷ byte p 2 ∷ byte p 3 ∷ []) c refl
        (four (byte p 0) (byte p 1) (byte p 2) (byte p 3) (whole.1 0) (whole.1 1) (whole.1 2) (whole.1 3)) (sym cid) in
        five p.0 (omega arith)
        ∙ ap (λ xs. xs ++ (byte p 4 ∷ drop 5 p.0)) (sym front)
        ∙ ap (λ n. to_be_bytes w32 c ++ (n ∷ drop 5 p.0)) seq
        ∙ ap (λ xs. to_be_bytes w32 c ++ (k ∷ xs)) (sym (range_tail p 5 whole (omega arith)) ∙ rest)
        ∙ sym (append_assoc (to_be_bytes w32 c) (k ∷ []) area)
    split false e = absurd (cc)

-- and of an initial packet
pub initial_bytes : (p : Packet) (c cmd len : ℕ) (area : List ℕ) → IsPacket p → fields p ≡ Initial c cmd len area
    → p.0 ≡ (to_be_bytes w32 c ++ (128 + cmd) ∷ to_be_bytes w16 len) ++ area
unfolding fields
initial_bytes p c cmd len area whole says = split (nat_lt (byte p 4) 128) refl says
  where
    split : (b : Bool) → nat_lt (byte p 4) 128 ≡ b
        → cond b (Continuation (channel p) (byte p 4) (slice_range p.0 5 64))
        (Initial (channel p) (byte p 4 - 128) (from_be_bytes w16 (byte p 5 ∷ byte p 6 ∷ [])) (slice_range p.0 7 64)) ≡ Initial c cmd len area
        → p.0 ≡ (to_be_bytes w32 c ++ (128 + cmd) ∷ to_be_bytes w16 len) ++ area
    split true t e = absurd (cc)
    split false t e =
        let cid : channel p ≡ c = cc in
        let command : byte p 4 - 128 ≡ cmd = cc in
        let size_is : from_be_bytes w16 (byte p 5 ∷ byte p 6 ∷ []) ≡ len = cc in
        let rest : slice_range p.0 7 64 ≡ area = cc in
        let size : length p.0 ≡ 64 = whole.0 in
        let high : 128 ≤ byte p 4 = ltb-false (byte p 4) 128 t in
        let mark : byte p 4 ≡ 128 + cmd = omega arith in
        let front : to_be_bytes w32 c ≡ byte p 0 ∷ byte p 1 ∷ byte p 2 ∷ byte p 3 ∷ [] =
        be_bytes_4 (byte p 0 ∷ byte p 1 ∷ byte p 2 ∷ byte p 3 ∷ []) c refl
        (four (byte p 0) (byte p 1) (byte p 2) (byte p 3) (whole.1 0) (whole.1 1) (whole.1 2) (whole.1 3)) (sym cid) in
        let count : to_be_bytes w16 len ≡ byte p 5 ∷ byte p 6 ∷ [] =
        be_bytes_2 (byte p 5 ∷ byte p 6 ∷ []) len refl (both (byte p 5) (byte p 6) (whole.1 5) (whole.1 6)) (sym size_is) in
        seven p.0 (omega arith)
        ∙ ap (λ xs. xs ++ (byte p 4 ∷ ((byte p 5 ∷ byte p 6 ∷ []) ++ drop 7 p.0))) (sym front)
        ∙ ap (λ n. to_be_bytes w32 c ++ (n ∷ ((byte p 5 ∷ byte p 6 ∷ []) ++ drop 7 p.0))) mark
        ∙ ap (λ ys. to_be_bytes w32 c ++ ((128 + cmd) ∷ (ys ++ drop 7 p.0))) (sym count)
        ∙ ap (λ xs. to_be_bytes w32 c ++ ((128 + cmd) ∷ (to_be_bytes w16 len ++ xs))) (sym (range_tail p 7 whole (omega arith)) ∙ rest)
        ∙ sym (append_assoc (to_be_bytes w32 c) ((128 + cmd) ∷ to_be_bytes w16 len) area)

-- what a packet says has 57 or 59 bytes
abbrev pub AreaFits : Fields → Type 0
AreaFits (Initial cid cmd len area) = length area ≡ 57
AreaFits (Continuation cid seq area) = length area ≡ 59

pub fields_fit : (p : Packet) → IsPacket p → AreaFits (fields p)
unfolding fields
fields_fit p h =
    elim (nat_lt (byte p 4) 128) as
    (λ b. AreaFits (cond b (Continuation (channel p) (byte p 4) (slice_range p.0 5 64))
    (Initial (channel p) (byte p 4 - 128) (from_be_bytes w16 (byte p 5 ∷ byte p 6 ∷ [])) (slice_range p.0 7 64)))) [
      | true ↦ simp (length-take, length-drop) (omega (arith, h.0))
      | false ↦ simp (length-take, length-drop) (omega (arith, h.0))
    ]

pub item_later : (c cmd : ℕ) (m : List ℕ) (k n : ℕ) → n ≡ k + 1 → continuation c k (take 59 (drop (57 + 59 * k) m)) ≡ item c cmd m n
unfolding item
item_later c cmd m k zero e = absurd (omega arith)
item_later c cmd m k (suc n) e = ap (λ j. continuation c j (take 59 (drop (57 + 59 * j) m))) (omega arith)

pub item_first : (c cmd : ℕ) (m : List ℕ) → initial c cmd (length m) (take 57 m) ≡ item c cmd m 0
unfolding item
item_first c cmd m = refl

-- the continuations that are left are the items that are left
later_items : (c cmd : ℕ) (m : List ℕ) (r k n : ℕ) (ps : List Packet) (areas : List (List ℕ)) → AllByRecursion IsPacket ps
    → map fields ps ≡ continuations c k areas
    → k + length areas ≡ continuation_count (length m) → n ≡ k + 1 → 57 + 59 * (k + length areas) ≡ length m + r
    → joined areas ≡ drop (57 + 59 * k) (m ++ replicate r 0) → ps ≡ items_from c cmd m n
later_items c cmd m r k n [] [] all says count at size left = sym (items-none c cmd m n (omega arith))
later_items c cmd m r k n [] (area ∷ areas) all says count at size left = absurd (cc)
later_items c cmd m r k n (p ∷ ps) [] all says count at size left = absurd (cc)
later_items c cmd m r k n (p ∷ ps) (area ∷ areas) all says count at size left =
    let head : fields p ≡ Continuation c k area = cc in
    let tail : map fields ps ≡ continuations c (k + 1) areas = cc in
    let here : length area ≡ 59 = subst AreaFits head (fields_fit p all.0) in
    let long : 57 + 59 * k + 59 ≤ length m + r = omega arith in
    let is : area ≡ padded 59 (take 59 (drop (57 + 59 * k) m)) =
    sym (take_at area (joined areas) 59 here) ∙ ap (take 59) left ∙ pad 59 (57 + 59 * k) m r long in
    let next : joined areas ≡ drop (57 + 59 * (k + 1)) (m ++ replicate r 0) =
    sym (drop_at area (joined areas) 59 here) ∙ ap (drop 59) left ∙ drop-drop 59 (57 + 59 * k) (m ++ replicate r 0)
    ∙ ap (λ i. drop i (m ++ replicate r 0)) (omega arith) in
    let packet : p ≡ continuation c k (take 59 (drop (57 + 59 * k) m)) =
    ap (λ bytes. record { 0 = bytes }) (continuation_bytes p c k area all.0 head ∙ ap (λ bytes. (to_be_bytes w32 c ++ k ∷ []) ++ bytes) is) in
    ap (λ q. q ∷ ps) packet
    ∙ ap (λ qs. continuation c k (take 59 (drop (57 + 59 * k) m)) ∷ qs)
    (later_items c cmd m r (k + 1) (n + 1) ps areas all.1 tail (omega arith) (omega arith) (omega arith) next)
    ∙ ap (λ q. q ∷ items_from c cmd m (n + 1)) (item_later c cmd m k n at)
    ∙ sym (items-more c cmd m n (omega arith))

-- continuations of 59 bytes each
pub areas_size : (c k : ℕ) (ps : List Packet) (later : List (List ℕ)) → AllByRecursion IsPacket ps → map fields ps ≡ continuations c k later
    → length (joined later) ≡ 59 * length later
areas_size c k ps [] h e = refl
areas_size c k [] (area ∷ later) h e = absurd (cc)
areas_size c k (p ∷ ps) (area ∷ later) h e =
    let head : fields p ≡ Continuation c k area = cc in
    let tail : map fields ps ≡ continuations c (k + 1) later = cc in
    let here : length area ≡ 59 = subst AreaFits head (fields_fit p h.0) in
    let more : length (joined later) ≡ 59 * length later = areas_size c (k + 1) ps later h.1 tail in
    length-append area (joined later) ∙ omega arith

-- a zero-filled frame list is the items
pub the_items : (c cmd : ℕ) (m : List ℕ) (ps : List Packet) → ZeroFrames c cmd m ps → ps ≡ items_from c cmd m 0
the_items c cmd m ps z = split ps z.whole z.frames.packets
  where
    begins : z.frames.first ++ joined z.frames.later ≡ m ++ replicate (length z.frames.rest) 0
    begins = z.frames.begins ∙ ap (λ xs. m ++ xs) z.zeros

    split : (ps : List Packet) → AllByRecursion IsPacket ps → map fields ps ≡ Initial c cmd (length m) z.frames.first ∷ continuations c 0 z.frames.later
        → ps ≡ items_from c cmd m 0
    split [] all says = absurd (cc)
    split (p ∷ qs) all says =
        let head : fields p ≡ Initial c cmd (length m) z.frames.first = cc in
        let tail : map fields qs ≡ continuations c 0 z.frames.later = cc in
        let here : length z.frames.first ≡ 57 = subst AreaFits head (fields_fit p all.0) in
        let sizes : length (joined z.frames.later) ≡ 59 * length z.frames.later = areas_size c 0 qs z.frames.later all.1 tail in
        let size : length z.frames.first + length (joined z.frames.later) ≡ length m + length z.frames.rest =
        sym (length-append z.frames.first (joined z.frames.later)) ∙ ap length z.frames.begins ∙ length-append m z.frames.rest in
        let count : length z.frames.later ≡ continuation_count (length m) = z.frames.count in
        let is : z.frames.first ≡ padded 57 (take 57 m) =
        sym (take_at z.frames.first (joined z.frames.later) 57 here) ∙ ap (take 57) begins ∙ pad 57 0 m (length z.frames.rest) (omega arith) in
        let next : joined z.frames.later ≡ drop (57 + 59 * 0) (m ++ replicate (length z.frames.rest) 0) =
        sym (drop_at z.frames.first (joined z.frames.later) 57 here) ∙ ap (drop 57) begins in
        let packet : p ≡ initial c cmd (length m) (take 57 m) =
        ap (λ bytes. record { 0 = bytes }) (initial_bytes p c cmd (length m) z.frames.first all.0 head
        ∙ ap (λ bytes. (to_be_bytes w32 c ++ (128 + cmd) ∷ to_be_bytes w16 (length m)) ++ bytes) is) in
        ap (λ q. q ∷ qs) packet
        ∙ ap (λ rs. initial c cmd (length m) (take 57 m) ∷ rs)
        (later_items c cmd m (length z.frames.rest) 0 1 qs z.frames.later all.1 tail (omega arith) (omega arith) (omega arith) next)
        ∙ ap (λ q. q ∷ items_from c cmd m 1) (item_first c cmd m)
        ∙ sym (items-more c cmd m 0 (omega arith))
