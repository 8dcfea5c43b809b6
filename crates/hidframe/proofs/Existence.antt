-- The packets that are framed are a frame list.
use Rattle.std.proofs.Common.{◌≡◌, ℕ, suc, zero, ◌+◌, ◌-◌, ◌*◌, ◌^◌, ◌<◌, ◌≤◌, cond, List, [], ◌∷◌, ◌++◌, length, take, drop, map, sym, ◌∙◌, ap}
use Rattle.std.proofs.Common.{subst, arith, length-append}
use Rattle.std.specs.Prelude.{replicate, slice_range}
use Rattle.std.specs.Int.{w16, w32, from_be_bytes, to_be_bytes}
use Rattle.std.specs.List.{AllByRecursion, range_with_len}
use Rattle.std.proofs.lemmas.List.{take-append-drop, drop-drop, length-take, length-drop, take_all, length-replicate, nil_from_length}
use Rattle.std.proofs.lemmas.List.FromFn.{length-map-range_with_len}
use Rattle.std.proofs.lemmas.Nat.{from_be_bytes-to_be_bytes_4, from_be_bytes-to_be_bytes_2}
use Rattle.std.proofs.lemmas.Bool.{lt-ltb, le-ltb}
use Rattle.hidframe.specs.declared.Packet.{Packet}
use Rattle.hidframe.specs.Packets.{Initial, Continuation, fields, IsPacket, byte, channel}
use Rattle.hidframe.specs.Frames.{ZeroFrames, continuations, continuation_count, joined}
use Rattle.hidframe.specs.Pieces.{padded, initial, continuation, items_from}
use Rattle.hidframe.proofs.Bytes.{AreBytes, bytes-append, bytes-cons, bytes_zeros, bytes_of_32, bytes_of_16}
use Rattle.hidframe.proofs.Padding.{pad, length-padded, bytes-drop, bytes-take}
use Rattle.hidframe.proofs.Items.{items-more, items-none}
use Rattle.hidframe.proofs.Uniqueness.{item_later, item_first}

take_within : (n : ℕ) (m : List ℕ) → length (take n m) ≤ n
take_within n m = simp length-take (omega arith)

-- what the packets say
continuation_says : (c k : ℕ) (bytes : List ℕ) → c < 2 ^ 32 → k < 128 → length bytes ≤ 59 → fields (continuation c k bytes) ≡ Continuation c k (padded 59 bytes)
unfolding fields
continuation_says c k bytes low small fits =
    ap (λ b. cond b (Continuation (channel (continuation c k bytes)) k (slice_range (continuation c k bytes).0 5 64))
    (Initial (channel (continuation c k bytes)) (k - 128) (from_be_bytes w16 (byte (continuation c k bytes) 5 ∷ byte (continuation c k bytes) 6 ∷ []))
    (slice_range (continuation c k bytes).0 7 64))) (lt-ltb k 128 small)
    ∙ ap (λ n. Continuation n k (take 59 (padded 59 bytes))) (from_be_bytes-to_be_bytes_4 c low)
    ∙ ap (Continuation c k) (take_all 59 (padded 59 bytes) (let e : length (padded 59 bytes) ≡ 59 = length-padded 59 bytes fits in omega arith))

initial_says : (c cmd len : ℕ) (bytes : List ℕ) → c < 2 ^ 32 → cmd < 128 → len < 2 ^ 16 → length bytes ≤ 57
    → fields (initial c cmd len bytes) ≡ Initial c cmd len (padded 57 bytes)
unfolding fields
initial_says c cmd len bytes low small short fits =
    let mark : 128 + cmd - 128 ≡ cmd = omega arith in
    let high : 128 ≤ 128 + cmd = omega arith in
    ap (λ b. cond b (Continuation (channel (initial c cmd len bytes)) (128 + cmd) (slice_range (initial c cmd len bytes).0 5 64))
    (Initial (channel (initial c cmd len bytes)) (128 + cmd - 128) (from_be_bytes w16 (to_be_bytes w16 len)) (take 57 (padded 57 bytes))))
    (le-ltb (128 + cmd) 128 high)
    ∙ ap (λ n. Initial n (128 + cmd - 128) (from_be_bytes w16 (to_be_bytes w16 len)) (take 57 (padded 57 bytes))) (from_be_bytes-to_be_bytes_4 c low)
    ∙ ap (λ n. Initial c n (from_be_bytes w16 (to_be_bytes w16 len)) (take 57 (padded 57 bytes))) mark
    ∙ ap (λ n. Initial c cmd n (take 57 (padded 57 bytes))) (from_be_bytes-to_be_bytes_2 len short)
    ∙ ap (Initial c cmd len) (take_all 57 (padded 57 bytes) (let e : length (padded 57 bytes) ≡ 57 = length-padded 57 bytes fits in omega arith))

-- they are packets
continuation_whole : (c k : ℕ) (bytes : List ℕ) → c < 2 ^ 32 → k < 128 → length bytes ≤ 59 → AreBytes bytes → IsPacket (continuation c k bytes)
continuation_whole c k bytes low small fits are = (
  ap (λ n. suc (suc (suc (suc (suc n))))) (length-padded 59 bytes fits),
  bytes-append (to_be_bytes w32 c ++ k ∷ []) (padded 59 bytes)
      (bytes-append (to_be_bytes w32 c) (k ∷ []) (bytes_of_32 c low) (bytes-cons k [] (omega arith) (λ i. omega arith)))
      (bytes-append bytes (replicate (59 - length bytes) 0) are (bytes_zeros (59 - length bytes))),
)

initial_whole : (c cmd len : ℕ) (bytes : List ℕ) → c < 2 ^ 32 → cmd < 128 → len < 2 ^ 16 → length bytes ≤ 57 → AreBytes bytes
    → IsPacket (initial c cmd len bytes)
initial_whole c cmd len bytes low small short fits are = (
  ap (λ n. suc (suc (suc (suc (suc (suc (suc n))))))) (length-padded 57 bytes fits),
  bytes-append (to_be_bytes w32 c ++ (128 + cmd) ∷ to_be_bytes w16 len) (padded 57 bytes)
      (bytes-append (to_be_bytes w32 c) ((128 + cmd) ∷ to_be_bytes w16 len) (bytes_of_32 c low)
      (bytes-cons (128 + cmd) (to_be_bytes w16 len) (omega arith) (bytes_of_16 len short)))
      (bytes-append bytes (replicate (57 - length bytes) 0) are (bytes_zeros (57 - length bytes))),
)

-- the areas of the n continuations from number k on, of a message with its zeros
abbrev areas : List ℕ → ℕ → ℕ → List (List ℕ)
areas l k n = map (λ j. take 59 (drop (57 + 59 * j) l)) (range_with_len k n)

joined_areas : (l : List ℕ) (k n : ℕ) → length l ≡ 57 + 59 * (k + n) → joined (areas l k n) ≡ drop (57 + 59 * k) l
joined_areas l k zero size =
    sym (nil_from_length (drop (57 + 59 * k) l) (let e : length (drop (57 + 59 * k) l) ≡ length l - (57 + 59 * k) = length-drop (57 + 59 * k) l in omega arith))
joined_areas l k (suc n) size =
    ap (λ xs. take 59 (drop (57 + 59 * k) l) ++ xs)
    (joined_areas l (k + 1) n (omega arith) ∙ ap (λ i. drop i l) (omega arith) ∙ sym (drop-drop 59 (57 + 59 * k) l))
    ∙ take-append-drop 59 (drop (57 + 59 * k) l)

padded_length : (m : List ℕ) (r : ℕ) → length (m ++ replicate r 0) ≡ length m + r
padded_length m r = length-append m (replicate r 0) ∙ ap (λ k. length m + k) (length-replicate r 0)

module _ (c cmd : ℕ) (m : List ℕ) (r : ℕ) (low : c < 2 ^ 32) (small : cmd < 128) (room : length m ≤ 7609) (are : AreBytes m)
    (size : 57 + 59 * continuation_count (length m) ≡ length m + r) where
  -- what the continuations say that are left
  later_say : (k n i : ℕ) → i ≡ k + 1 → k + n ≡ continuation_count (length m)
      → map fields (items_from c cmd m i) ≡ continuations c k (areas (m ++ replicate r 0) k n)
  later_say k zero i at left = ap (map fields) (items-none c cmd m i (omega arith))
  later_say k (suc n) i at left =
      let long : 57 + 59 * k + 59 ≤ length m + r = omega arith in
      ap (map fields) (items-more c cmd m i (omega arith))
      ∙ ap (λ p. fields p ∷ map fields (items_from c cmd m (i + 1))) (sym (item_later c cmd m k i at))
      ∙ ap (λ f. f ∷ map fields (items_from c cmd m (i + 1)))
      (continuation_says c k (take 59 (drop (57 + 59 * k) m)) low (omega arith) (take_within 59 (drop (57 + 59 * k) m))
      ∙ ap (Continuation c k) (sym (pad 59 (57 + 59 * k) m r long)))
      ∙ ap (λ fs. Continuation c k (take 59 (drop (57 + 59 * k) (m ++ replicate r 0))) ∷ fs) (later_say (k + 1) n (i + 1) (omega arith) (omega arith))

  later_whole : (k n i : ℕ) → i ≡ k + 1 → k + n ≡ continuation_count (length m) → AllByRecursion IsPacket (items_from c cmd m i)
  later_whole k zero i at left = let A : List Packet → Type 0 = AllByRecursion IsPacket in subst A (sym (items-none c cmd m i (omega arith))) tt
  later_whole k (suc n) i at left =
      let A : List Packet → Type 0 = AllByRecursion IsPacket in
      subst A (sym (items-more c cmd m i (omega arith))) (
        subst (λ p. IsPacket p) (item_later c cmd m k i at)
            (continuation_whole c k (take 59 (drop (57 + 59 * k) m)) low (omega arith) (take_within 59 (drop (57 + 59 * k) m))
            (bytes-take 59 (drop (57 + 59 * k) m) (bytes-drop (57 + 59 * k) m are))),
        later_whole (k + 1) n (i + 1) (omega arith) (omega arith),
      )

  made : ZeroFrames c cmd m (items_from c cmd m 0)
  made =
      let A : List Packet → Type 0 = AllByRecursion IsPacket in
      let long : 0 + 57 ≤ length m + r = omega arith in
      record {
        whole = subst A (sym (items-more c cmd m 0 (omega arith))) (
          subst (λ p. IsPacket p) (item_first c cmd m)
              (initial_whole c cmd (length m) (take 57 m) low small (omega arith) (take_within 57 m) (bytes-take 57 m are)),
          later_whole 0 (continuation_count (length m)) 1 (omega arith) (omega arith),
        );
        frames = record {
          first = take 57 (m ++ replicate r 0);
          later = areas (m ++ replicate r 0) 0 (continuation_count (length m));
          rest = replicate r 0;
          room = room;
          packets = ap (map fields) (items-more c cmd m 0 (omega arith))
              ∙ ap (λ p. fields p ∷ map fields (items_from c cmd m 1)) (sym (item_first c cmd m))
              ∙ ap (λ f. f ∷ map fields (items_from c cmd m 1))
              (initial_says c cmd (length m) (take 57 m) low small (omega arith) (take_within 57 m) ∙ ap (Initial c cmd (length m)) (sym (pad 57 0 m r long)))
              ∙ ap (λ fs. Initial c cmd (length m) (take 57 (m ++ replicate r 0)) ∷ fs)
              (later_say 0 (continuation_count (length m)) 1 (omega arith) (omega arith));
          count = length-map-range_with_len (λ j. take 59 (drop (57 + 59 * j) (m ++ replicate r 0))) 0 (continuation_count (length m));
          begins = ap (λ xs. take 57 (m ++ replicate r 0) ++ xs)
              (joined_areas (m ++ replicate r 0) 0 (continuation_count (length m))
              (padded_length m r ∙ (let e : length m + r ≡ 57 + 59 * (0 + continuation_count (length m)) = omega arith in e)))
              ∙ take-append-drop 57 (m ++ replicate r 0);
        };
        zeros = ap (λ n. replicate n 0) (sym (length-replicate r 0));
      }

-- the items are a zero-filled frame list
pub are_zero_frames : (c cmd : ℕ) (m : List ℕ) → c < 2 ^ 32 → cmd < 128 → length m ≤ 7609 → AreBytes m → ZeroFrames c cmd m (items_from c cmd m 0)
are_zero_frames c cmd m low small room are = made c cmd m (57 + 59 * continuation_count (length m) - length m) low small room are (omega arith)
