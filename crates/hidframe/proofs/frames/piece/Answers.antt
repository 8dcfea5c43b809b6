-- What is owed of `piece`.
use Rattle.std.proofs.Common.{◌≡◌, ◌<◌, ◌+◌, ◌*◌, ◌-◌, ◌∷◌, ℕ, length, take, drop, ap, sym, ◌∙◌, arith, suc, zero, List, min}
use Rattle.std.specs.Prelude.{Some, slice_get}
use Rattle.std.proofs.lemmas.List.{take_min, length-drop}
use Rattle.hidframe.specs.declared.Packet.{Packet}
use Rattle.hidframe.specs.Pieces.{continuation, initial, item, items_from, packet_count}
use Rattle.hidframe.proofs.Items.{get-items, get-items-past, items-more, items-none}
use Rattle.hidframe.proofs.frames.piece.Goals as goal

-- the first packet and a later one are the items
first_item : (cid cmd i n : ℕ) (m : List ℕ) (p : Packet) → i ≡ 0 → n ≡ min (length m) 57 → p ≡ initial cid cmd (length m) (take n m) → p ≡ item cid cmd m i
unfolding item
first_item cid cmd i n m p e size is =
    let least : n ≡ min 57 (length m) = omega arith in
    is ∙ ap (λ k. initial cid cmd (length m) (take k m)) least ∙ ap (initial cid cmd (length m)) (take_min 57 m) ∙ sym (ap (item cid cmd m) e)

later_item : (cid cmd i n : ℕ) (m : List ℕ) (p : Packet) → (i ≡ 0 → ⊥) → n ≡ min (length m) (57 + 59 * (i - 1) + 59)
    → p ≡ continuation cid (i - 1) (take (n - (57 + 59 * (i - 1))) (drop (57 + 59 * (i - 1)) m)) → p ≡ item cid cmd m i
unfolding item
later_item cid cmd zero n m p e size is = absurd (omega arith)
later_item cid cmd (suc k) n m p e size is =
    let before : suc k - 1 ≡ k = omega arith in
    let rest : length (drop (57 + 59 * k) m) ≡ length m - (57 + 59 * k) = length-drop (57 + 59 * k) m in
    let least : n - (57 + 59 * k) ≡ min 59 (length (drop (57 + 59 * k) m)) = omega arith in
    is ∙ ap (λ j. continuation cid j (take (n - (57 + 59 * j)) (drop (57 + 59 * j) m))) before
    ∙ ap (λ j. continuation cid k (take j (drop (57 + 59 * k) m))) least
    ∙ ap (continuation cid k) (take_min 59 (drop (57 + 59 * k) m))

-- item i of the list, with those after it
found_item : (cid cmd : ℕ) (m : List ℕ) (i : ℕ) (p : Packet) → p ≡ item cid cmd m i → i < packet_count (length m)
    → (Some p ≡ slice_get (items_from cid cmd m 0) i) × (items_from cid cmd m i ≡ p ∷ items_from cid cmd m (i + 1))
found_item cid cmd m i p is h =
    (ap Some is ∙ sym (get-items cid cmd m i h), items-more cid cmd m i h ∙ ap (λ q. q ∷ items_from cid cmd m (i + 1)) (sym is))

pub returns-then-i-eq0 : goal.returns-then-i-eq0
returns-then-i-eq0 c =
    let is : c.initial_packet.result ≡ item c.args.cid c.args.cmd c.args.payload.now c.args.i =
    first_item c.args.cid c.args.cmd c.args.i c.min.result c.args.payload.now c.initial_packet.result c.if-i-eq0.true c.min.ensures c.initial_packet.ensures in
    let found = found_item c.args.cid c.args.cmd c.args.payload.now c.args.i c.initial_packet.result is (omega arith) in
    record {
      at = found.0;
      goes = (omega arith, found.1);
    }

pub returns-then-i-div_ceil : goal.returns-then-i-div_ceil
returns-then-i-div_ceil c = record {
  at = sym (get-items-past c.args.cid c.args.cmd c.args.payload.now c.args.i (omega arith));
  goes = items-none c.args.cid c.args.cmd c.args.payload.now c.args.i (omega arith);
}

pub returns : goal.returns
returns c =
    let is : c.continuation_packet.result ≡ item c.args.cid c.args.cmd c.args.payload.now c.args.i =
    later_item c.args.cid c.args.cmd c.args.i c.min-end.result c.args.payload.now c.continuation_packet.result c.if-i-eq0.false c.min-end.ensures
    c.continuation_packet.ensures in
    let found = found_item c.args.cid c.args.cmd c.args.payload.now c.args.i c.continuation_packet.result is (omega arith) in
    record {
      at = found.0;
      goes = (omega arith, found.1);
    }
