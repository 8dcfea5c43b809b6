-- What an opener has heard of its packets.
use Rattle.std.proofs.Common.{◌≡◌, ℕ, ◌≤◌, List, [], ◌∷◌, ◌++◌, length, refl, ◌∙◌, ap, arith, append_assoc}
use Rattle.std.specs.Prelude.{Option, None, Some, MatchOption, slice_get}
use Rattle.std.specs.List.{AllByRecursion}
use Rattle.hidframe.specs.declared.Packet.{Packet}
use Rattle.hidframe.specs.Pieces.{item, items_from}
use Rattle.hidframe.proofs.Items.{get-items, items-more, items-none}
use Rattle.hidlink.specs.Opens.{Heard, IsInitResponse, IsNoInitResponse}

-- after the first response nothing changes
pub heard_more : (nonce : List ℕ) (ps : List Packet) (p : Packet) (c : ℕ) → Heard nonce ps (Some c) → Heard nonce (ps ++ p ∷ []) (Some c)
heard_more nonce ps p c o = record {
  before = o.before;
  response = o.response;
  after = o.after ++ p ∷ [];
  split = ap (λ qs. qs ++ p ∷ []) o.split ∙ append_assoc o.before (o.response ∷ o.after) (p ∷ []);
  first = o.first;
  assigns = o.assigns;
}

none_more : (nonce : List ℕ) (ps : List Packet) (p : Packet) → AllByRecursion (IsNoInitResponse nonce) ps → IsNoInitResponse nonce p
    → AllByRecursion (IsNoInitResponse nonce) (ps ++ p ∷ [])
none_more nonce [] p h k = (k, tt)
none_more nonce (q ∷ ps) p h k = (h.0, none_more nonce ps p h.1 k)

-- before it the packet decides
pub heard_now : (nonce : List ℕ) (ps : List Packet) (p : Packet) (r : Option ℕ) → MatchOption r (IsNoInitResponse nonce p) (λ c. IsInitResponse nonce p c)
    → Heard nonce ps None → Heard nonce (ps ++ p ∷ []) r
heard_now nonce ps p None k h = none_more nonce ps p h k
heard_now nonce ps p (Some c) k h = record { before = ps; response = p; after = []; split = refl; first = h; assigns = k }

-- a payload that fits into one packet
pub first_packet_is : (c cmd : ℕ) (m : List ℕ) (r : Option Packet) → r ≡ slice_get (items_from c cmd m 0) 0 → r ≡ Some (item c cmd m 0)
first_packet_is c cmd m r e = e ∙ get-items c cmd m 0 (omega arith)

pub one_packet : (c cmd : ℕ) (m : List ℕ) → length m ≤ 57 → items_from c cmd m 0 ≡ item c cmd m 0 ∷ []
one_packet c cmd m h = items-more c cmd m 0 (omega arith) ∙ ap (λ ps. item c cmd m 0 ∷ ps) (items-none c cmd m 1 (omega arith))
