-- Byte strings, read one after the other.
use Rattle.std.proofs.Common.{◌≡◌, ◌↔◌, ℕ, ◌+◌, ◌<◌, ◌≤◌, List, [], ◌∷◌, ◌++◌, length, map, take, drop, None, Some, Bor, suc, get_or, drop-cons, refl, sym, ap, ◌∙◌, arith}
use Rattle.std.proofs.lemmas.List.{append_cancel_left, length-map, length-take-le}
use Rattle.ccbor.specs.Access.{bytes_in}
use Rattle.ccbor.specs.Item.{Item, Items, array, bytes, no_items, item}
use Rattle.attestation.specs.Statements.{byte_strings, x5c_item, AreCertificates}
use Rattle.attestation.specs.Walks.{behind, parts_bytes}

pub behind_end : (cs : List (List ℕ)) → behind cs no_items ≡ byte_strings cs
behind_end [] = refl
behind_end (c ∷ cs) = ap (item (bytes c)) (behind_end cs)

pub behind_more : (cs : List (List ℕ)) (c : List ℕ) (xs : Items) → behind (cs ++ c ∷ []) xs ≡ behind cs (item (bytes c) xs)
behind_more [] c xs = refl
behind_more (d ∷ cs) c xs = ap (item (bytes d)) (behind_more cs c xs)

-- the front of a list of byte strings
pub behind_longer : (front cs : List (List ℕ)) (x : Item) (xs : Items) → behind front (item x xs) ≡ byte_strings cs → length front < length cs
behind_longer [] [] x xs e = absurd cc
behind_longer [] (c ∷ cs) x xs e = omega arith
behind_longer (f ∷ front) [] x xs e = absurd cc
behind_longer (f ∷ front) (c ∷ cs) x xs e =
    let tail : behind front (item x xs) ≡ byte_strings cs = cc in
    let less = behind_longer front cs x xs tail in
    omega (arith, less)

pub behind_bytes : (front cs : List (List ℕ)) (x : Item) (xs : Items) → behind front (item x xs) ≡ byte_strings cs → (c : List ℕ) × (x ≡ bytes c)
behind_bytes [] [] x xs e = absurd cc
behind_bytes [] (c ∷ cs) x xs e = (c, cc)
behind_bytes (f ∷ front) [] x xs e = absurd cc
behind_bytes (f ∷ front) (c ∷ cs) x xs e =
    let tail : behind front (item x xs) ≡ byte_strings cs = cc in
    behind_bytes front cs x xs tail

-- ---- an array of certificates

pub front_length : (n : ℕ) (list : List (Bor (List ℕ))) → n ≤ length list → length (map (λ b. b.now) (take n list)) ≡ n
front_length n list le = length-map (take n list) (λ (b : Bor (List ℕ)). b.now) ∙ length-take-le n list le

inner : (front cs : List (List ℕ)) (xs : Items) → array (behind front xs) ≡ x5c_item cs → behind front xs ≡ byte_strings cs
inner front cs xs e = cc

-- another item after eight
pub full : (v : Item) (front cs : List (List ℕ)) (x : Item) (xs : Items) → v ≡ array (behind front (item x xs)) → length front ≡ 8
    → AreCertificates cs → v ≡ x5c_item cs → ⊥
full v front cs x xs at len are e =
    let longer = behind_longer front cs x xs (inner front cs (item x xs) (sym at ∙ e)) in
    let limit = are.limit in
    absurd (omega (arith, longer, len, limit))

-- an item that is no byte string
pub not_bytes : (v : Item) (front cs : List (List ℕ)) (x : Item) (xs : Items) → v ≡ array (behind front (item x xs)) → None ≡ bytes_in x
    → v ≡ x5c_item cs → ⊥
not_bytes v front cs x xs at none e =
    let b = behind_bytes front cs x xs (inner front cs (item x xs) (sym at ∙ e)) in
    let bad : None ≡ Some b.0 = none ∙ ap bytes_in b.1 in
    absurd cc

-- no item
pub empty : (v : Item) (front cs : List (List ℕ)) (xs : Items) → v ≡ array (behind front xs) → xs ≡ no_items → length front ≡ 0 → AreCertificates cs
    → v ≡ x5c_item cs → ⊥
empty v [] [] xs at none len are e = let some = are.some in absurd (omega (arith, some))
empty v [] (c ∷ cs) xs at none len are e =
    let bad : no_items ≡ item (bytes c) (byte_strings cs) = sym none ∙ inner [] (c ∷ cs) xs (sym at ∙ e) in
    absurd cc
empty v (f ∷ front) cs xs at none len are e = absurd (omega (arith, len))

-- ---- parts

pub drop_next : (l : List (Bor (List ℕ))) (i : ℕ) (d : Bor (List ℕ)) → i < length l → drop i l ≡ get_or l i d ∷ drop (i + 1) l
drop_next l i d lt = let e : suc i ≡ i + 1 = omega arith in drop-cons l i d lt ∙ ap (λ (n : ℕ). get_or l i d ∷ drop n l) e

pub part_more : (bs rest more : List ℕ) (parts : List (Bor (List ℕ))) (i : ℕ) (p : Bor (List ℕ)) → drop i parts ≡ p ∷ drop (i + 1) parts
    → rest ≡ p.now ++ more → (bs ≡ parts_bytes parts) ↔ (rest ≡ parts_bytes (drop i parts))
    → (bs ≡ parts_bytes parts) ↔ (more ≡ parts_bytes (drop (i + 1) parts))
part_more bs rest more parts i p next is so =
    let unfolded : parts_bytes (drop i parts) ≡ p.now ++ parts_bytes (drop (i + 1) parts) = ap parts_bytes next in (
      λ e. append_cancel_left p.now more (parts_bytes (drop (i + 1) parts)) (sym is ∙ so.0 e ∙ unfolded),
      λ e. so.1 (is ∙ ap (λ (l : List ℕ). p.now ++ l) e ∙ sym unfolded),
    )
