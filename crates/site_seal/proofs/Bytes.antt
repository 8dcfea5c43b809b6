-- Facts on bytes and lists of them.
use Rattle.std.proofs.Common.{◌≡◌, ◌++◌, ◌*◌, ◌<◌, ◌≤◌, ℕ, zero, suc, List, [], ◌∷◌, length, map, get_or, take, drop, refl, sym, ap, ◌∙◌, arith, inl, inr}
use Rattle.std.specs.Prelude.{bit_or, bit_xor}
use Rattle.std.specs.Int.Bits.{xor_add_and}
use Rattle.std.specs.List.{AllByRecursion, concat}
use Rattle.site_seal.specs.Seal.{IsHash}
use Rattle.std.proofs.lemmas.Nat.{and_le_l, and_le_r, le_or_l, le_or_r}
use Rattle.std.proofs.lemmas.List.{append-nil, append_assoc, drop_at, get_or-take, get_or_past, length-append, length-take, take_at}
use Rattle.std.proofs.lemmas.Bool.{cases_lt}

pub same_from_xor : (a b : ℕ) → bit_xor a b ≡ 0 → a ≡ b
same_from_xor a b none = omega (arith, none, xor_add_and a b, and_le_l a b, and_le_r a b)

pub none_from_or : (a b : ℕ) → bit_or a b ≡ 0 → (a ≡ 0) × (b ≡ 0)
none_from_or a b none = (omega (arith, none, le_or_l a b), omega (arith, none, le_or_r a b))

pub concat_push : (xss : List (List ℕ)) (xs : List ℕ) → concat (xss ++ xs ∷ []) ≡ concat xss ++ xs
concat_push [] xs = append-nil xs
concat_push (x ∷ xss) xs = ap (λ l. x ++ l) (concat_push xss xs) ∙ sym (append_assoc x (concat xss) xs)

pub taken_below : (n : ℕ) (xs : List ℕ) → ((i : ℕ) → get_or xs i 0 < 256) → (i : ℕ) → get_or (take n xs) i 0 < 256
taken_below n xs small i = elim (cases_lt i n) [
  | inl near ↦ rw (get_or-take n xs i 0 near) (small i)
  | inr far ↦ rw (get_or_past (take n xs) i 0 (simp length-take (omega arith))) (omega arith)
]

pub tail_below : (x : ℕ) (xs : List ℕ) → ((i : ℕ) → get_or (x ∷ xs) i 0 < 256) → (i : ℕ) → get_or xs i 0 < 256
tail_below x xs small i = small (suc i)

-- the front of a list of seven and more
pub seven : (xs : List ℕ) → 7 ≤ length xs
    → xs ≡ get_or xs 0 0 ∷ get_or xs 1 0 ∷ get_or xs 2 0 ∷ get_or xs 3 0 ∷ get_or xs 4 0 ∷ get_or xs 5 0 ∷ get_or xs 6 0 ∷ drop 7 xs
seven [] long = absurd (omega arith)
seven (a ∷ []) long = absurd (omega arith)
seven (a ∷ b ∷ []) long = absurd (omega arith)
seven (a ∷ b ∷ c ∷ []) long = absurd (omega arith)
seven (a ∷ b ∷ c ∷ d ∷ []) long = absurd (omega arith)
seven (a ∷ b ∷ c ∷ d ∷ e ∷ []) long = absurd (omega arith)
seven (a ∷ b ∷ c ∷ d ∷ e ∷ f ∷ []) long = absurd (omega arith)
seven (a ∷ b ∷ c ∷ d ∷ e ∷ f ∷ g ∷ xs) long = refl

-- what holds of each of a list holds of the one at a place
pub all_at : {X : Type 0} {Y : Type 0} (P : Y → Type 0) (f : X → Y) (xs : List X) (k : ℕ) (d : X) → k < length xs → AllByRecursion P (map f xs)
    → P (f (get_or xs k d))
all_at P f [] k d within all = let bad : k < 0 = within in absurd (omega arith)
all_at P f (x ∷ xs) zero d within all = all.0
all_at P f (x ∷ xs) (suc k) d within all = all_at P f xs k d (omega arith) all.1

-- two lists of which the first parts are of one length are the same part by part
pub joined_same : (a b x y : List ℕ) → length a ≡ length b → a ++ x ≡ b ++ y → (a ≡ b) × (x ≡ y)
joined_same a b x y long same = (
  sym (take_at a x (length b) long) ∙ ap (λ (l : List ℕ). take (length b) l) same ∙ take_at b y (length b) refl,
  sym (drop_at a x (length b) long) ∙ ap (λ (l : List ℕ). drop (length b) l) same ∙ drop_at b y (length b) refl,
)

-- hashes joined
pub length-hashes : (hashes : List (List ℕ)) → AllByRecursion IsHash hashes → length (concat hashes) ≡ 32 * length hashes
length-hashes [] all = refl
length-hashes (h ∷ hashes) all = omega (arith, length-append h (concat hashes), length-hashes hashes all.1, all.0)

pub hashes_same : (a b : List (List ℕ)) → AllByRecursion IsHash a → AllByRecursion IsHash b → concat a ≡ concat b → a ≡ b
hashes_same [] [] p q same = refl
hashes_same [] (y ∷ b) p q same = absurd (omega (arith, length-hashes (y ∷ b) q, ap length same))
hashes_same (x ∷ a) [] p q same = absurd (omega (arith, length-hashes (x ∷ a) p, ap length same))
hashes_same (x ∷ a) (y ∷ b) p q same =
    let parts = joined_same x y (concat a) (concat b) (p.0 ∙ sym q.0) same in
    let rest = hashes_same a b p.1 q.1 parts.1 in
    cc
