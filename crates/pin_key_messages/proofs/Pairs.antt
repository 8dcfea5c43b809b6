-- The pairs of a map but those of two keys.
use Rattle.std.proofs.Common.{◌≡◌, ◌++◌, ℕ, Bool, true, false, ◌||◌, List, [], ◌∷◌, refl, sym, ap, ◌∙◌, cond}
use Rattle.std.proofs.Common.{Some, None, inl, inr}
use Rattle.ctap_encoding.specs.declared.error.Error.{Error}
use Rattle.ctap_encoding.specs.declared.error.Error.TheVariants as errors
use Rattle.std.proofs.lemmas.Option.{same_Some}
use Rattle.ccbor.specs.Access.{is_same_key, pairs_first}
use Rattle.ccbor.specs.Item.{Item, Pairs, no_pairs, pair, uint}
use Rattle.pin_client_messages.proofs.Building.{onto}
use Rattle.pin_key_messages.specs.Pieces.{RefusedOwned, kept_pair}
use Rattle.pin_key_messages.specs.Protected.{IsUnprotected, RefusedPart, without}

onto_append : (s t : List (Item × Item)) (ps : Pairs) → onto (s ++ t) ps ≡ onto s (onto t ps)
onto_append [] t ps = refl
onto_append (p ∷ s) t ps = ap (pair p.0 p.1) (onto_append s t ps)

kept_first : (b : Bool) (k v : Item) (ps : Pairs) → onto (cond b [] ((k, v) ∷ [])) ps ≡ cond b ps (pair k v ps)
kept_first true k v ps = refl
kept_first false k v ps = refl

pub first_is : (ps : Pairs) (k v : Item) (rest : Pairs) → Some (k, v, rest) ≡ pairs_first ps → ps ≡ pair k v rest
first_is (pair l w qs) k v rest e = sym (ap (λ (t : Item × Item × Pairs). pair t.0 t.1 t.2) (same_Some (k, v, rest) (l, w, qs) e))
first_is no_pairs k v rest e = absurd cc

pub none_is : (ps : Pairs) → None ≡ pairs_first ps → ps ≡ no_pairs
none_is no_pairs e = refl
none_is (pair l w qs) e = absurd cc

-- a pair was taken from those that are left, and kept or not
pub taken : (m n : ℕ) (s t : List (Item × Item)) (k v : Item) (left rest all : Pairs) → left ≡ pair k v rest
    → t ≡ s ++ kept_pair m n k v → onto s (without m n left) ≡ all → onto t (without m n rest) ≡ all
taken m n s t k v left rest all is kept before =
    rw (kept) (onto_append s (kept_pair m n k v) (without m n rest)
    ∙ ap (onto s) (kept_first (is_same_key k (uint m) || is_same_key k (uint n)) k v (without m n rest)
    ∙ sym (ap (without m n) is)) ∙ before)

-- what is refused of the bare request
pub no_part : (bs bare : List ℕ) → IsUnprotected bs bare → (e : Error) → RefusedOwned bare e → RefusedPart bs e
no_part bs bare is errors.Memory h = tt
no_part bs bare is (errors.Status s) (inl h) = inl h
no_part bs bare is (errors.Status s) (inr h) = inr (inr (inr (bare, is, h)))
no_part bs bare is _ h = absurd h
