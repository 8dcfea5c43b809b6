-- What a look-up says of the pairs, and of the items.
use Rattle.std.proofs.Common.{◌≡◌, ℕ, List, true, false, cond, Some, None, refl, ap, ◌∙◌}
use Rattle.std.proofs.lemmas.Bool.{eqb-true}
use Rattle.std.proofs.lemmas.Slice.Eq.{bytes_eq-Decides}
use Rattle.ccbor.specs.Item.{Item, uint, nint, bytes, text, array, map, Items, no_items, item, Pairs, no_pairs, pair}
use Rattle.ccbor.specs.Access.{is_same_key, split_key, pairs_in, bytes_in, text_in, uint_in, items_in, items_first, is_end}

pub same_key : (a b : Item) → is_same_key a b ≡ true → a ≡ b
same_key (uint n) (uint m) e = ap uint (eqb-true n m e)
same_key (nint n) (nint m) e = ap nint (eqb-true n m e)
same_key (text s) (text t) e = ap text ((bytes_eq-Decides s t).0 e)
same_key _ _ e = absurd cc

pub split_key_takes : (k : Item) (ps : Pairs) (x : Item × Pairs) → split_key k ps ≡ Some x → ps ≡ pair k x.0 x.1
split_key_takes k no_pairs x e = absurd cc
split_key_takes k (pair l v ps) x e =
    elim (is_same_key l k) as (λ b. is_same_key l k ≡ b → cond b (Some (v, ps)) None ≡ Some x → pair l v ps ≡ pair k x.0 x.1) [
      | true ↦ λ t s. let both : (v, ps) ≡ x = cc in let same = same_key l k t in
          ap (λ (i : Item). pair i v ps) same ∙ ap (λ (y : Item × Pairs). pair k y.0 y.1) both
      | false ↦ λ t s. absurd cc
    ] refl e

pub pairs_in_is : (x : Item) (ps : Pairs) → pairs_in x ≡ Some ps → x ≡ map ps
pairs_in_is (map qs) ps e = cc
pairs_in_is _ ps e = absurd cc

pub bytes_in_is : (x : Item) (bs : List ℕ) → bytes_in x ≡ Some bs → x ≡ bytes bs
bytes_in_is (bytes cs) bs e = cc
bytes_in_is _ bs e = absurd cc

pub text_in_is : (x : Item) (bs : List ℕ) → text_in x ≡ Some bs → x ≡ text bs
text_in_is (text cs) bs e = cc
text_in_is _ bs e = absurd cc

pub uint_in_is : (x : Item) (n : ℕ) → uint_in x ≡ Some n → x ≡ uint n
uint_in_is (uint m) n e = cc
uint_in_is _ n e = absurd cc

pub items_in_is : (x : Item) (xs : Items) → items_in x ≡ Some xs → x ≡ array xs
items_in_is (array ys) xs e = cc
items_in_is _ xs e = absurd cc

pub first_is : (xs : Items) (x : Item) (rest : Items) → items_first xs ≡ Some (x, rest) → xs ≡ item x rest
first_is no_items x rest e = absurd cc
first_is (item y ys) x rest e = let both : (y, ys) ≡ (x, rest) = cc in ap (λ (p : Item × Items). item p.0 p.1) both

pub none_is : (xs : Items) → items_first xs ≡ None → xs ≡ no_items
none_is no_items e = refl
none_is (item y ys) e = absurd cc

pub end_is : (ps : Pairs) → is_end ps ≡ true → ps ≡ no_pairs
end_is no_pairs e = refl
end_is (pair k v ps) e = absurd cc
