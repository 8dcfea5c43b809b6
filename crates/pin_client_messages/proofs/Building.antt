-- The pairs of a map that is made member by member, some of which may be absent.
use Rattle.std.proofs.Common.{◌≡◌, ◌++◌, ℕ, false, List, [], ◌∷◌, Option, Some, None, option_map, refl, ap, ◌∙◌, rules}
use Rattle.ccbor.specs.Item.{Item, Pairs, no_pairs, pair, uint}
use Rattle.ccbor.specs.View.{pairs_of, view}
use Rattle.ccbor.specs.declared.value.Value.{Uint, the_lemmas}
use Rattle.ctap_encoding.specs.Building.{member_list}
use Rattle.ctap_encoding.specs.Content.{member_pair}

-- these pairs in front of others
abbrev pub onto : List (Item × Item) → Pairs → Pairs
onto [] ps = ps
onto (p ∷ s) ps = pair p.0 p.1 (onto s ps)

onto_append : (s t : List (Item × Item)) (ps : Pairs) → onto (s ++ t) ps ≡ onto s (onto t ps)
onto_append [] t ps = refl
onto_append (p ∷ s) t ps = ap (pair p.0 p.1) (onto_append s t ps)

pub all_pairs : (s : List (Item × Item)) → pairs_of s ≡ onto s no_pairs
all_pairs [] = refl
all_pairs (p ∷ s) = ap (pair p.0 p.1) (all_pairs s)

-- the last member pushed is the first in front of the others
pub pushed : (s t : List (Item × Item)) (k v x : Item) (ps : Pairs) → t ≡ s ++ ((k, v) ∷ []) → v ≡ x → onto t ps ≡ onto s (pair k x ps)
pushed s t k v x ps e f = rw (e, f) (onto_append s ((k, x) ∷ []) ps)

there : {A : Type 0} (f : A → Item) (a : Option A) (k : Item) (ps : Pairs) → onto (member_list k (option_map f a)) ps ≡ member_pair false k f a ps
there f (Some a) k ps = refl
there f None k ps = refl

pub pushed_if_there : {A : Type 0} (f : A → Item) (a : Option A) (s t : List (Item × Item)) (k : Item) (o : Option Item) (ps : Pairs) → t ≡ s ++ member_list k o
    → o ≡ option_map f a → onto t ps ≡ onto s (member_pair false k f a ps)
pushed_if_there f a s t k o ps e h = rw (e, h) (onto_append s (member_list k (option_map f a)) ps ∙ ap (onto s) (there f a k ps))

pub none_pushed : (s : List (Item × Item)) (ps : Pairs) → s ≡ [] → onto s ps ≡ ps
none_pushed s ps e = rw e refl

pub view-Uint : (n : ℕ) → view (Uint n) ≡ uint n
view-Uint n = search (rules, the_lemmas)
