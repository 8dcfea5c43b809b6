-- What a seek finds in an index.
use Rattle.std.proofs.Common.{◌≡◌, ◌<◌, ◌^◌, ℕ, pos, Bool, true, false, List, [], ◌∷◌, refl, sym, ap, ◌∙◌, subst, inl, inr, Ordering, Less, Equal, Greater, is_lt, is_gt, true≢false, arith}
use Rattle.std.specs.Prelude.{◌≤◌, IfSome, Option, Some, None}
use Rattle.std.specs.FinMap.{nat_cmp-IsAntisymmetric, slice_cmp-IsAntisymmetric}
use Rattle.std.specs.List.{AllByRecursion}
use Rattle.std.specs.Ordering.{nat_cmp}
use Rattle.std.specs.Cmp.Lexicographic.{slice_cmp, nat_list_cmp_total}
use Rattle.std.proofs.lemmas.Cmp.{tied_itself}
use Rattle.sqlite_value.specs.declared.value.Value.TheVariants.{Int, Blob}
use Rattle.sqlite_value.specs.Order.{Row}
use Rattle.sqlite_value.specs.Keys.{plain, entry_cmp, prefix_cmp}
use Rattle.sqlite_value.proofs.OrderLemmas.{value_cmp-Blob}
use Rattle.sqlite_trees.specs.Tree.{IsIndex, from_key}
use Rattle.sqlite_trees.specs.View.{Advances, View, doubt}
use Rattle.sqlite_trees.proofs.TreeLemmas.{prefix_cmp-one, prefix_cmp_follows}
use Rattle.site_rows.specs.Held.{Stands, entry}
use Rattle.site_rows.specs.Private.{AreEntries}

-- the columns that a seek compares
abbrev prefix : List ℕ → Row
prefix key = Blob key ∷ []

prefix_of : (k : List ℕ) (p : ℕ) (key : List ℕ) → prefix_cmp plain (entry k p) (prefix key) ≡ slice_cmp nat_cmp k key
prefix_of k p key = prefix_cmp-one (Blob k) (Int (pos p) ∷ []) (Blob key) ∙ value_cmp-Blob k key

pub of_key : (key : List ℕ) (p : ℕ) → prefix_cmp plain (entry key p) (prefix key) ≡ Equal
of_key key p = prefix_of key p key ∙ tied_itself nat_list_cmp_total key

pub same_key : (k key : List ℕ) → slice_cmp nat_cmp k key ≡ Equal → k ≡ key
same_key k key e = slice_cmp-IsAntisymmetric nat_cmp-IsAntisymmetric k key e

neither : (o : Ordering) → is_lt o ≡ false → is_gt o ≡ false → o ≡ Equal
neither Less a b = absurd (true≢false a)
neither Equal a b = refl
neither Greater a b = absurd (true≢false b)

pub all_stand : (P : Row → Type 0) (row : Row) (rows : List Row) → AllByRecursion P rows → Stands row rows → P row
all_stand P row [] all stands = absurd stands
all_stand P row (r ∷ rows) all (inl is) = subst P is all.0
all_stand P row (r ∷ rows) all (inr more) = all_stand P row rows all.1 more

-- what a seek gives stands in the index
pub first_stands : (key row : Row) (left es : List Row) → from_key plain key es ≡ row ∷ left → Stands row es
first_stands key row left [] is = absurd cc
first_stands key row left (e ∷ es) is = go (is_lt (prefix_cmp plain e key)) refl (first_stands key row left es)
  where
    go : (b : Bool) → is_lt (prefix_cmp plain e key) ≡ b → (from_key plain key es ≡ row ∷ left → Stands row es) → Stands row (e ∷ es)
    go true t more = inr (more (sym (rw t refl) ∙ is))
    go false t more = let same : e ∷ es ≡ row ∷ left = sym (rw t refl) ∙ is in inl cc

-- the first entry from a key on, where one of that key stands, is of that key
pub record FirstIs (key : List ℕ) (es : List Row) : Type 0 where
  pub place : ℕ
  pub left : List Row
  pub is : from_key plain (prefix key) es ≡ entry key place ∷ left
  pub fits : place < 2 ^ 32

pub first_is : (key : List ℕ) (p : ℕ) (es : List Row) → AreEntries es → IsIndex plain es → Stands (entry key p) es → FirstIs key es
first_is key p [] are up stands = absurd stands
first_is key p (e ∷ es) are up stands = go (is_lt (prefix_cmp plain e (prefix key))) refl stands (first_is key p es are.1 up.1)
  where
    here : is_lt (prefix_cmp plain e (prefix key)) ≡ false → is_gt (prefix_cmp plain e (prefix key)) ≡ false → FirstIs key (e ∷ es)
    here low high =
        let k = are.0.0 in
        let q = are.0.1 in
        let is : e ≡ entry k q = are.0.2 in
        let tied : prefix_cmp plain e (prefix key) ≡ Equal = neither _ low high in
        let same : k ≡ key = same_key k key (sym (prefix_of k q key) ∙ ap (λ x. prefix_cmp plain x (prefix key)) (sym is) ∙ tied) in
        record {
          place = q;
          left = es;
          is = rw low (ap (λ x. x ∷ es) (is ∙ ap (λ x. entry x q) same));
          fits = are.0.3;
        }

    go : (b : Bool) → is_lt (prefix_cmp plain e (prefix key)) ≡ b → Stands (entry key p) (e ∷ es) → (Stands (entry key p) es → FirstIs key es)
        → FirstIs key (e ∷ es)
    go true t (inl is) more =
        absurd (true≢false (sym t ∙ ap (λ x. is_lt (prefix_cmp plain x (prefix key))) is ∙ ap is_lt (of_key key p)))
    go true t (inr behind) more =
        let f = more behind in
        record { place = f.place; left = f.left; is = rw t f.is; fits = f.fits }
    go false t (inl is) more = here t (ap (λ x. is_gt (prefix_cmp plain x (prefix key))) is ∙ ap is_gt (of_key key p))
    go false t (inr behind) more = here t (low (is_gt (prefix_cmp plain e (prefix key))) refl)
      where
        less : entry_cmp plain e (entry key p) ≡ Less
        less = all_stand (λ x. entry_cmp plain e x ≡ Less) (entry key p) es up.0 behind

        low : (b : Bool) → is_gt (prefix_cmp plain e (prefix key)) ≡ b → is_gt (prefix_cmp plain e (prefix key)) ≡ false
        low false g = g
        low true g =
            let over = (prefix_cmp_follows plain (prefix key) e (entry key p) (ap is_gt less)).1 g in
            absurd (true≢false (sym over ∙ ap is_gt (of_key key p)))

-- ---- a step of a cursor

pub clean_before : (a b : Bool) → doubt a ≤ doubt b → doubt b ≡ 0 → doubt a ≡ 0
clean_before a b le clean = omega (arith, le, clean)

pub ended : (old new : View) (cursor : ℕ) (row : Row) (found : Bool) → found ≡ false → Advances old new cursor row found → old.cursors cursor ≡ Some []
ended old new cursor row true e a = absurd (true≢false e)
ended old new cursor row false e a = a.0

pub if_some : {X : Type 0} (o : Option X) (P Q : X → Type 0) → ((x : X) → P x → Q x) → IfSome o P → IfSome o Q
if_some None P Q f h = tt
if_some (Some x) P Q f h = f x h

pub some_of : {X : Type 0} (o : Option X) (x : X) (P : X → Type 0) → o ≡ Some x → IfSome o P → P x
some_of None x P is h = absurd cc
some_of (Some y) x P is h = let same : y ≡ x = cc in subst P same h

same_rows : (xs ys : List Row) → Some xs ≡ Some ys → xs ≡ ys
same_rows xs ys is = cc
