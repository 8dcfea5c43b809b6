-- The credentials of a user, by the index of its column.
use Rattle.std.proofs.Common.{◌≡◌, ◌<◌, ℕ, suc, ◌≤◌, length, Bool, true, false, List, [], ◌∷◌, ◌++◌, map, filter, refl, sym, ap, ap₂, ◌∙◌, subst, arith, inl, inr, T, Ordering, Less, Equal, Greater, is_gt, is_lt, true≢false}
use Rattle.std.proofs.lemmas.Grind.{common_steps}
use Rattle.std.proofs.lemmas.List.{length-map}
use Rattle.std.proofs.lemmas.Option.{same_Some}
use Rattle.std.specs.Prelude.{◌⊎◌, ⊤, Some}
use Rattle.std.specs.FinMap as finite
use Rattle.std.specs.FinMap.{entries_sorted, find, get-entries, is_sorted, nat_cmp-IsAntisymmetric}
use Rattle.std.specs.FinMap.Entries.{below_all}
use Rattle.std.specs.List.{AllByRecursion}
use Rattle.std.specs.Ordering.{nat_cmp, ordering_then}
use Rattle.std.specs.Str.{bytes_eq}
use Rattle.std.specs.Cmp.Lexicographic.{bytes_decides}
use Rattle.std.proofs.lemmas.Cmp.{tied_itself}
use Rattle.sqlite_value.specs.declared.value.Value.TheVariants.{Blob}
use Rattle.sqlite_value.specs.Order.{Row}
use Rattle.sqlite_value.specs.Keys.{plain, entry_cmp, prefix_cmp}
use Rattle.sqlite_value.proofs.KeyLemmas.{entry_cmp-plain}
use Rattle.sqlite_value.proofs.OrderLemmas.{value_cmp_total}
use Rattle.sqlite_trees.specs.Tree.{IsAscending, IsIndex, Trees, from_key}
use Rattle.sqlite_trees.proofs.ListLemmas.{all_weaker, ascending-filter, ascending-map, filter-map}
use Rattle.sqlite_trees.proofs.TreeLemmas.{from_key-filter, not_true, prefix_cmp_follows, sorted_index}
use Rattle.verification.specs.Records.{Credential}
use Rattle.site_state.specs.RowViews.{row_view, rows_view}
use Rattle.site_state.specs.declared.row.Row.{Row as StoredRow}
use Rattle.site_rows.specs.Held.{Holds, Placed, Stands, entry, placed_rows, rows_of}
use Rattle.site_rows.specs.Private.{AreEntries, IsPast}
use Rattle.site_rows.proofs.Seeks.{all_stand, first_is, of_key}
use Rattle.site_rows.proofs.Standing.{entries_of, entry_key, entry_place, indexed_there}
use Rattle.site_rows.proofs.Tables.{all_above, by_number, entries_found, first_of, second_of}

-- ---- numbers that rise

abbrev Rises : List ℕ → Type 0
Rises = IsAscending (λ a b. a < b)

abbrev Among : ℕ → List ℕ → Type 0
Among p [] = ⊥
Among p (q ∷ qs) = (q ≡ p) ⊎ Among p qs

all_among : (P : ℕ → Type 0) (p : ℕ) (ps : List ℕ) → AllByRecursion P ps → Among p ps → P p
all_among P p [] all among = absurd among
all_among P p (q ∷ qs) all (inl is) = subst P is all.0
all_among P p (q ∷ qs) all (inr more) = all_among P p qs all.1 more

head_same : (x y : ℕ) (xs ys : List ℕ) → Rises (x ∷ xs) → Rises (y ∷ ys) → Among x (y ∷ ys) → Among y (x ∷ xs) → x ≡ y
head_same x y xs ys rx ry (inl is) back = sym is
head_same x y xs ys rx ry (inr more) (inl is) = is
head_same x y xs ys rx ry (inr more) (inr less) =
    let over : y < x = all_among (λ q. y < q) x ys ry.0 more in
    let under : x < y = all_among (λ q. x < q) y xs rx.0 less in
    absurd (omega (arith, over, under))

behind : (x y p : ℕ) (xs ys : List ℕ) → x ≡ y → Rises (x ∷ xs) → Among p xs → Among p (y ∷ ys) → Among p ys
behind x y p xs ys same rx among (inl is) =
    let over : x < p = all_among (λ q. x < q) p xs rx.0 among in
    absurd (omega (arith, over, same, is))
behind x y p xs ys same rx among (inr more) = more

-- two lists that rise are one where they have the same numbers
same_rising : (xs ys : List ℕ) → Rises xs → Rises ys → ((p : ℕ) → Among p xs → Among p ys) → ((p : ℕ) → Among p ys → Among p xs) → xs ≡ ys
same_rising [] [] rx ry to back = refl
same_rising [] (y ∷ ys) rx ry to back = absurd (back y (inl refl))
same_rising (x ∷ xs) [] rx ry to back = absurd (to x (inl refl))
same_rising (x ∷ xs) (y ∷ ys) rx ry to back =
    let same = head_same x y xs ys rx ry (to x (inl refl)) (back y (inl refl)) in
    ap₂ ◌∷◌ same (same_rising xs ys rx.1 ry.1 (λ p a. behind x y p xs ys same rx a (to p (inr a)))
    (λ p a. behind y x p ys xs (sym same) ry a (back p (inr a))))

-- ---- the entries of one key

abbrev pub entries_at : List ℕ → List ℕ → List Row
entries_at key [] = []
entries_at key (p ∷ ps) = entry key p ∷ entries_at key ps

after : (P : Row → Type 0) (key : List ℕ) (ps : List ℕ) (left : List Row) → AllByRecursion P (entries_at key ps ++ left) → AllByRecursion P left
after P key [] left all = all
after P key (p ∷ ps) left all = after P key ps left all.1

rising_after : (key : List ℕ) (ps : List ℕ) (left : List Row) → IsIndex plain (entries_at key ps ++ left) → IsIndex plain left
rising_after key [] left up = up
rising_after key (p ∷ ps) left up = rising_after key ps left up.1

compared : (key : List ℕ) (p q : ℕ) → entry_cmp plain (entry key p) (entry key q) ≡ ordering_then (nat_cmp p q) Equal
compared key p q = entry_cmp-plain (entry key p) (entry key q) ∙ rw (tied_itself value_cmp_total (Blob key), by_number p q) refl

place_below : (key : List ℕ) (p q : ℕ) → entry_cmp plain (entry key p) (entry key q) ≡ Less → p < q
place_below key p q below = go (nat_cmp p q) refl
  where
    go : (o : Ordering) → nat_cmp p q ≡ o → p < q
    go Less t = grind (arith, common_steps, t)
    go Equal t = let no : Equal ≡ Less = sym (compared key p q ∙ rw t refl) ∙ below in absurd cc
    go Greater t = let no : Greater ≡ Less = sym (compared key p q ∙ rw t refl) ∙ below in absurd cc

places_above : (key : List ℕ) (p : ℕ) (ps : List ℕ) (left : List Row) → AllByRecursion (λ e. entry_cmp plain (entry key p) e ≡ Less) (entries_at key ps ++ left)
    → AllByRecursion (λ q. p < q) ps
places_above key p [] left all = tt
places_above key p (q ∷ ps) left all = (place_below key p q all.0, places_above key p ps left all.1)

places_rise : (key : List ℕ) (ps : List ℕ) (left : List Row) → IsIndex plain (entries_at key ps ++ left) → Rises ps
places_rise key [] left up = tt
places_rise key (p ∷ ps) left up = (places_above key p ps left up.0, places_rise key ps left up.1)

-- what a seek gives is of the index, and has all entries of its key
pub all_from : (P : Row → Type 0) (key : Row) (es : List Row) → AllByRecursion P es → AllByRecursion P (from_key plain key es)
all_from P key [] all = tt
all_from P key (e ∷ es) all = go (is_lt (prefix_cmp plain e key)) refl (all_from P key es all.1)
  where
    go : (b : Bool) → is_lt (prefix_cmp plain e key) ≡ b → AllByRecursion P (from_key plain key es) → AllByRecursion P (from_key plain key (e ∷ es))
    go true t more = rw t more
    go false t more = rw t all

rising_from : (key : Row) (es : List Row) → IsIndex plain es → IsIndex plain (from_key plain key es)
rising_from key es up = rw (from_key-filter plain key es (sorted_index plain es up)) (ascending-filter _ _ es up)

dropped : (key e : Row) (es : List Row) → is_lt (prefix_cmp plain e key) ≡ true → from_key plain key (e ∷ es) ≡ from_key plain key es
dropped key e es t = rw t refl

begun : (key e : Row) (es : List Row) → is_lt (prefix_cmp plain e key) ≡ false → from_key plain key (e ∷ es) ≡ e ∷ es
begun key e es t = rw t refl

stands_from : (key : Row) (row : Row) (es : List Row) → is_lt (prefix_cmp plain row key) ≡ false → Stands row es → Stands row (from_key plain key es)
stands_from key row [] low stands = absurd stands
stands_from key row (e ∷ es) low stands = go (is_lt (prefix_cmp plain e key)) refl stands (stands_from key row es low)
  where
    go : (b : Bool) → is_lt (prefix_cmp plain e key) ≡ b → Stands row (e ∷ es) → (Stands row es → Stands row (from_key plain key es))
        → Stands row (from_key plain key (e ∷ es))
    go true t (inl is) more = absurd (true≢false (sym t ∙ ap (λ x. is_lt (prefix_cmp plain x key)) is ∙ low))
    go true t (inr behind) more = subst (Stands row) (sym (dropped key e es t)) (more behind)
    go false t stands more = subst (Stands row) (sym (begun key e es t)) stands

pub from_stands : (key : Row) (row : Row) (es : List Row) → Stands row (from_key plain key es) → Stands row es
from_stands key row [] stands = absurd stands
from_stands key row (e ∷ es) stands = go (is_lt (prefix_cmp plain e key)) refl (from_stands key row es)
  where
    go : (b : Bool) → is_lt (prefix_cmp plain e key) ≡ b → (Stands row (from_key plain key es) → Stands row es) → Stands row (e ∷ es)
    go true t more = inr (more (subst (Stands row) (dropped key e es t) stands))
    go false t more = subst (Stands row) (begun key e es t) stands

-- where the head of what is left is of another key, none that is left is of the key
head_low : (key : Row) (es : List Row) → IsIndex plain es → AllByRecursion (λ e. is_lt (prefix_cmp plain e key) ≡ false) (from_key plain key es)
head_low key [] up = tt
head_low key (e ∷ es) up = go (is_lt (prefix_cmp plain e key)) refl (head_low key es up.1)
  where
    above : is_lt (prefix_cmp plain e key) ≡ false → (x : Row) → entry_cmp plain e x ≡ Less → is_lt (prefix_cmp plain x key) ≡ false
    above t x below = not_true _ (λ low. true≢false (sym ((prefix_cmp_follows plain key e x (ap is_gt below)).0 low) ∙ t))

    go : (b : Bool) → is_lt (prefix_cmp plain e key) ≡ b → AllByRecursion (λ x. is_lt (prefix_cmp plain x key) ≡ false) (from_key plain key es)
        → AllByRecursion (λ x. is_lt (prefix_cmp plain x key) ≡ false) (from_key plain key (e ∷ es))
    go true t more = subst (AllByRecursion (λ x. is_lt (prefix_cmp plain x key) ≡ false)) (sym (dropped key e es t)) more
    go false t more =
        subst (AllByRecursion (λ x. is_lt (prefix_cmp plain x key) ≡ false)) (sym (begun key e es t))
        (t, all_weaker _ (λ x. is_lt (prefix_cmp plain x key) ≡ false) (above t) es up.0)

past_none : (key : List ℕ) (p : ℕ) (left : List Row) → AreEntries left → IsIndex plain left
    → AllByRecursion (λ e. is_lt (prefix_cmp plain e (Blob key ∷ [])) ≡ false) left → IsPast key left → Stands (entry key p) left → ⊥
past_none key p [] are up low past stands = stands
past_none key p (e ∷ left) are up low past stands =
    let f = first_is key p (e ∷ left) are up stands in
    let is : e ∷ left ≡ entry key f.place ∷ f.left = sym (begun (Blob key ∷ []) e left low.0) ∙ f.is in
    past f.place (first_same e (entry key f.place) left f.left is)
  where
    first_same : (a b : Row) (as_ bs : List Row) → a ∷ as_ ≡ b ∷ bs → a ≡ b
    first_same a b as_ bs is = cc

-- no entry of a key stands where the seek gives none of it
pub none_sought : (key : List ℕ) (p : ℕ) (es : List Row) → AreEntries es → IsIndex plain es → IsPast key (from_key plain (Blob key ∷ []) es)
    → Stands (entry key p) es → ⊥
none_sought key p es are up past stands =
    past_none key p (from_key plain (Blob key ∷ []) es) (all_from _ (Blob key ∷ []) es are) (rising_from (Blob key ∷ []) es up)
    (head_low (Blob key ∷ []) es up) past (stands_from (Blob key ∷ []) (entry key p) es (ap is_lt (of_key key p)) stands)

-- ---- what was read so far

among_stands : (key : List ℕ) (p : ℕ) (ps : List ℕ) (left : List Row) → Among p ps → Stands (entry key p) (entries_at key ps ++ left)
among_stands key p [] left among = absurd among
among_stands key p (q ∷ ps) left (inl is) = inl (ap (entry key) is)
among_stands key p (q ∷ ps) left (inr more) = inr (among_stands key p ps left more)

stands_among : (key : List ℕ) (p : ℕ) (ps : List ℕ) (left : List Row) → (Stands (entry key p) left → ⊥) → Stands (entry key p) (entries_at key ps ++ left) → Among p ps
stands_among key p [] left none stands = absurd (none stands)
stands_among key p (q ∷ ps) left none (inl is) = inl (entry_place key key q p is)
stands_among key p (q ∷ ps) left none (inr more) = inr (stands_among key p ps left none more)

-- the credentials at these places
abbrev pub Reads : Placed → List ℕ → List Credential → Type 0
Reads placed [] [] = ⊤
Reads placed [] (c ∷ cs) = ⊥
Reads placed (p ∷ ps) [] = ⊥
Reads placed (p ∷ ps) (c ∷ cs) = (finite.get placed p ≡ Some c) × Reads placed ps cs

-- the entries of a key from a seek on are those at these places, whose credentials are read, and those that are left
pub record IsReadTo (key : List ℕ) (es table : List Row) (read : List Credential) (left : List Row) : Type 0 where
  pub places : List ℕ
  pub is : from_key plain (Blob key ∷ []) es ≡ entries_at key places ++ left
  pub reads : (placed : Placed) → table ≡ placed_rows placed → Reads placed places read

pub at_first : (key : List ℕ) (es table left : List Row) → left ≡ from_key plain (Blob key ∷ []) es → IsReadTo key es table [] left
at_first key es table left is = record { places = []; is = sym is; reads = λ placed are. tt }

one_more : (key : List ℕ) (ps : List ℕ) (p : ℕ) (more : List Row) → entries_at key ps ++ (entry key p ∷ more) ≡ entries_at key (ps ++ p ∷ []) ++ more
one_more key [] p more = refl
one_more key (q ∷ ps) p more = ap (λ es. entry key q ∷ es) (one_more key ps p more)

reads_more : (placed : Placed) (ps : List ℕ) (cs : List StoredRow) (p : ℕ) (c : StoredRow) → Reads placed ps (rows_view cs) → finite.get placed p ≡ Some (row_view c)
    → Reads placed (ps ++ p ∷ []) (rows_view (cs ++ c ∷ []))
reads_more placed [] [] p c reads there = (there, tt)
reads_more placed [] (d ∷ cs) p c reads there = absurd reads
reads_more placed (q ∷ ps) [] p c reads there = absurd reads
reads_more placed (q ∷ ps) (d ∷ cs) p c reads there = (reads.0, reads_more placed ps cs p c reads.1 there)

pub read_one : (key : List ℕ) (es table left more : List Row) (read : List StoredRow) (p : ℕ) (c : StoredRow) → IsReadTo key es table (rows_view read) left
    → left ≡ entry key p ∷ more → ((placed : Placed) → table ≡ placed_rows placed → finite.get placed p ≡ Some (row_view c))
    → IsReadTo key es table (rows_view (read ++ c ∷ [])) more
read_one key es table left more read p c before is there = record {
  places = before.places ++ p ∷ [];
  is = before.is ∙ ap (λ l. entries_at key before.places ++ l) is ∙ one_more key before.places p more;
  reads = λ placed are. reads_more placed before.places read p c (before.reads placed are) (there placed are);
}

-- ---- all of them, as a list in order of registration

abbrev is_of : List ℕ → ℕ × Credential → Bool
is_of user e = bytes_eq e.1.user user

abbrev places_in : List (ℕ × Credential) → List ℕ
places_in = map (λ e. e.0)

among_of : (p : ℕ) (c : Credential) (user : List ℕ) (es : List (ℕ × Credential)) → c.user ≡ user → find nat_cmp p es ≡ Some c
    → Among p (places_in (filter (is_of user) es))
among_of p c user [] mine is = absurd cc
among_of p c user (e ∷ es) mine is = go (nat_cmp p e.0) refl (bytes_eq e.1.user user) refl (among_of p c user es mine)
  where
    wider : (b : Bool) → is_of user e ≡ b → Among p (places_in (filter (is_of user) es)) → Among p (places_in (filter (is_of user) (e ∷ es)))
    wider true t among = rw t (inr among)
    wider false t among = rw t among

    here : p ≡ e.0 → c ≡ e.1 → Among p (places_in (filter (is_of user) (e ∷ es)))
    here place same =
        let t : is_of user e ≡ true = (bytes_decides e.1.user user).1 (ap (λ (x : Credential). x.user) (sym same) ∙ mine) in
        rw t (inl (sym place))

    go : (o : Ordering) → nat_cmp p e.0 ≡ o → (b : Bool) → is_of user e ≡ b → (find nat_cmp p es ≡ Some c → Among p (places_in (filter (is_of user) es)))
        → Among p (places_in (filter (is_of user) (e ∷ es)))
    go Equal u b t more =
        here (nat_cmp-IsAntisymmetric p e.0 u) (same_Some c e.1 (sym is ∙ rw u refl))
    go Less u b t more = wider b t (more (sym (rw u refl) ∙ is))
    go Greater u b t more = wider b t (more (sym (rw u refl) ∙ is))

abbrev AreOf : Placed → List ℕ → List (ℕ × Credential) → Type 0
AreOf placed user = AllByRecursion (λ e. (finite.get placed e.0 ≡ Some e.1) × (e.1.user ≡ user))

are_of : (placed : Placed) (user : List ℕ) (es : List (ℕ × Credential)) → AllByRecursion (λ e. finite.get placed e.0 ≡ Some e.1) es
    → AreOf placed user (filter (is_of user) es)
are_of placed user [] found = tt
are_of placed user (e ∷ es) found = go (is_of user e) refl (are_of placed user es found.1)
  where
    go : (b : Bool) → is_of user e ≡ b → AreOf placed user (filter (is_of user) es) → AreOf placed user (filter (is_of user) (e ∷ es))
    go true t more = rw t ((found.0, (bytes_decides e.1.user user).0 t), more)
    go false t more = rw t more

of_among : (placed : Placed) (user : List ℕ) (p : ℕ) (es : List (ℕ × Credential)) → AreOf placed user es → Among p (places_in es)
    → (c : Credential) × (finite.get placed p ≡ Some c) × (c.user ≡ user)
of_among placed user p [] are among = absurd among
of_among placed user p (e ∷ es) are (inl is) = (e.1, ap (finite.get placed) (sym is) ∙ are.0.0, are.0.1)
of_among placed user p (e ∷ es) are (inr more) = of_among placed user p es are.1 more

rising_entries : (es : List (ℕ × Credential)) → T (is_sorted nat_cmp es) → IsAscending (λ a b. a.0 < b.0) es
rising_entries [] sorted = tt
rising_entries (e ∷ es) sorted = (
  all_weaker _ (λ x. e.0 < x.0) (λ x le. omega (arith, le)) es (all_above e.0 es (first_of (below_all nat_cmp e.0 es) (is_sorted nat_cmp es) sorted)),
  rising_entries es (second_of (below_all nat_cmp e.0 es) (is_sorted nat_cmp es) sorted),
)

same_read : (placed : Placed) (user : List ℕ) (es : List (ℕ × Credential)) (ps : List ℕ) (cs : List Credential) → AreOf placed user es → places_in es ≡ ps
    → Reads placed ps cs → cs ≡ map (λ e. e.1) es
same_read placed user [] [] [] are same reads = refl
same_read placed user [] [] (c ∷ cs) are same reads = absurd reads
same_read placed user [] (p ∷ ps) cs are same reads = absurd cc
same_read placed user (e ∷ es) [] cs are same reads = absurd cc
same_read placed user (e ∷ es) (p ∷ ps) [] are same reads = absurd reads
same_read placed user (e ∷ es) (p ∷ ps) (c ∷ cs) are same reads =
    let place : e.0 ≡ p = cc in
    let rest : places_in es ≡ ps = cc in
    let mine : c ≡ e.1 = same_Some c e.1 (sym reads.0 ∙ ap (finite.get placed) (sym place) ∙ are.0.0) in
    ap₂ ◌∷◌ mine (same_read placed user es ps cs are.1 rest reads.1)

-- each place that was read is of the user
of_user : (user : List ℕ) (db : Trees) (read : List Credential) (left : List Row) (placed : Placed) → Holds placed db → (to : IsReadTo user (db 4) (db 0) read left)
    → (p : ℕ) → Among p to.places → Among p (places_in (filter (is_of user) (finite.entries placed)))
of_user user db read left placed holds to p among =
    let rest = Blob user ∷ [] in
    let here = from_stands rest (entry user p) (db 4) (subst (Stands (entry user p)) (sym to.is) (among_stands user p to.places left among)) in
    let x = all_stand _ (entry user p) (db 4) holds.by_user.only here in
    let place : p ≡ x.0 = entry_place user x.1.user p x.0 x.3 in
    let owner : x.1.user ≡ user = sym (entry_key user x.1.user p x.0 x.3) in
    among_of p x.1 user (finite.entries placed) owner (sym (get-entries placed p) ∙ ap (finite.get placed) place ∙ x.2)

-- the credentials that were read are those of the user
pub read_all : (user : List ℕ) (db : Trees) (read : List StoredRow) (left : List Row) (placed : Placed) → IsIndex plain (db 4) → Holds placed db
    → IsReadTo user (db 4) (db 0) (rows_view read) left → IsPast user left
    → rows_view read ≡ filter (λ c. bytes_eq c.user user) (rows_of placed)
read_all user db read left placed up holds to past =
    same_read placed user mine to.places (rows_view read) are same_places (to.reads placed holds.table)
    ∙ sym (filter-map (λ c. bytes_eq c.user user) (λ e. e.1) (finite.entries placed))
  where
    mine : List (ℕ × Credential)
    mine = filter (is_of user) (finite.entries placed)

    are : AreOf placed user mine
    are = are_of placed user (finite.entries placed) (entries_found placed)

    of_index : AreEntries (db 4)
    of_index = entries_of (λ c. c.user) placed (db 4) holds.are holds.by_user

    rest : Row
    rest = Blob user ∷ []

    sought_up : IsIndex plain (entries_at user to.places ++ left)
    sought_up = subst (IsIndex plain) to.is (rising_from rest (db 4) up)

    none_left : (p : ℕ) → Stands (entry user p) left → ⊥
    none_left p =
        past_none user p left (after _ user to.places left (subst AreEntries to.is (all_from _ rest (db 4) of_index))) (rising_after user to.places left sought_up)
        (after (λ e. is_lt (prefix_cmp plain e rest) ≡ false) user to.places left (subst (AllByRecursion (λ e. is_lt (prefix_cmp plain e rest) ≡ false)) to.is (head_low rest (db 4) up))) past

    stands : (p : ℕ) → Among p (places_in mine) → Stands (entry user p) (db 4)
    stands p among =
        let x = of_among placed user p mine are among in
        subst (λ k. Stands (entry k p) (db 4)) x.2 (holds.by_user.each p x.0 x.1)

    to_read : (p : ℕ) → Among p (places_in mine) → Among p to.places
    to_read p among =
        stands_among user p to.places left (none_left p)
        (subst (Stands (entry user p)) to.is (stands_from rest (entry user p) (db 4) (ap is_lt (of_key user p)) (stands p among)))

    same_places : places_in mine ≡ to.places
    same_places =
        same_rising (places_in mine) to.places
        (ascending-map _ (λ e. e.0) mine (ascending-filter _ (is_of user) (finite.entries placed) (rising_entries (finite.entries placed) (entries_sorted placed))))
        (places_rise user to.places left sought_up) to_read (of_user user db (rows_view read) left placed holds to)

-- ---- how many were read, and the next one

stands_behind : (row : Row) (key : List ℕ) (ps : List ℕ) (left : List Row) → Stands row left → Stands row (entries_at key ps ++ left)
stands_behind row key [] left stands = stands
stands_behind row key (p ∷ ps) left stands = inr (stands_behind row key ps left stands)

-- a credential stands at the place of the next entry
pub next_there : (user : List ℕ) (db : Trees) (read : List Credential) (left more : List Row) (place : ℕ) (placed : Placed) → Holds placed db
    → IsReadTo user (db 4) (db 0) read left → left ≡ entry user place ∷ more → (c : Credential) × (finite.get placed place ≡ Some c)
next_there user db read left more place placed holds to is =
    let here : Stands (entry user place) left = subst (Stands (entry user place)) (sym is) (inl refl) in
    indexed_there (λ c. c.user) placed user place (db 4) holds.by_user
    (from_stands (Blob user ∷ []) (entry user place) (db 4)
    (subst (Stands (entry user place)) (sym to.is) (stands_behind (entry user place) user to.places left here)))

not_first : (x y p : ℕ) (xs ys : List ℕ) → Rises (x ∷ xs) → Rises (y ∷ ys) → Among x (y ∷ ys) → Among p xs → Among p (y ∷ ys) → Among p ys
not_first x y p xs ys rx ry at among (inr more) = more
not_first x y p xs ys rx ry (inl first) among (inl is) =
    let over : x < p = all_among (λ q. x < q) p xs rx.0 among in
    absurd (omega (arith, over, first, is))
not_first x y p xs ys rx ry (inr later) among (inl is) =
    let over : x < p = all_among (λ q. x < q) p xs rx.0 among in
    let under : y < x = all_among (λ q. y < q) x ys ry.0 later in
    absurd (omega (arith, over, under, is))

no_longer : (xs ys : List ℕ) → Rises xs → Rises ys → ((p : ℕ) → Among p xs → Among p ys) → length xs ≤ length ys
no_longer [] ys rx ry to = omega arith
no_longer (x ∷ xs) [] rx ry to = absurd (to x (inl refl))
no_longer (x ∷ xs) (y ∷ ys) rx ry to =
    let rest = no_longer xs ys rx.1 ry.1 (λ p a. not_first x y p xs ys rx ry (to x (inl refl)) a (to p (inr a))) in
    omega (arith, rest)

reads_each : (placed : Placed) (ps : List ℕ) (cs : List StoredRow) → Reads placed ps (rows_view cs) → length cs ≡ length ps
reads_each placed [] [] reads = refl
reads_each placed [] (c ∷ cs) reads = absurd reads
reads_each placed (p ∷ ps) [] reads = absurd reads
reads_each placed (p ∷ ps) (c ∷ cs) reads = ap suc (reads_each placed ps cs reads.1)

-- no more were read than the user has
pub read_few : (user : List ℕ) (db : Trees) (read : List StoredRow) (left : List Row) (placed : Placed) → IsIndex plain (db 4) → Holds placed db
    → IsReadTo user (db 4) (db 0) (rows_view read) left → length read ≤ length (filter (λ c. bytes_eq c.user user) (rows_of placed))
read_few user db read left placed up holds to =
    let mine = filter (is_of user) (finite.entries placed) in
    let few = no_longer to.places (places_in mine) (places_rise user to.places left (subst (IsIndex plain) to.is (rising_from (Blob user ∷ []) (db 4) up)))
    (ascending-map _ (λ e. e.0) mine (ascending-filter _ (is_of user) (finite.entries placed) (rising_entries (finite.entries placed) (entries_sorted placed))))
    (of_user user db (rows_view read) left placed holds to) in
    let many : length (filter (λ c. bytes_eq c.user user) (rows_of placed)) ≡ length mine =
    ap length (filter-map (λ c. bytes_eq c.user user) (λ e. e.1) (finite.entries placed)) ∙ length-map mine (λ e. e.1) in
    let places : length (places_in mine) ≡ length mine = length-map mine (λ e. e.0) in
    let each = reads_each placed to.places read (to.reads placed holds.table) in
    omega (arith, few, many, places, each)
