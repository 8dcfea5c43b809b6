-- What a write makes of the credentials that a store holds.
use Rattle.std.proofs.Common.{◌≡◌, ◌<◌, ◌^◌, ℕ, pos, Bool, true, false, not, cond, List, [], ◌∷◌, refl, sym, ap, ◌∙◌, subst, arith, inl, inr, Ordering, Less, Equal, Greater, is_eq, true≢false}
use Rattle.std.proofs.lemmas.Grind.{common_steps}
use Rattle.std.proofs.lemmas.Option.{same_Some}
use Rattle.std.specs.Prelude.{Some, None, ◌⊎◌}
use Rattle.std.specs.FinMap as finite
use Rattle.std.specs.FinMap.{get-insert, get-remove, nat_cmp-IsAntisymmetric}
use Rattle.std.specs.List.{AllByRecursion}
use Rattle.std.specs.Ordering.{nat_cmp, eq_by_cmp, match_ordering}
use Rattle.std.specs.Cmp.{nat_cmp_total}
use Rattle.std.proofs.lemmas.Cmp.{tied_itself}
use Rattle.sqlite_value.specs.declared.value.Value.TheVariants.{Int, Blob}
use Rattle.sqlite_value.specs.Order.{Row, value_cmp}
use Rattle.sqlite_value.specs.Keys.{plain, entry_cmp}
use Rattle.sqlite_value.proofs.KeyLemmas.{entry_cmp-plain, entry_cmp_total, then_tied}
use Rattle.sqlite_value.proofs.OrderLemmas.{value_cmp-Blob}
use Rattle.sqlite_trees.specs.Tree.{insert_entry, remove_entry}
use Rattle.sqlite_trees.proofs.ListLemmas.{all_weaker}
use Rattle.verification.specs.Records.{Credential}
use Rattle.site_rows.specs.Rows.{IsStored}
use Rattle.site_rows.specs.Held.{ArePlaced, HasNone, Indexes, Placed, Stands, entry}
use Rattle.site_rows.proofs.Seeks.{same_key}
use Rattle.site_rows.proofs.Tables.{by_number}

-- ---- entries of an index

-- two entries that the index does not tell apart are one
tied_entries : (k l : List ℕ) (p q : ℕ) → entry_cmp plain (entry k p) (entry l q) ≡ Equal → (k ≡ l) × (p ≡ q)
tied_entries k l p q e =
    let both = then_tied (value_cmp (Blob k) (Blob l)) _ (sym (entry_cmp-plain (entry k p) (entry l q)) ∙ e) in
    let more = then_tied (value_cmp (Int (pos p)) (Int (pos q))) _ both.1 in
    (same_key k l (sym (value_cmp-Blob k l) ∙ both.0), nat_cmp-IsAntisymmetric p q (sym (by_number p q) ∙ more.0))

abbrev IsEntryOf : (Credential → List ℕ) → Placed → Row → Type 0
IsEntryOf column placed e = (place : ℕ) × (c : Credential) × (finite.get placed place ≡ Some c) × (e ≡ entry (column c) place)

all_inserted : (P : Row → Type 0) (new : Row) (es : List Row) → P new → AllByRecursion P es → AllByRecursion P (insert_entry plain new es)
all_inserted P new [] h all = (h, tt)
all_inserted P new (e ∷ es) h all =
    elim (entry_cmp plain e new) as (λ o. AllByRecursion P (match_ordering o (e ∷ insert_entry plain new es) (e ∷ es) (new ∷ e ∷ es)))
    [ Less ↦ (all.0, all_inserted P new es h all.1) | Equal ↦ all | Greater ↦ (h, all) ]

kept_entry : (row new : Row) (es : List Row) → Stands row es → Stands row (insert_entry plain new es)
kept_entry row new [] stands = absurd stands
kept_entry row new (e ∷ es) stands = go (entry_cmp plain e new) stands (kept_entry row new es)
  where
    go : (o : Ordering) → Stands row (e ∷ es) → (Stands row es → Stands row (insert_entry plain new es))
        → Stands row (match_ordering o (e ∷ insert_entry plain new es) (e ∷ es) (new ∷ e ∷ es))
    go Less (inl is) more = inl is
    go Less (inr rest) more = inr (more rest)
    go Equal s more = s
    go Greater s more = inr s

new_entry : (column : Credential → List ℕ) (placed : Placed) (key : List ℕ) (place : ℕ) (es : List Row) → finite.get placed place ≡ None
    → AllByRecursion (IsEntryOf column placed) es → Stands (entry key place) (insert_entry plain (entry key place) es)
new_entry column placed key place [] fresh only = inl refl
new_entry column placed key place (e ∷ es) fresh only = go (entry_cmp plain e (entry key place)) refl (new_entry column placed key place es fresh only.1)
  where
    go : (o : Ordering) → entry_cmp plain e (entry key place) ≡ o → Stands (entry key place) (insert_entry plain (entry key place) es)
        → Stands (entry key place) (match_ordering o (e ∷ insert_entry plain (entry key place) es) (e ∷ es) (entry key place ∷ e ∷ es))
    go Less t more = inr more
    go Equal t more =
        let p = only.0.0 in
        let c = only.0.1 in
        let there = only.0.2 in
        let is = only.0.3 in
        let same = (tied_entries (column c) key p place (ap (λ x. entry_cmp plain x (entry key place)) (sym is) ∙ t)).1 in
        absurd (no_credential c (sym there ∙ ap (finite.get placed) same ∙ fresh))
      where
        no_credential : (c : Credential) → Some c ≡ None → ⊥
        no_credential c is = absurd cc
    go Greater t more = inl refl

-- ---- maps

at : (m : Placed) (p : ℕ) (c : Credential) (q : ℕ) → (eq_by_cmp nat_cmp q p ≡ true) ⊎ (eq_by_cmp nat_cmp q p ≡ false)
at m p c q = go (eq_by_cmp nat_cmp q p) refl
  where
    go : (b : Bool) → eq_by_cmp nat_cmp q p ≡ b → (eq_by_cmp nat_cmp q p ≡ true) ⊎ (eq_by_cmp nat_cmp q p ≡ false)
    go true t = inl t
    go false t = inr t

same_place : (q p : ℕ) → eq_by_cmp nat_cmp q p ≡ true → q ≡ p
same_place q p t = grind (arith, common_steps, t)

inserted : (m : Placed) (p : ℕ) (c : Credential) (q : ℕ) → eq_by_cmp nat_cmp q p ≡ true → finite.get (finite.insert m p c) q ≡ Some c
inserted m p c q t = get-insert nat_cmp_total m p c q ∙ ap (λ b. cond b (Some c) (finite.get m q)) t

stayed : (m : Placed) (p : ℕ) (c : Credential) (q : ℕ) → eq_by_cmp nat_cmp q p ≡ false → finite.get (finite.insert m p c) q ≡ finite.get m q
stayed m p c q t = get-insert nat_cmp_total m p c q ∙ ap (λ b. cond b (Some c) (finite.get m q)) t

-- what stands in a map after an insertion is what was inserted, or what stood
pub data IsInserted (m : Placed) (p : ℕ) (c : Credential) (q : ℕ) (d : Credential) : Type 0 where
  New : q ≡ p → d ≡ c → IsInserted m p c q d
  Old : eq_by_cmp nat_cmp q p ≡ false → finite.get m q ≡ Some d → IsInserted m p c q d

pub is_inserted : (m : Placed) (p : ℕ) (c : Credential) (q : ℕ) (d : Credential) → finite.get (finite.insert m p c) q ≡ Some d → IsInserted m p c q d
is_inserted m p c q d there = go (at m p c q)
  where
    go : (eq_by_cmp nat_cmp q p ≡ true) ⊎ (eq_by_cmp nat_cmp q p ≡ false) → IsInserted m p c q d
    go (inl t) = New (same_place q p t) (sym (same_Some c d (sym (inserted m p c q t) ∙ there)))
    go (inr t) = Old t (sym (stayed m p c q t) ∙ there)

fresh_stays : (m : Placed) (p : ℕ) (c : Credential) (q : ℕ) (d : Credential) → finite.get m p ≡ None → finite.get m q ≡ Some d
    → finite.get (finite.insert m p c) q ≡ Some d
fresh_stays m p c q d fresh there = go (at m p c q)
  where
    no_credential : Some d ≡ None → ⊥
    no_credential is = absurd cc

    go : (eq_by_cmp nat_cmp q p ≡ true) ⊎ (eq_by_cmp nat_cmp q p ≡ false) → finite.get (finite.insert m p c) q ≡ Some d
    go (inl t) = absurd (no_credential (sym there ∙ ap (finite.get m) (same_place q p t) ∙ fresh))
    go (inr t) = stayed m p c q t ∙ there

-- ---- one more credential

pub indexes_added : (column : Credential → List ℕ) (m : Placed) (p : ℕ) (c : Credential) (es : List Row) → finite.get m p ≡ None
    → Indexes column m es → Indexes column (finite.insert m p c) (insert_entry plain (entry (column c) p) es)
indexes_added column m p c es fresh i = record {
  each = λ q d there. go q d (is_inserted m p c q d there);
  only = all_inserted (IsEntryOf column (finite.insert m p c)) (entry (column c) p) es
      (p, c, inserted m p c p (grind (arith, common_steps)), refl)
      (all_weaker (IsEntryOf column m) (IsEntryOf column (finite.insert m p c)) (λ e x. (x.0, x.1, fresh_stays m p c x.0 x.1 fresh x.2, x.3)) es i.only);
}
  where
    go : (q : ℕ) (d : Credential) → IsInserted m p c q d → Stands (entry (column d) q) (insert_entry plain (entry (column c) p) es)
    go q d (New place is) =
        subst (λ x. Stands (entry (column x) q) (insert_entry plain (entry (column c) p) es)) (sym is)
        (subst (λ k. Stands (entry (column c) k) (insert_entry plain (entry (column c) p) es)) (sym place)
        (new_entry column m (column c) p es fresh i.only))
    go q d (Old t there) = kept_entry (entry (column d) q) (entry (column c) p) es (i.each q d there)

pub placed_added : (m : Placed) (p : ℕ) (c : Credential) → p < 2 ^ 32 → IsStored c → HasNone m c.id → ArePlaced m → ArePlaced (finite.insert m p c)
placed_added m p c fits stored none are = record {
  own = λ q r d e x y same. own q r d e (is_inserted m p c q d x) (is_inserted m p c r e y) same;
  stored = λ q d x. held q d (is_inserted m p c q d x);
}
  where
    own : (q r : ℕ) (d e : Credential) → IsInserted m p c q d → IsInserted m p c r e → d.id ≡ e.id → q ≡ r
    own q r d e (New a x) (New b y) same = a ∙ sym b
    own q r d e (New a x) (Old t there) same = absurd (none r e there (sym same ∙ ap (λ (k : Credential). k.id) x))
    own q r d e (Old t there) (New b y) same = absurd (none q d there (same ∙ ap (λ (k : Credential). k.id) y))
    own q r d e (Old t x) (Old u y) same = are.own q r d e x y same

    held : (q : ℕ) (d : Credential) → IsInserted m p c q d → IsStored d × (q < 2 ^ 32)
    held q d (New a x) = (subst IsStored (sym x) stored, subst (λ k. k < 2 ^ 32) (sym a) fits)
    held q d (Old t there) = are.stored q d there

-- ---- a credential that is changed, and keeps its id and user

pub indexes_set : (column : Credential → List ℕ) (m : Placed) (p : ℕ) (was c : Credential) (es : List Row) → finite.get m p ≡ Some was
    → column c ≡ column was → Indexes column m es → Indexes column (finite.insert m p c) es
indexes_set column m p was c es there same i = record {
  each = λ q d x. go q d (is_inserted m p c q d x);
  only = all_weaker (IsEntryOf column m) (IsEntryOf column (finite.insert m p c)) (λ e x. kept e x.0 x.1 x.2 x.3 (at m p c x.0)) es i.only;
}
  where
    go : (q : ℕ) (d : Credential) → IsInserted m p c q d → Stands (entry (column d) q) es
    go q d (New a x) =
        subst (λ k. Stands (entry k q) es) (sym (ap column x ∙ same))
        (subst (λ k. Stands (entry (column was) k) es) (sym a) (i.each p was there))
    go q d (Old t x) = i.each q d x

    kept : (e : Row) (q : ℕ) (d : Credential) → finite.get m q ≡ Some d → e ≡ entry (column d) q
        → (eq_by_cmp nat_cmp q p ≡ true) ⊎ (eq_by_cmp nat_cmp q p ≡ false) → IsEntryOf column (finite.insert m p c) e
    kept e q d x is (inl t) =
        let mine : was ≡ d = same_Some was d (sym there ∙ ap (finite.get m) (sym (same_place q p t)) ∙ x) in
        (q, c, inserted m p c q t, is ∙ ap (λ k. entry k q) (sym (same ∙ ap column mine)))
    kept e q d x is (inr t) = (q, d, stayed m p c q t ∙ x, is)

pub placed_set : (m : Placed) (p : ℕ) (was c : Credential) → finite.get m p ≡ Some was → c.id ≡ was.id → IsStored c → ArePlaced m
    → ArePlaced (finite.insert m p c)
placed_set m p was c there same stored are = record {
  own = λ q r d e x y is. own q r d e (is_inserted m p c q d x) (is_inserted m p c r e y) is;
  stored = λ q d x. held q d (is_inserted m p c q d x);
}
  where
    own : (q r : ℕ) (d e : Credential) → IsInserted m p c q d → IsInserted m p c r e → d.id ≡ e.id → q ≡ r
    own q r d e (New a x) (New b y) is = a ∙ sym b
    own q r d e (New a x) (Old t y) is = a ∙ are.own p r was e there y (sym same ∙ ap (λ (k : Credential). k.id) (sym x) ∙ is)
    own q r d e (Old t x) (New b y) is = are.own q p d was x there (is ∙ ap (λ (k : Credential). k.id) y ∙ same) ∙ sym b
    own q r d e (Old t x) (Old u y) is = are.own q r d e x y is

    held : (q : ℕ) (d : Credential) → IsInserted m p c q d → IsStored d × (q < 2 ^ 32)
    held q d (New a x) = (subst IsStored (sym x) stored, subst (λ k. k < 2 ^ 32) (sym a) ((are.stored p was there).1))
    held q d (Old t x) = are.stored q d x

-- ---- one credential less

gone : (m : Placed) (p q : ℕ) (d : Credential) → finite.get (finite.remove m p) q ≡ Some d → (eq_by_cmp nat_cmp q p ≡ false) × (finite.get m q ≡ Some d)
gone m p q d there = go (eq_by_cmp nat_cmp q p) refl
  where
    none_left : None ≡ Some d → ⊥
    none_left is = absurd cc

    go : (b : Bool) → eq_by_cmp nat_cmp q p ≡ b → (eq_by_cmp nat_cmp q p ≡ false) × (finite.get m q ≡ Some d)
    go true t = absurd (none_left (sym (ap (λ b. cond b None (finite.get m q)) t) ∙ sym (get-remove nat_cmp_total m p q) ∙ there))
    go false t = (t, sym (get-remove nat_cmp_total m p q ∙ ap (λ b. cond b None (finite.get m q)) t) ∙ there)

others_stand : (row old : Row) (es : List Row) → is_eq (entry_cmp plain row old) ≡ false → Stands row es → Stands row (remove_entry plain old es)
others_stand row old [] apart stands = absurd stands
others_stand row old (e ∷ es) apart stands = go (is_eq (entry_cmp plain e old)) refl stands (others_stand row old es apart)
  where
    go : (b : Bool) → is_eq (entry_cmp plain e old) ≡ b → Stands row (e ∷ es) → (Stands row es → Stands row (remove_entry plain old es))
        → Stands row (cond (not b) (e ∷ remove_entry plain old es) (remove_entry plain old es))
    go true t (inl is) more = absurd (true≢false (sym t ∙ ap (λ x. is_eq (entry_cmp plain x old)) is ∙ apart))
    go true t (inr rest) more = more rest
    go false t (inl is) more = inl is
    go false t (inr rest) more = inr (more rest)

tied : (o : Ordering) → is_eq o ≡ true → o ≡ Equal
tied Less e = absurd (true≢false (sym e))
tied Equal e = refl
tied Greater e = absurd (true≢false (sym e))

only_others : (column : Credential → List ℕ) (m : Placed) (p : ℕ) (c : Credential) (es : List Row) → finite.get m p ≡ Some c
    → AllByRecursion (IsEntryOf column m) es → AllByRecursion (IsEntryOf column (finite.remove m p)) (remove_entry plain (entry (column c) p) es)
only_others column m p c [] there only = tt
only_others column m p c (e ∷ es) there ((q, d, x, is), only) = go (is_eq (entry_cmp plain e (entry (column c) p))) refl (only_others column m p c es there only)
  where
    go : (b : Bool) → is_eq (entry_cmp plain e (entry (column c) p)) ≡ b
        → AllByRecursion (IsEntryOf column (finite.remove m p)) (remove_entry plain (entry (column c) p) es)
        → AllByRecursion (IsEntryOf column (finite.remove m p)) (cond (not b) (e ∷ remove_entry plain (entry (column c) p) es) (remove_entry plain (entry (column c) p) es))
    go true t more = more
    go false t more = ((q, d, left (eq_by_cmp nat_cmp q p) refl, is), more)
      where
        left : (b : Bool) → eq_by_cmp nat_cmp q p ≡ b → finite.get (finite.remove m p) q ≡ Some d
        left true u =
            let place : q ≡ p = same_place q p u in
            let mine : c ≡ d = same_Some c d (sym there ∙ ap (finite.get m) (sym place) ∙ x) in
            let same : e ≡ entry (column c) p = is ∙ ap (λ k. entry (column k) q) (sym mine) ∙ ap (entry (column c)) place in
            absurd (true≢false (sym (ap is_eq (tied_itself (entry_cmp_total plain) (entry (column c) p)))
            ∙ ap (λ r. is_eq (entry_cmp plain r (entry (column c) p))) (sym same) ∙ t))
        left false u = get-remove nat_cmp_total m p q ∙ ap (λ b. cond b None (finite.get m q)) u ∙ x

pub indexes_removed : (column : Credential → List ℕ) (m : Placed) (p : ℕ) (c : Credential) (es : List Row) → finite.get m p ≡ Some c
    → Indexes column m es → Indexes column (finite.remove m p) (remove_entry plain (entry (column c) p) es)
indexes_removed column m p c es there i = record {
  each = λ q d x. stands q d (gone m p q d x);
  only = only_others column m p c es there i.only;
}
  where
    stands : (q : ℕ) (d : Credential) → (eq_by_cmp nat_cmp q p ≡ false) × (finite.get m q ≡ Some d) → Stands (entry (column d) q) (remove_entry plain (entry (column c) p) es)
    stands q d (apart, x) = others_stand (entry (column d) q) (entry (column c) p) es (go (is_eq (entry_cmp plain (entry (column d) q) (entry (column c) p))) refl) (i.each q d x)
      where
        go : (b : Bool) → is_eq (entry_cmp plain (entry (column d) q) (entry (column c) p)) ≡ b → is_eq (entry_cmp plain (entry (column d) q) (entry (column c) p)) ≡ false
        go true t =
            let place : q ≡ p = (tied_entries (column d) (column c) q p (tied _ t)).1 in
            absurd (true≢false (sym (ap (eq_by_cmp nat_cmp q) (sym place) ∙ grind (arith, common_steps)) ∙ apart))
        go false t = t

pub placed_removed : (m : Placed) (p : ℕ) → ArePlaced m → ArePlaced (finite.remove m p)
placed_removed m p are = record {
  own = λ q r d e x y same. are.own q r d e (gone m p q d x).1 (gone m p r e y).1 same;
  stored = λ q d x. are.stored q d (gone m p q d x).1;
}
