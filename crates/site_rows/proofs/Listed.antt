-- The credentials of a store as a list in order of registration.
use Rattle.std.proofs.Common.{◌≡◌, ◌<◌, ◌≤◌, ◌+◌, ℕ, Bool, true, false, List, [], ◌∷◌, ◌++◌, map, refl, sym, ap, ◌∙◌, arith, T, Ordering, Less, Equal, Greater, true≢false}
use Rattle.std.proofs.lemmas.Grind.{common_steps}
use Rattle.std.proofs.lemmas.Option.{same_Some}
use Rattle.std.specs.Prelude.{Some, None}
use Rattle.std.specs.FinMap as finite
use Rattle.std.specs.FinMap.{entries-insert, entries_sorted, find, get-entries, is_sorted, put, nat_cmp-IsAntisymmetric}
use Rattle.std.specs.FinMap.Entries.{below_all}
use Rattle.std.specs.List.{AllByRecursion}
use Rattle.std.specs.Ordering.{nat_cmp}
use Rattle.std.specs.Cmp.{nat_cmp_total}
use Rattle.std.specs.Cmp.Lexicographic.{bytes_decides}
use Rattle.std.specs.Str.{bytes_eq}
use Rattle.verification.specs.Records.{Credential}
use Rattle.site_state.specs.Table.{row_of, with_row}
use Rattle.site_rows.specs.Held.{ArePlaced, HasNone, IsAt, Placed, rows_of}
use Rattle.site_rows.proofs.Tables.{all_above, entries_found, first_of, second_of}

-- ---- the credential of an id

abbrev listed : List (ℕ × Credential) → List Credential
listed = map (λ e. e.1)

abbrev AreIn : Placed → List (ℕ × Credential) → Type 0
AreIn m es = AllByRecursion (λ e. finite.get m e.0 ≡ Some e.1) es

same_id : (a b : List ℕ) → bytes_eq a b ≡ true → a ≡ b
same_id a b e = (bytes_decides a b).0 e

itself_id : (a : List ℕ) → bytes_eq a a ≡ true
itself_id a = (bytes_decides a a).1 refl

pub none_listed : (m : Placed) (id : List ℕ) (es : List (ℕ × Credential)) → HasNone m id → AreIn m es → row_of id (listed es) ≡ None
none_listed m id [] none are = refl
none_listed m id (e ∷ es) none are = go (bytes_eq id e.1.id) refl (none_listed m id es none are.1)
  where
    go : (b : Bool) → bytes_eq id e.1.id ≡ b → row_of id (listed es) ≡ None → row_of id (listed (e ∷ es)) ≡ None
    go true t more = absurd (none e.0 e.1 are.0 (sym (same_id id e.1.id t)))
    go false t more = rw t more

pub none_row : (m : Placed) (id : List ℕ) → HasNone m id → row_of id (rows_of m) ≡ None
none_row m id none = none_listed m id (finite.entries m) none (entries_found m)

-- an entry stands in a list
abbrev IsIn : ℕ → Credential → List (ℕ × Credential) → Type 0
IsIn p c es = find nat_cmp p es ≡ Some c

found_listed : (m : Placed) (id : List ℕ) (p : ℕ) (c : Credential) (es : List (ℕ × Credential)) → ArePlaced m → AreIn m es → IsAt m id p c → IsIn p c es
    → row_of id (listed es) ≡ Some c
found_listed m id p c [] placed are at is = absurd cc
found_listed m id p c (e ∷ es) placed are at is = go (bytes_eq id e.1.id) refl (nat_cmp p e.0) refl (found_listed m id p c es placed are.1 at)
  where
    go : (b : Bool) → bytes_eq id e.1.id ≡ b → (o : Ordering) → nat_cmp p e.0 ≡ o → (IsIn p c es → row_of id (listed es) ≡ Some c)
        → row_of id (listed (e ∷ es)) ≡ Some c
    go true t o u more =
        let place = placed.own e.0 p e.1 c are.0 at.there (sym (same_id id e.1.id t) ∙ sym at.has_id) in
        rw t (sym are.0 ∙ ap (finite.get m) place ∙ at.there)
    go false t Equal u more =
        let place : p ≡ e.0 = nat_cmp-IsAntisymmetric p e.0 u in
        let mine : c ≡ e.1 = same_Some c e.1 (sym at.there ∙ ap (finite.get m) place ∙ are.0) in
        absurd (true≢false (sym (itself_id id) ∙ ap (bytes_eq id) (sym at.has_id ∙ ap (λ (x : Credential). x.id) mine) ∙ t))
    go false t Less u more = rw t (more (sym (rw u refl) ∙ is))
    go false t Greater u more = rw t (more (sym (rw u refl) ∙ is))

pub found_row : (m : Placed) (id : List ℕ) (p : ℕ) (c : Credential) → ArePlaced m → IsAt m id p c → row_of id (rows_of m) ≡ Some c
found_row m id p c placed at = found_listed m id p c (finite.entries m) placed (entries_found m) at (sym (get-entries m p) ∙ at.there)

-- ---- a credential that is changed

above_lowest : (k p : ℕ) (c : Credential) (es : List (ℕ × Credential)) → AllByRecursion (λ x. k + 1 ≤ x.0) es → IsIn p c es → k < p
above_lowest k p c [] above is = absurd cc
above_lowest k p c (e ∷ es) above is = go (nat_cmp p e.0) refl (above_lowest k p c es above.1)
  where
    go : (o : Ordering) → nat_cmp p e.0 ≡ o → (IsIn p c es → k < p) → k < p
    go Equal u more = let place : p ≡ e.0 = nat_cmp-IsAntisymmetric p e.0 u in let le = above.0 in omega (arith, place, le)
    go Less u more = more (sym (rw u refl) ∙ is)
    go Greater u more = more (sym (rw u refl) ∙ is)

unlike : (m : Placed) (was : Credential) (p : ℕ) (change : Credential → Credential) (es : List (ℕ × Credential)) → ArePlaced m → finite.get m p ≡ Some was
    → AreIn m es → AllByRecursion (λ e. p + 1 ≤ e.0) es → with_row was.id change (listed es) ≡ listed es
unlike m was p change [] placed there are above = refl
unlike m was p change (e ∷ es) placed there are above = go (bytes_eq was.id e.1.id) refl (unlike m was p change es placed there are.1 above.1)
  where
    go : (b : Bool) → bytes_eq was.id e.1.id ≡ b → with_row was.id change (listed es) ≡ listed es
        → with_row was.id change (listed (e ∷ es)) ≡ listed (e ∷ es)
    go true t more =
        let place = placed.own p e.0 was e.1 there are.0 (same_id was.id e.1.id t) in
        let le = above.0 in
        absurd (omega (arith, place, le))
    go false t more = rw t (ap (λ cs. e.1 ∷ cs) more)

put_listed : (m : Placed) (was : Credential) (p : ℕ) (change : Credential → Credential) (es : List (ℕ × Credential)) → ArePlaced m → finite.get m p ≡ Some was
    → AreIn m es → T (is_sorted nat_cmp es) → IsIn p was es → listed (put nat_cmp p (change was) es) ≡ with_row was.id change (listed es)
put_listed m was p change [] placed there are sorted is = absurd cc
put_listed m was p change (e ∷ es) placed there are sorted is =
    go (nat_cmp p e.0) refl (bytes_eq was.id e.1.id) refl
    (put_listed m was p change es placed there are.1 (second_of (below_all nat_cmp e.0 es) (is_sorted nat_cmp es) sorted))
  where
    go : (o : Ordering) → nat_cmp p e.0 ≡ o → (b : Bool) → bytes_eq was.id e.1.id ≡ b
        → (IsIn p was es → listed (put nat_cmp p (change was) es) ≡ with_row was.id change (listed es))
        → listed (put nat_cmp p (change was) (e ∷ es)) ≡ with_row was.id change (listed (e ∷ es))
    go Equal u b t more =
        let place : p ≡ e.0 = nat_cmp-IsAntisymmetric p e.0 u in
        let mine : was ≡ e.1 = same_Some was e.1 (sym there ∙ ap (finite.get m) place ∙ are.0) in
        let same : bytes_eq was.id e.1.id ≡ true = ap (λ (x : Credential). bytes_eq was.id x.id) (sym mine) ∙ itself_id was.id in
        rw (u, same) (ap (λ x. change x ∷ listed es) mine)
    go Less u b t more =
        let low = all_above e.0 es (first_of (below_all nat_cmp e.0 es) (is_sorted nat_cmp es) sorted) in
        let over = above_lowest e.0 p was es low (sym (rw u refl) ∙ is) in
        absurd (grind (arith, common_steps, u, over))
    go Greater u true t more =
        let place : p ≡ e.0 = placed.own p e.0 was e.1 there are.0 (same_id was.id e.1.id t) in
        absurd (grind (arith, common_steps, u, place))
    go Greater u false t more = rw (u, t) (ap (λ cs. e.1 ∷ cs) (more (sym (rw u refl) ∙ is)))

pub changed_rows : (m : Placed) (p : ℕ) (was : Credential) (change : Credential → Credential) → ArePlaced m → finite.get m p ≡ Some was
    → rows_of (finite.insert m p (change was)) ≡ with_row was.id change (rows_of m)
changed_rows m p was change placed there =
    ap listed (entries-insert nat_cmp_total m p (change was))
    ∙ put_listed m was p change (finite.entries m) placed there (entries_found m) (entries_sorted m) (sym (get-entries m p) ∙ there)

-- ---- one more credential

put_last : (p : ℕ) (c : Credential) (es : List (ℕ × Credential)) → AllByRecursion (λ e. e.0 < p) es → put nat_cmp p c es ≡ es ++ (p, c) ∷ []
put_last p c [] below = refl
put_last p c (e ∷ es) (lt, below) =
    let over : nat_cmp p e.0 ≡ Greater = grind (arith, common_steps, lt) in
    rw over (ap (λ rest. e ∷ rest) (put_last p c es below))

listed_more : (es : List (ℕ × Credential)) (p : ℕ) (c : Credential) → listed (es ++ (p, c) ∷ []) ≡ listed es ++ c ∷ []
listed_more [] p c = refl
listed_more (e ∷ es) p c = ap (λ cs. e.1 ∷ cs) (listed_more es p c)

below_last : (m : Placed) (last : ℕ) (es : List (ℕ × Credential)) → ((p : ℕ) (c : Credential) → finite.get m p ≡ Some c → p ≤ last) → AreIn m es
    → AllByRecursion (λ e. e.0 < last + 1) es
below_last m last [] most are = tt
below_last m last (e ∷ es) most are = let le = most e.0 e.1 are.0 in (omega (arith, le), below_last m last es most are.1)

pub added_rows : (m : Placed) (last : ℕ) (c : Credential) → ((p : ℕ) (d : Credential) → finite.get m p ≡ Some d → p ≤ last)
    → rows_of (finite.insert m (last + 1) c) ≡ rows_of m ++ c ∷ []
added_rows m last c most =
    ap listed (entries-insert nat_cmp_total m (last + 1) c ∙ put_last (last + 1) c (finite.entries m) (below_last m last (finite.entries m) most (entries_found m)))
    ∙ listed_more (finite.entries m) (last + 1) c
