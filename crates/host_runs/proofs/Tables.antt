-- Rows of a site's table, looked up by an id.
use Rattle.std.proofs.Common.{◌≡◌, ◌≢◌, ◌⊎◌, inl, inr, ℕ, List, [], ◌∷◌, ◌++◌, Bool, true, false, Option, Some, None, refl, sym, ◌∙◌, ap, arith}
use Rattle.std.proofs.lemmas.Bool.{cases_Bool}
use Rattle.std.proofs.lemmas.Grind.{common_steps}
use Rattle.std.proofs.lemmas.Slice.Eq.{bytes_eq-Decides}
use Rattle.std.specs.Prelude.{if◌then◌else◌}
use Rattle.std.specs.Str.{bytes_eq}
use Rattle.verification.specs.Records.{Credential}
use Rattle.site_state.specs.Table.{row_of, with_row}
use Rattle.site_state.proofs.RowLemmas.{same_id}

pub is_same : (a b : List ℕ) → a ≡ b → bytes_eq a b ≡ true
is_same a b same = (bytes_eq-Decides a b).1 same

pub is_other : (a b : List ℕ) → a ≢ b → bytes_eq a b ≡ false
is_other a b apart = elim (cases_Bool (bytes_eq a b)) [
  | inl t ↦ absurd (apart (same_id a b t))
  | inr f ↦ f
]

pub either : (a b : List ℕ) → (a ≡ b) ⊎ (a ≢ b)
either a b = elim (cases_Bool (bytes_eq a b)) [
  | inl t ↦ inl (same_id a b t)
  | inr f ↦ inr (λ same. let bad : true ≡ false = sym (is_same a b same) ∙ f in absurd cc)
]

-- another row where one was changed
pub row_other : (id k : List ℕ) (change : Credential → Credential) (rows : List Credential) → ((x : Credential) → (change x).id ≡ x.id) → k ≢ id
    → row_of k (with_row id change rows) ≡ row_of k rows
row_other id k change [] same apart = refl
row_other id k change (r ∷ rows) same apart = go (bytes_eq id r.id) refl (row_other id k change rows same apart)
  where
    go : (b : Bool) → bytes_eq id r.id ≡ b → row_of k (with_row id change rows) ≡ row_of k rows
        → row_of k (with_row id change (r ∷ rows)) ≡ row_of k (r ∷ rows)
    go true t more =
        let other = is_other k r.id (λ mine. apart (mine ∙ sym (same_id id r.id t))) in
        rw (t, ap (bytes_eq k) (same r) ∙ other, other) refl
    go false t more = rw t (ap (λ (o : Option Credential). if bytes_eq k r.id then Some r else o) more)

-- where one more stands last: it, and another
pub row_last : (k : List ℕ) (rows : List Credential) (c : Credential) → row_of k rows ≡ None → k ≡ c.id → row_of k (rows ++ c ∷ []) ≡ Some c
row_last k [] c none mine = rw (is_same k c.id mine) refl
row_last k (r ∷ rows) c none mine = grind (arith, common_steps, none, mine, row_last k rows c)

pub row_not_last : (k : List ℕ) (rows : List Credential) (c : Credential) → k ≢ c.id → row_of k (rows ++ c ∷ []) ≡ row_of k rows
row_not_last k [] c apart = rw (is_other k c.id apart) refl
row_not_last k (r ∷ rows) c apart = ap (λ (o : Option Credential). if bytes_eq k r.id then Some r else o) (row_not_last k rows c apart)
