-- Rows of a table that loses one, or has one more.
use Rattle.std.proofs.Common.{◌≡◌, ◌≢◌, ℕ, List, [], ◌∷◌, ◌++◌, Bool, true, false, not, filter, Option, Some, None, refl, sym, ◌∙◌, ap, inl, inr}
use Rattle.std.proofs.lemmas.Bool.{cases_Bool}
use Rattle.std.proofs.lemmas.Grind.{common_steps}
use Rattle.std.proofs.Common.{arith}
use Rattle.std.specs.Prelude.{if◌then◌else◌}
use Rattle.std.specs.Str.{bytes_eq}
use Rattle.verification.specs.Records.{Credential}
use Rattle.site_state.specs.Table.{row_of, with_row}
use Rattle.site_state.proofs.RowLemmas.{same_id}

-- the rows without those of an id
abbrev pub without : List ℕ → List Credential → List Credential
without id rows = filter (λ row. not (bytes_eq id row.id)) rows

pub none_left : (id : List ℕ) (rows : List Credential) → row_of id (without id rows) ≡ None
none_left id [] = refl
none_left id (r ∷ rows) = go (bytes_eq id r.id) refl (none_left id rows)
  where
    go : (b : Bool) → bytes_eq id r.id ≡ b → row_of id (without id rows) ≡ None → row_of id (without id (r ∷ rows)) ≡ None
    go true t more = rw t more
    go false t more = rw (t, t) more

pub others_left : (id k : List ℕ) (rows : List Credential) → k ≢ id → row_of k (without id rows) ≡ row_of k rows
others_left id k [] apart = refl
others_left id k (r ∷ rows) apart = go (bytes_eq id r.id) refl (others_left id k rows apart)
  where
    go : (b : Bool) → bytes_eq id r.id ≡ b → row_of k (without id rows) ≡ row_of k rows → row_of k (without id (r ∷ rows)) ≡ row_of k (r ∷ rows)
    go true t more = elim (cases_Bool (bytes_eq k r.id)) [
      | inl mine ↦ absurd (apart (same_id k r.id mine ∙ sym (same_id id r.id t)))
      | inr other ↦ rw (t, other) more
    ]
    go false t more = rw t (ap (λ (o : Option Credential). if bytes_eq k r.id then Some r else o) more)

-- an id that no row has is still none's
pub none_with : (k id : List ℕ) (change : Credential → Credential) (rows : List Credential) → ((x : Credential) → (change x).id ≡ x.id) → row_of k rows ≡ None
    → row_of k (with_row id change rows) ≡ None
none_with k id change [] same none = refl
none_with k id change (r ∷ rows) same none = grind (arith, common_steps, none, same r, none_with k id change rows same)

pub none_without : (k id : List ℕ) (rows : List Credential) → row_of k rows ≡ None → row_of k (without id rows) ≡ None
none_without k id [] none = refl
none_without k id (r ∷ rows) none = grind (arith, common_steps, none, none_without k id rows)

pub none_last : (k : List ℕ) (rows : List Credential) (c : Credential) → row_of k rows ≡ None → c.id ≢ k → row_of k (rows ++ c ∷ []) ≡ None
none_last k [] c none apart = elim (cases_Bool (bytes_eq k c.id)) [
  | inl mine ↦ absurd (apart (sym (same_id k c.id mine)))
  | inr other ↦ rw other refl
]
none_last k (r ∷ rows) c none apart = grind (arith, common_steps, none, none_last k rows c)
