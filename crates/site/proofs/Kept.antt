-- What a credential keeps.
use Rattle.std.proofs.Common.{◌≡◌, ◌≤◌, ℕ, List, [], ◌∷◌, ◌++◌, Some, Bool, true, false, sym, ◌∙◌, ap, refl, subst, arith, inl, inr}
use Rattle.std.proofs.lemmas.Bool.{cases_Bool}
use Rattle.std.proofs.lemmas.Grind.{common_steps}
use Rattle.std.specs.Str.{bytes_eq}
use Rattle.verification.specs.Records.{Credential}
use Rattle.site_state.specs.Table.{row_of, with_row}
use Rattle.site_state.proofs.RowLemmas.{found_id, same_id}
use Rattle.std.specs.Cmp.Lexicographic.{bytes_decides}
use Rattle.site.specs.Laws.{IsKept}

-- a row that is there is kept
pub kept_here : (rows : List Credential) (row : Credential) → row_of row.id rows ≡ Some row → IsKept row rows
kept_here rows row e = record { now = row; found = e; key = refl; user = refl; sign_count = omega arith; eligible = λ known is. is; retired = λ is. is }

pub kept_onward : (rows more : List Credential) (row : Credential) (x : IsKept row more) → IsKept x.now rows → x.now.id ≡ row.id → IsKept row rows
kept_onward rows more row x y same =
    let a = x.sign_count in
    let b = y.sign_count in
    record {
      now = y.now;
      found = subst (λ id. row_of id rows ≡ Some y.now) same y.found;
      key = y.key ∙ x.key;
      user = y.user ∙ x.user;
      sign_count = omega (arith, a, b);
      eligible = λ known is. y.eligible known (x.eligible known is);
      retired = λ is. y.retired (x.retired is);
    }

-- what a change keeps of a row
pub record KeptBy (change : Credential → Credential) (row : Credential) : Type 0 where
  pub id : (change row).id ≡ row.id
  pub key : (change row).key ≡ row.key
  pub user : (change row).user ≡ row.user
  pub sign_count : row.sign_count ≤ (change row).sign_count
  pub eligible : (known : Bool) → row.eligible ≡ Some known → (change row).eligible ≡ Some known
  pub retired : row.retired ≡ true → (change row).retired ≡ true

pub changed_kept : (rows : List Credential) (row : Credential) (change : Credential → Credential) → KeptBy change row → row_of row.id rows ≡ Some (change row)
    → IsKept row rows
changed_kept rows row change k e =
    record { now = change row; found = e; key = k.key; user = k.user; sign_count = k.sign_count; eligible = k.eligible; retired = k.retired }

-- the row that was changed
pub row_changed : (id : List ℕ) (change : Credential → Credential) (rows : List Credential) (row : Credential) → ((x : Credential) → (change x).id ≡ x.id)
    → row_of id rows ≡ Some row
    → row_of id (with_row id change rows) ≡ Some (change row)
row_changed id change [] row same e = absurd cc
row_changed id change (r ∷ rs) row same e = grind (arith, common_steps, e, same r, row_changed id change rs row same)

-- another row where one was changed
row_beside : (id k : List ℕ) (change : Credential → Credential) (rows : List Credential) (row : Credential) → ((x : Credential) → (change x).id ≡ x.id)
    → row_of k rows ≡ Some row
    → bytes_eq id k ≡ false → row_of k (with_row id change rows) ≡ Some row
row_beside id k change [] row same e other = absurd cc
row_beside id k change (r ∷ rs) row same e other =
    grind (arith, common_steps, e, other, same r, same_id id r.id, same_id k r.id, bytes_decides, row_beside id k change rs row same)

-- each row is kept where one is changed by a change that keeps it
pub kept_changed : (id : List ℕ) (change : Credential → Credential) (rows : List Credential) (k : List ℕ) (row : Credential)
    → ((x : Credential) → (change x).id ≡ x.id)
    → ((x : Credential) → row_of id rows ≡ Some x → KeptBy change x) → row_of k rows ≡ Some row → IsKept row (with_row id change rows)
kept_changed id change rows k row same keeps e =
    let mine : row.id ≡ k = found_id k rows row e in
    elim (cases_Bool (bytes_eq id k)) [
      | inl first ↦
          let ids : id ≡ k = same_id id k first in
          let there : row_of id rows ≡ Some row = rw ids e in
          changed_kept (with_row id change rows) row change (keeps row there) (ap (λ x. row_of x (with_row id change rows)) (mine ∙ sym ids)
          ∙ row_changed id change rows row same there)
      | inr apart ↦ kept_here (with_row id change rows) row (ap (λ x. row_of x (with_row id change rows)) mine ∙ row_beside id k change rows row same e apart)
    ]

-- the row of an id where one more stands last
pub row_before : (k : List ℕ) (rows more : List Credential) (row : Credential) → row_of k rows ≡ Some row → row_of k (rows ++ more) ≡ Some row
row_before k [] more row e = absurd cc
row_before k (r ∷ rs) more row e = grind (arith, common_steps, e, row_before k rs more row)
