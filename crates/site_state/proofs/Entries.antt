-- The entries of a map as the credentials that they keep.
use Rattle.std.proofs.Common.{◌≡◌, ◌↔◌, ℕ, zero, suc, Bool, false, List, [], ◌∷◌, ◌++◌, map, Some, None, is_some, Vec, Global, slice_get, arith}
use Rattle.std.proofs.Common.{refl, sym, ap, subst, ◌∙◌, append_assoc}
use Rattle.std.proofs.lemmas.Grind.{common_steps}
use Rattle.std.proofs.lemmas.List.{map-append}
use Rattle.std.specs.Str.{bytes_eq}
use Rattle.std.specs.Map.{lookup, lookup_key, values_of}
use Rattle.indexmap.specs.Layout.{set_value_at}
use Rattle.authdata.specs.declared.profile.Profile.{Profile}
use Rattle.verification.specs.Records.{Credential}
use Rattle.site_state.specs.Table.{row_of, with_row, IsTable}
use Rattle.site_state.specs.RowViews.{stored_row_view}
use Rattle.site_state.specs.declared.row.StoredRow.{StoredRow}
use Rattle.site_state.proofs.RowLemmas.{set_at, changed_at, length-changed, rows_changed, Keeps}

abbrev pub Entry : Type 0
Entry = Vec ℕ Global × StoredRow

abbrev pub entry_view : Entry → Credential
entry_view e = stored_row_view e.0.items e.1

abbrev pub test_of : List ℕ → Vec ℕ Global → Bool
test_of id k = bytes_eq id k.items

pub found : (id : List ℕ) (es : List Entry) (k : Vec ℕ Global) (v : StoredRow) → lookup_key (test_of id) es ≡ Some k → lookup (test_of id) es ≡ Some v
    → row_of id (map entry_view es) ≡ Some (stored_row_view k.items v)
found id [] k v is_key is_value = absurd cc
found id (e ∷ es) k v is_key is_value = grind (arith, common_steps, is_key, is_value, found id es k v)

pub absent : (id : List ℕ) (es : List Entry) → lookup (test_of id) es ≡ None → row_of id (map entry_view es) ≡ None
absent id [] none = refl
absent id (e ∷ es) none = grind (arith, common_steps, none, absent id es)

pub none_kept : (id : List ℕ) (es : List Entry) → row_of id (map entry_view es) ≡ None → lookup (test_of id) es ≡ None
none_kept id [] none = refl
none_kept id (e ∷ es) none = grind (arith, common_steps, none, none_kept id es)

pub at_place : (es : List Entry) (i : ℕ) (e : Entry) → slice_get es i ≡ Some e → slice_get (map entry_view es) i ≡ Some (entry_view e)
at_place [] i e is = absurd cc
at_place (x ∷ es) zero e is = cc
at_place (x ∷ es) (suc i) e is = at_place es i e is

pub set_value : (es : List Entry) (i : ℕ) (e : Entry) (v : StoredRow) → slice_get es i ≡ Some e
    → map entry_view (set_value_at es i v) ≡ set_at (map entry_view es) i (entry_view (e.0, v))
set_value [] i e v is = absurd cc
set_value (x ∷ es) zero e v is = cc
set_value (x ∷ es) (suc i) e v is = ap (λ (l : List Credential). entry_view x ∷ l) (set_value es i e v is)

pub has_not : (id : List ℕ) (es : List Entry) (b : Bool) → b ≡ is_some (lookup (test_of id) es) → b ≡ false ↔ row_of id (map entry_view es) ≡ None
has_not id es b is = grind (arith, common_steps, is, absent id es, none_kept id es)

pub one_entry_more : (es new : List Entry) (e : Entry) → new ≡ es ++ e ∷ [] → map entry_view new ≡ map entry_view es ++ entry_view e ∷ []
one_entry_more es new e is = ap (map entry_view) is ∙ map-append entry_view es (e ∷ [])

-- of all rows one more was gone over
pub gone_over : {A : Type 0} (view : A → Credential) (all : List Credential) (front : List A) (row : A) (left rest : List Credential)
    → all ≡ map view front ++ left → left ≡ view row ∷ rest → all ≡ map view (front ++ row ∷ []) ++ rest
gone_over view all front row left rest before next =
    before ∙ ap (λ l. map view front ++ l) next ∙ sym (append_assoc (map view front) (view row ∷ []) rest)
    ∙ ap (λ l. l ++ rest) (sym (map-append view front (row ∷ [])))

-- ---- a value written at a place

-- the value at a place is that of the entry there
entry_of : (es : List Entry) (i : ℕ) (v : StoredRow) → slice_get (values_of es) i ≡ Some v → (e : Entry) × (slice_get es i ≡ Some e) × (e.1 ≡ v)
entry_of [] i v is = absurd cc
entry_of (x ∷ es) zero v is = (x, refl, cc)
entry_of (x ∷ es) (suc i) v is = entry_of es i v is

-- the change that a new value makes of what is kept
abbrev pub Makes : (Credential → Credential) → StoredRow → StoredRow → Type 0
Makes change old new = (id : List ℕ) → stored_row_view id new ≡ change (stored_row_view id old)

module _ (p : Profile) (change : Credential → Credential) (es : List Entry) (i : ℕ) (old new : StoredRow) (are : IsTable p (map entry_view es))
    (there : slice_get (values_of es) i ≡ Some old) (makes : Makes change old new) where
  pub stored : (row : Credential) → slice_get (map entry_view es) i ≡ Some row
      → map entry_view (set_value_at es i new) ≡ with_row row.id change (map entry_view es)
  stored row is =
      let e = entry_of es i old there in
      let same : entry_view e.0 ≡ row = let at = at_place es i e.0 e.1 in cc in
      let changed : entry_view (e.0.0, new) ≡ change row = makes e.0.0.items ∙ ap (λ (v : StoredRow). change (stored_row_view e.0.0.items v)) (sym e.2)
      ∙ ap change same in
      set_value es i e.0 new e.1 ∙ ap (set_at (map entry_view es) i) changed ∙ changed_at p change (map entry_view es) i row are.1 is

  pub limits_stored : Keeps change → IsTable p (map entry_view (set_value_at es i new))
  limits_stored keeps =
      let e = entry_of es i old there in
      let is = stored (entry_view e.0) (at_place es i e.0 e.1) in
      let limits : IsTable p (with_row (entry_view e.0).id change (map entry_view es)) =
      (rw (length-changed (entry_view e.0).id change (map entry_view es)) are.0, rows_changed (entry_view e.0).id change keeps p (map entry_view es) are.1) in
      subst (IsTable p) (sym is) limits

-- beyond the last entry there is no credential
pub beyond : (es : List Entry) (i : ℕ) (row : Credential) → slice_get (values_of es) i ≡ None → slice_get (map entry_view es) i ≡ Some row → ⊥
beyond [] i row none is = absurd cc
beyond (x ∷ es) zero row none is = absurd cc
beyond (x ∷ es) (suc i) row none is = beyond es i row none is

-- where there is a value there is a credential
pub within : (es : List Entry) (i : ℕ) (v : StoredRow) → slice_get (values_of es) i ≡ Some v → slice_get (map entry_view es) i ≡ None → ⊥
within [] i v is none = absurd cc
within (x ∷ es) zero v is none = absurd cc
within (x ∷ es) (suc i) v is none = within es i v is none
