-- Lists of credentials.
use Rattle.std.proofs.Common.{◌≡◌, ◌<◌, ◌≤◌, ℕ, zero, suc, true, false, List, [], ◌∷◌, ◌++◌, Some, None, length, slice_get, refl, arith}
use Rattle.std.specs.Str.{bytes_eq}
use Rattle.std.specs.Cmp.Lexicographic.{bytes_decides}
use Rattle.std.proofs.lemmas.Grind.{common_steps}
use Rattle.authdata.specs.declared.profile.Profile.{Profile}
use Rattle.authdata.specs.declared.profile.Profile.TheVariants.{Level3, Open, Strict}
use Rattle.verification.specs.Records.{Credential}
use Rattle.site_state.specs.Table.{row_of, has_long, with_row, IsRow, AreRows}

own_id : (id : List ℕ) → bytes_eq id id ≡ true
own_id id = (bytes_decides id id).1 refl

pub same_id : (x y : List ℕ) → bytes_eq x y ≡ true → x ≡ y
same_id x y e = (bytes_decides x y).0 e

-- a credential at a place is there
at_place : (rows : List Credential) (i : ℕ) (row : Credential) → slice_get rows i ≡ Some row → row_of row.id rows ≡ None → ⊥
at_place [] i row is none = absurd cc
at_place (r ∷ rows) zero row is none = grind (arith, common_steps, is, none, own_id row.id)
at_place (r ∷ rows) (suc i) row is none = grind (arith, common_steps, is, none, at_place rows i row)

-- the rows with another one at a place
abbrev pub set_at : List Credential → ℕ → Credential → List Credential
set_at [] i new = []
set_at (r ∷ rows) zero new = new ∷ rows
set_at (r ∷ rows) (suc i) new = r ∷ set_at rows i new

-- the credential at a place that is changed is that of its id
pub changed_at : (p : Profile) (change : Credential → Credential) (rows : List Credential) (i : ℕ) (row : Credential) → AreRows p rows
    → slice_get rows i ≡ Some row
    → set_at rows i (change row) ≡ with_row row.id change rows
changed_at p change [] i row are is = absurd cc
changed_at p change (r ∷ rows) zero row are is = grind (arith, common_steps, is, own_id row.id)
changed_at p change (r ∷ rows) (suc i) row are is =
    grind (arith, common_steps, is, are.1, same_id row.id r.id, at_place rows i row, changed_at p change rows i row are.2)

-- ---- limits

-- a change that leaves the id and the user handle
pub record Keeps (change : Credential → Credential) : Type 0 where
  pub id : (r : Credential) → (change r).id ≡ r.id
  pub user : (r : Credential) → (change r).user ≡ r.user

pub length-changed : (id : List ℕ) (change : Credential → Credential) (rows : List Credential) → length (with_row id change rows) ≡ length rows
length-changed id change [] = refl
length-changed id change (r ∷ rows) = grind (arith, common_steps, length-changed id change rows)

none_changed : (id : List ℕ) (change : Credential → Credential) → Keeps change → (x : List ℕ) (rows : List Credential) → row_of x rows ≡ None
    → row_of x (with_row id change rows) ≡ None
none_changed id change keeps x [] none = refl
none_changed id change keeps x (r ∷ rows) none = grind (arith, common_steps, none, keeps.id r, none_changed id change keeps x rows)

pub rows_changed : (id : List ℕ) (change : Credential → Credential) → Keeps change → (p : Profile) (rows : List Credential) → AreRows p rows
    → AreRows p (with_row id change rows)
rows_changed id change keeps p [] are = tt
rows_changed id change keeps p (r ∷ rows) are =
    grind (arith, common_steps, are, keeps.id r, keeps.user r, none_changed id change keeps r.id rows are.1, rows_changed id change keeps p rows are.2)

-- ---- one more

none_behind : (x : List ℕ) (rows : List Credential) (row : Credential) → row_of x rows ≡ None → bytes_eq x row.id ≡ false → row_of x (rows ++ row ∷ []) ≡ None
none_behind x [] row none e = rw e refl
none_behind x (r ∷ rows) row none e = grind (arith, common_steps, none, e, none_behind x rows row)

pub one_more : (p : Profile) (rows : List Credential) (row : Credential) → AreRows p rows → IsRow p row → row_of row.id rows ≡ None
    → AreRows p (rows ++ row ∷ [])
one_more p [] row are is none = (is, refl, tt)
one_more p (r ∷ rows) row are is none =
    grind (arith, common_steps, are, none, own_id row.id, same_id r.id row.id, none_behind r.id rows row are.1, one_more p rows row are.2 is)

differs_behind : (x : List ℕ) (front more : List Credential) (row : Credential) → row_of x (front ++ row ∷ more) ≡ None → bytes_eq x row.id ≡ false
differs_behind x [] more row none = grind (arith, common_steps, none)
differs_behind x (r ∷ front) more row none = grind (arith, common_steps, none, differs_behind x front more row)

-- of a table's rows each is within its limits, and none before it has its id
pub front_absent : (p : Profile) (front more : List Credential) (row : Credential) → AreRows p (front ++ row ∷ more)
    → IsRow p row × (row_of row.id front ≡ None)
front_absent p [] more row are = (are.0, refl)
front_absent p (r ∷ front) more row are =
    let rest = front_absent p front more row are.2 in
    (rest.0, grind (arith, common_steps, own_id r.id, same_id row.id r.id, differs_behind r.id front more row are.1, rest.1))

-- the credential that is found has the id
pub found_id : (id : List ℕ) (rows : List Credential) (row : Credential) → row_of id rows ≡ Some row → row.id ≡ id
found_id id [] row is = absurd cc
found_id id (r ∷ rows) row is = grind (arith, common_steps, is, same_id id r.id, found_id id rows row)

-- ---- the profiles

looser_row : (p : Profile) (row : Credential) → IsRow p row → IsRow Open row
looser_row Strict row is = ((is.0.0, omega (arith, is.0.1)), is.1)
looser_row Open row is = is
looser_row Level3 row is = is

pub looser : (p : Profile) (rows : List Credential) → AreRows p rows → AreRows Open rows
looser p [] are = tt
looser p (row ∷ rows) are = (looser_row p row are.0, are.1, looser p rows are.2)

-- those of Level 3 are those of the open one
pub level3_rows : (rows : List Credential) → AreRows Open rows → AreRows Level3 rows
level3_rows [] are = tt
level3_rows (row ∷ rows) are = (are.0, are.1, level3_rows rows are.2)

-- the ids are those of the strict profile exactly where none is longer
pub none_long : (rows : List Credential) → AreRows Strict rows → has_long rows ≡ false
none_long [] are = refl
none_long (row ∷ rows) are = let short = are.0.0.1 in grind (arith, common_steps, short, none_long rows are.2)

pub all_short : (rows : List Credential) → AreRows Open rows → has_long rows ≡ false → AreRows Strict rows
all_short [] are e = tt
all_short (row ∷ rows) are e =
    grind (arith, common_steps, are, e, all_short rows are.2)

-- whether a list has a long one, credential by credential
pub long_there : (front more : List Credential) (row : Credential) → 64 < length row.id → has_long (front ++ row ∷ more) ≡ true
long_there [] more row lt = grind (arith, common_steps, lt)
long_there (r ∷ front) more row lt = grind (arith, common_steps, long_there front more row lt)

pub short_behind : (front : List Credential) (row : Credential) → has_long front ≡ false → length row.id ≤ 64 → has_long (front ++ row ∷ []) ≡ false
short_behind [] row e le = grind (arith, common_steps, le)
short_behind (r ∷ front) row e le = grind (arith, common_steps, e, short_behind front row)
