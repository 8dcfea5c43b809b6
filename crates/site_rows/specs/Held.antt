-- A relying party's credentials in three trees of a store: the table of their rows by place, and its two indices.
use Rattle.std.specs.Prelude.{◌≡◌, ◌≢◌, ◌<◌, ◌^◌, ◌⊎◌, ℕ, pos, Some, List, [], ◌∷◌, map}
use Rattle.std.specs.FinMap as finite
use Rattle.std.specs.List.{AllByRecursion}
use Rattle.std.specs.Ordering.{nat_cmp}
use Rattle.sqlite_value.specs.Order.{Row}
use Rattle.sqlite_value.specs.declared.value.Value.TheVariants.{Int, Blob}
use Rattle.sqlite_trees.specs.Tree.{Trees}
use Rattle.sqlite_trees.specs.View.{IsClean, View}
use Rattle.verification.specs.Records.{Credential}
use Rattle.site_rows.specs.Rows.{IsStored, credential_row}
use Rattle.site_rows.specs.Trees.{credential_tree, id_tree, user_tree, HasTable, HasIndex}

-- credentials by their places, which rise in order of registration
abbrev pub Placed : Type 0
Placed = finite.FinMap nat_cmp Credential

-- the credentials in order of registration
abbrev pub rows_of : Placed → List Credential
rows_of placed = map (λ e. e.1) (finite.entries placed)

-- the rows of a table
abbrev pub placed_rows : Placed → List Row
placed_rows placed = map (λ e. credential_row e.0 e.1) (finite.entries placed)

-- an entry of an index is the column and then the place (SQLite, fileformat2.html, 2.5)
abbrev pub entry : List ℕ → ℕ → Row
entry key place = Blob key ∷ Int (pos place) ∷ []

abbrev pub Stands : Row → List Row → Type 0
Stands row [] = ⊥
Stands row (r ∷ rows) = (r ≡ row) ⊎ Stands row rows

-- the index of a column has the entry of each credential, and no other
pub record Indexes (column : Credential → List ℕ) (placed : Placed) (entries : List Row) : Type 0 where
  pub each : (place : ℕ) (c : Credential) → finite.get placed place ≡ Some c → Stands (entry (column c) place) entries
  pub only : AllByRecursion (λ e. (place : ℕ) × (c : Credential) × (finite.get placed place ≡ Some c) × (e ≡ entry (column c) place)) entries

-- no two credentials have one id, and each is one that a row can hold, at a place of 32 bits
pub record ArePlaced (placed : Placed) : Type 0 where
  pub own : (p q : ℕ) (c d : Credential) → finite.get placed p ≡ Some c → finite.get placed q ≡ Some d → c.id ≡ d.id → p ≡ q
  pub stored : (place : ℕ) (c : Credential) → finite.get placed place ≡ Some c → IsStored c × (place < 2 ^ 32)

pub record Holds (placed : Placed) (db : Trees) : Type 0 where
  pub table : db credential_tree ≡ placed_rows placed
  pub by_id : Indexes (λ c. c.id) placed (db id_tree)
  pub by_user : Indexes (λ c. c.user) placed (db user_tree)
  pub are : ArePlaced placed

-- the three trees are a table and two indices
pub record HasTrees (v : View) : Type 0 where
  pub table : HasTable credential_tree v
  pub by_id : HasIndex id_tree v
  pub by_user : HasIndex user_tree v

-- a credential of this id stands at a place; none has this id
pub record IsAt (placed : Placed) (id : List ℕ) (place : ℕ) (c : Credential) : Type 0 where
  pub there : finite.get placed place ≡ Some c
  pub has_id : c.id ≡ id

abbrev pub HasNone : Placed → List ℕ → Type 0
HasNone placed id = (place : ℕ) (c : Credential) → finite.get placed place ≡ Some c → c.id ≡ id → ⊥

-- the transaction has written the three trees, and no other
pub record IsWritten (old new : View) (placed : Placed) : Type 0 where
  pub holds : Holds placed new.trees
  pub others : (n : ℕ) → n ≢ credential_tree → n ≢ id_tree → n ≢ user_tree → new.trees n ≡ old.trees n
  pub is : new ≡ record old { trees = new.trees; cursors = new.cursors }

-- only cursors differ
pub record IsSameView (old new : View) : Type 0 where
  pub clean : IsClean new → IsClean old
  pub view : IsClean new → new ≡ record old { cursors = new.cursors }
  pub shape : new.shape ≡ old.shape
