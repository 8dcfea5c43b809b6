-- Files of version 1, which held open sessions too, of version 2, whose commits had no marks, and of version 3, which had no key.
use Rattle.std.specs.Prelude.{◌≡◌, ◌≤◌, ℕ, pos, List, [], ◌∷◌, filter}
use Rattle.sqlite_trees.specs.Tree.{Trees, has_rowid}
use Rattle.site_stored.specs.State.{site_row_of, site_tree}

-- the row of the relying party is of version 1, 2 or 3
pub record IsEarlier (rp_id : List ℕ) (db : Trees) : Type 0 where
  pub version : ℕ
  pub next : ℕ
  pub first : 1 ≤ version
  pub last : version ≤ 3
  pub row : filter (has_rowid (pos 1)) (db site_tree) ≡ site_row_of version rp_id next ∷ []
