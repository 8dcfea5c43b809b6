-- The trees of a store that holds a relying party's credentials, by their numbers.
use Rattle.std.specs.Prelude.{◌≡◌, ℕ}
use Rattle.sqlite_value.specs.Keys.{plain}
use Rattle.sqlite_trees.specs.View.{View}
use Rattle.sqlite_trees.specs.declared.store.Shape.TheVariants.{Index, Table}

-- the table of credentials, the indices of its columns id and user_handle, and the table of details
abbrev pub credential_tree : ℕ
credential_tree = 0

abbrev pub id_tree : ℕ
id_tree = 3

abbrev pub user_tree : ℕ
user_tree = 4

abbrev pub detail_tree : ℕ
detail_tree = 5

-- a tree is a table; an index
abbrev pub HasTable : ℕ → View → Type 0
HasTable tree v = v.shape tree ≡ Table

abbrev pub HasIndex : ℕ → View → Type 0
HasIndex tree v = v.shape tree ≡ Index plain
