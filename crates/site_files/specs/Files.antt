-- What the files of a site hold.
use Rattle.std.specs.Prelude.{◌≡◌, ◌⊎◌, ℕ, Bool, IsTrue, List, true}
use Rattle.sqlite_wal.specs.Recovery.{Image}
use Rattle.sqlite_pages.specs.PageMap.{PageMap}
use Rattle.sqlite_pool.specs.Stored.{Recovers, used_size}
use Rattle.sqlite_store.specs.declared.catalog.Wanted.{Wanted}
use Rattle.sqlite_store.specs.Listing.{IsOurs, file_trees}
use Rattle.sqlite_trees.specs.Tree.{Trees}
use Rattle.sqlite_trees.specs.View.{IsClean, View}
use Rattle.sqlite.specs.Files.{HoldsDatabase}
use Rattle.site_rows.specs.Calls.{IfClean}
use Rattle.site_files.specs.Earlier.{IsEarlier}

-- the files recover to pages of a sound SQLite file, which list the trees; each page is of 4,096 bytes, of which 8 may be its sum
abbrev pub IsFoundIn : Image → Trees → Type 0
IsFoundIn image db =
    (has_sums : Bool) × (pages : PageMap) × (wanted : List Wanted) × Recovers (used_size 4096 has_sums) image pages
    × ∥ IsOurs (used_size 4096 has_sums) true wanted pages ∥₁ × (db ≡ file_trees (used_size 4096 has_sums) wanted pages)

-- so it is, or the files hold no other database
abbrev pub IsHeldIn : Image → Trees → Type 0
IsHeldIn image db = IsFoundIn image db ⊎ ((other : Trees) → HoldsDatabase image other → db ≡ other)

-- each tree is the object with its number in the list of the file
abbrev pub IsNumbered : View → Type 0
IsNumbered v = IsTrue v.is_numbered

-- and nothing waits to be committed
abbrev pub RestsNumbered : View → Type 0
RestsNumbered v = IfClean v IsNumbered × (IsClean v → IsTrue v.is_open → v.committed ≡ v.trees)

-- what is shown is what the files held
abbrev pub ShowsHeld : Image → View → Type 0
ShowsHeld image v = IsClean v → IsTrue v.is_open → IsHeldIn image v.trees

-- the rows of a site are those that the files held, unless they were of an earlier version
abbrev pub TakesFrom : Image → List ℕ → View → Type 0
TakesFrom image rp_id v = IsClean v → (was : Trees) × IsHeldIn image was × ((v.trees ≡ was) ⊎ IsEarlier rp_id was)

-- the rows of a site are those that a store held, unless it was of an earlier version
abbrev pub TakesOver : List ℕ → View → View → Type 0
TakesOver rp_id old new = IsClean new → IsClean old × IsTrue old.is_open × ((new.trees ≡ old.committed) ⊎ IsEarlier rp_id old.trees)

-- a store of an earlier version was found
abbrev pub FindsEarlier : List ℕ → View → View → Type 0
FindsEarlier rp_id old new = IsClean new → IsEarlier rp_id old.trees

-- no wrong answer of the disk is forgotten
abbrev pub WasClean : View → View → Type 0
WasClean old new = IsClean new → IsClean old
