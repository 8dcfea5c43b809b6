-- What an open finds is what the files held.
use Rattle.std.proofs.Common.{◌≡◌, ◌≤◌, ◌∙◌, ℕ, Bool, true, false, List, IsTrue, refl, ap, ap₂, sym, arith}
use Rattle.sqlite_disk.specs.declared.Disk.{Ghosts}
use Rattle.sqlite_wal.specs.Files.{seen_image}
use Rattle.sqlite_wal.specs.Recovery.{Image}
use Rattle.sqlite_store.specs.declared.store.open.Unopened.{Unopened}
use Rattle.sqlite_store.specs.Unopened.{files_of, image}
use Rattle.sqlite_trees.specs.Tree.{Trees}
use Rattle.sqlite_trees.specs.View.{View, doubt, IsClean, IsRolledBack}

abbrev image_with : List ℕ → List ℕ → Image
image_with log db = record { log = log; db = db }

pub open_if_sound : (is_open is_broken : Bool) → (is_open ≡ false → IsTrue is_broken) → is_broken ≡ false → IsTrue is_open
open_if_sound true is_broken law sound = refl
open_if_sound false is_broken law sound = let broken = law refl in absurd cc

-- what was found before is there after a rollback
pub found_behind : (old new : View) (HeldIn : Trees → Type 0) → (IsClean old → (db : Trees) → HeldIn db → old.committed ≡ db)
    → IsRolledBack old new → doubt old.is_clean ≤ doubt new.is_clean → IsClean new → IsTrue new.is_open
    → (db : Trees) → HeldIn db → new.trees ≡ db
found_behind old new HeldIn found undone le clean is_open db held = (undone.undone is_open).0 ∙ found (omega (arith, le, clean)) db held

-- and nothing waits to be committed
pub rests_behind : (old new : View) → IsRolledBack old new → IsClean new → IsTrue new.is_open → new.committed ≡ new.trees
rests_behind old new undone clean is_open = (undone.kept clean).committed is_open ∙ sym (undone.undone is_open).0

-- files that hold the same
pub same_image : {log log_2 db db_2 : List ℕ} → log ≡ log_2 → db ≡ db_2 → image_with log db ≡ image_with log_2 db_2
same_image log db = ap₂ image_with log db

-- what files that are not opened show is what the two show
pub image_from : {D : Type 0} {g : Ghosts D} (it : Unopened D g) (log db : D) → files_of it ≡ (log, db) → image it ≡ seen_image g log db
image_from {D} {g} it log db same = ap (λ (p : D × D). seen_image g p.0 p.1) same
