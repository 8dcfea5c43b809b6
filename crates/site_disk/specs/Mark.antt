-- The marks of a site's commits on a page, and which log goes on from a file.
use Rattle.std.specs.Prelude.{◌≡◌, ◌⊎◌, ℕ, ◌+◌, ◌*◌, ◌<◌, ◌≤◌, List, [], ◌∷◌, length, slice_index, slice_range, ⊤}
use Rattle.std.specs.Int.{w16, w64, w128, from_be_bytes}
use Rattle.sqlite_wal.specs.Format.{page_number, content}
use Rattle.sqlite_wal.specs.Recovery.{frame}
use Rattle.site_disk.specs.declared.mark.FileMark.{FileMark}
use Rattle.site_disk.specs.declared.mark.FileMark.TheVariants.{Absent, Unmarked, Marked}

-- The cell at a place of a page is a row of a mark (fileformat2.html, 1.6 and 2.1): its record is of 37 bytes, has rowid 1, and a header
-- of 5 bytes, NULL and blobs of 8, 8 and 16 bytes. The blobs are a mark, the mark that it follows, and a product that tells a page which was
-- not written to its end.
pub record IsMarkCell (page : List ℕ) (at mark follows : ℕ) : Type 0 where
  pub within : at + 39 ≤ length page
  pub head : slice_range page at (at + 7) ≡ 37 ∷ 1 ∷ 5 ∷ 0 ∷ 28 ∷ 28 ∷ 44 ∷ []
  pub mark_is : from_be_bytes w64 (slice_range page (at + 7) (at + 15)) ≡ mark
  pub follows_is : from_be_bytes w64 (slice_range page (at + 15) (at + 23)) ≡ follows
  pub sum_is : from_be_bytes w128 (slice_range page (at + 23) (at + 39)) ≡ mark * 11400714819323198485

-- a leaf page of a table, whose only cell is one (1.6)
pub record HasMark (page : List ℕ) (mark follows : ℕ) : Type 0 where
  pub leaf : slice_index page 0 ≡ 13
  pub one : from_be_bytes w16 (slice_range page 3 5) ≡ 1
  pub cell : IsMarkCell page (from_be_bytes w16 (slice_range page 8 10)) mark follows

-- what the page is in the file, of which these bytes stand there
abbrev pub IsOfPage : FileMark → List ℕ → Type 0
IsOfPage Absent page = ⊥
IsOfPage Unmarked page = (mark follows : ℕ) → HasMark page mark follows → ⊥
IsOfPage (Marked mark) page = (follows : ℕ) × HasMark page mark follows

-- frame i of a log is of this page, and has these (4.1)
pub record IsMarked (log : List ℕ) (root i mark follows : ℕ) : Type 0 where
  pub page : page_number (frame 4096 log i) ≡ root
  pub has : HasMark (content (frame 4096 log i)) mark follows

-- none of the first frames has a mark
abbrev pub HasNoMark : List ℕ → ℕ → ℕ → Type 0
HasNoMark log root frames = (i : ℕ) → i < frames → (mark follows : ℕ) → IsMarked log root i mark follows → ⊥

-- the first of them that has one has these
pub record IsFirstMark (log : List ℕ) (root frames mark follows : ℕ) : Type 0 where
  pub at : ℕ
  pub within : at < frames
  pub has : IsMarked log root at mark follows
  pub none : HasNoMark log root at

-- one of them has this mark
abbrev pub HasOwn : List ℕ → ℕ → ℕ → ℕ → Type 0
HasOwn log root frames own = (i : ℕ) × (i < frames) × ((follows : ℕ) × IsMarked log root i own follows)

-- The commit that the first mark follows is the last one in the file, or the log has that one. A page without a mark may be of a write
-- that was cut off; where the file ends before it nothing was committed.
abbrev pub Joins : List ℕ → ℕ → ℕ → ℕ → FileMark → Type 0
Joins log root frames follows Absent = follows ≡ 0
Joins log root frames follows Unmarked = ⊤
Joins log root frames follows (Marked own) = (follows ≡ own) ⊎ HasOwn log root frames own

-- the log goes on from the file
abbrev pub GoesOn : List ℕ → ℕ → ℕ → FileMark → Type 0
GoesOn log root frames file = (mark follows : ℕ) → IsFirstMark log root frames mark follows → Joins log root frames follows file
