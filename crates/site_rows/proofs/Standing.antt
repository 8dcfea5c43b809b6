-- What is found stands there.
use Rattle.std.proofs.Common.{◌≡◌, ℕ, pos, Bool, true, false, List, [], refl, sym, ap, ◌∙◌, subst, true≢false}
use Rattle.std.proofs.lemmas.Option.{same_Some}
use Rattle.std.specs.Prelude.{ℤ, Some, filter}
use Rattle.std.specs.FinMap as finite
use Rattle.sqlite_value.specs.declared.value.Value.TheVariants.{Int}
use Rattle.sqlite_value.specs.Order.{Row, column}
use Rattle.sqlite_trees.specs.Tree.{has_rowid, rowid}
use Rattle.sqlite_trees.specs.View.{Finds}
use Rattle.sqlite_trees.proofs.ListLemmas.{all_weaker}
use Rattle.verification.specs.Records.{Credential}
use Rattle.site_rows.specs.Rows.{credential_row}
use Rattle.site_rows.specs.Held.{ArePlaced, HasNone, Indexes, IsAt, Placed, Stands, entry, placed_rows}
use Rattle.site_rows.specs.Private.{AreEntries}
use Rattle.site_rows.proofs.One.{blob_once, number_once, one_credential}
use Rattle.site_rows.proofs.Seeks.{all_stand}
use Rattle.site_rows.proofs.Tables.{no_row, row_in}

pub numbered : (n : ℕ) (c : Credential) → rowid (credential_row n c) ≡ Int (pos n)
numbered n c = refl

-- the row that is found at a place is the credential's that stands there
pub credential_there : (placed : Placed) (place : ℕ) (c : Credential) (row : Row) (rows : List Row) (id : ℤ) (found : Bool) → found ≡ true → id ≡ pos place → Finds rows id row found
    → rows ≡ placed_rows placed → row ≡ credential_row place c → finite.get placed place ≡ Some c
credential_there placed place c row rows id false t at finds are is = absurd (true≢false (sym t))
credential_there placed place c row rows id true t at finds are is =
    let x = row_in credential_row numbered placed place row []
    (ap (filter (has_rowid (pos place))) (sym are) ∙ ap (λ n. filter (has_rowid n) rows) (sym at) ∙ finds) in
    let same = (one_credential place place x.0 c (sym x.2 ∙ is)).1 in
    x.1 ∙ ap Some same

-- where no row is found at a place, no credential stands there
pub not_there : (placed : Placed) (place : ℕ) (c : Credential) (row : Row) (rows : List Row) (id : ℤ) (found : Bool) → found ≡ false → id ≡ pos place
    → Finds rows id row found → rows ≡ placed_rows placed → finite.get placed place ≡ Some c → ⊥
not_there placed place c row rows id true t at finds are there = true≢false t
not_there placed place c row rows id false t at finds are there =
    let none = no_row credential_row numbered placed place
    (ap (filter (has_rowid (pos place))) (sym are) ∙ ap (λ n. filter (has_rowid n) rows) (sym at) ∙ finds) in
    cc

-- a row that is found at a place is some credential's
pub row_there : (placed : Placed) (place : ℕ) (row : Row) (rows : List Row) (id : ℤ) (found : Bool) → found ≡ true → id ≡ pos place → Finds rows id row found
    → rows ≡ placed_rows placed → (c : Credential) × (finite.get placed place ≡ Some c) × (row ≡ credential_row place c)
row_there placed place row rows id false t at finds are = absurd (true≢false (sym t))
row_there placed place row rows id true t at finds are =
    row_in credential_row numbered placed place row []
    (ap (filter (has_rowid (pos place))) (sym are) ∙ ap (λ n. filter (has_rowid n) rows) (sym at) ∙ finds)

-- an index of credentials is one of entries
pub entries_of : (column : Credential → List ℕ) (placed : Placed) (es : List Row) → ArePlaced placed → Indexes column placed es → AreEntries es
entries_of column placed es are i =
    all_weaker _ _ (λ e x. (column x.1, x.0, x.3, (are.stored x.0 x.1 x.2).1)) es i.only

pub entry_key : (k l : List ℕ) (p q : ℕ) → entry k p ≡ entry l q → k ≡ l
entry_key k l p q is = blob_once k l (ap (λ r. column r 0) is)

pub entry_place : (k l : List ℕ) (p q : ℕ) → entry k p ≡ entry l q → p ≡ q
entry_place k l p q is = number_once p q (ap (λ r. column r 1) is)

pub at_entry : (placed : Placed) (id : List ℕ) (place : ℕ) (c : Credential) (es : List Row) → Indexes (λ d. d.id) placed es → Stands (entry id place) es
    → finite.get placed place ≡ Some c → IsAt placed id place c
at_entry placed id place c es i stands there =
    let x = all_stand _ (entry id place) es i.only stands in
    let same = entry_place id x.1.id place x.0 x.3 in
    let mine : x.1 ≡ c = same_Some x.1 c (sym x.2 ∙ ap (finite.get placed) (sym same) ∙ there) in
    record { there = there; has_id = ap (λ (d : Credential). d.id) (sym mine) ∙ sym (entry_key id x.1.id place x.0 x.3) }

-- a credential stands at the place of each entry
pub indexed_there : (column : Credential → List ℕ) (placed : Placed) (key : List ℕ) (place : ℕ) (es : List Row) → Indexes column placed es → Stands (entry key place) es
    → (c : Credential) × (finite.get placed place ≡ Some c)
indexed_there column placed key place es i stands =
    let x = all_stand _ (entry key place) es i.only stands in
    (x.1, ap (finite.get placed) (entry_place key (column x.1) place x.0 x.3) ∙ x.2)

pub none_at : (placed : Placed) (id : List ℕ) (es : List Row) → Indexes (λ d. d.id) placed es → ((p : ℕ) → Stands (entry id p) es → ⊥) → HasNone placed id
none_at placed id es i none place c there mine = none place (subst (λ k. Stands (entry k place) es) mine (i.each place c there))
