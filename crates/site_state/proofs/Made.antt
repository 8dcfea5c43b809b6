-- A table that is made row by row.
use Rattle.std.proofs.Common.{◌≡◌, ◌<◌, List, ◌∷◌, ◌++◌, length, None, ap, ◌∙◌, subst, arith}
use Rattle.std.proofs.lemmas.List.{length-append, map-append}
use Rattle.authdata.specs.declared.profile.Profile.{Profile}
use Rattle.site_state.specs.Table.{row_of, IsRow, IsTable}
use Rattle.site_state.specs.RowViews.{row_view, rows_view}
use Rattle.site_state.specs.declared.row.Row.{Row}
use Rattle.site_state.proofs.RowLemmas.{front_absent}

-- a row of a table may stand after those before it
pub admitted : (p : Profile) (rows front rest : List Row) (row : Row) → rows ≡ front ++ row ∷ rest → IsTable p (rows_view rows)
    → IsRow p (row_view row) × (row_of row.id.items (rows_view front) ≡ None) × (length (rows_view front) < 65536)
admitted p rows front rest row is table =
    let parts : rows_view rows ≡ rows_view front ++ row_view row ∷ rows_view rest = ap rows_view is ∙ map-append row_view front (row ∷ rest) in
    let whole : IsTable p (rows_view front ++ row_view row ∷ rows_view rest) = subst (IsTable p) parts table in
    let absent = front_absent p (rows_view front) (rows_view rest) (row_view row) whole.1 in
    let len = length-append (rows_view front) (row_view row ∷ rows_view rest) in
    let most = whole.0 in
    (absent.0, absent.1, omega (arith, len, most))
