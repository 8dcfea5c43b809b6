-- What the crate's types stand for.
use Rattle.std.specs.Prelude.{ℕ, List, map}
use Rattle.verification.specs.Records.{Credential}
use Rattle.site_state.specs.declared.row.Row.{Row}
use Rattle.site_state.specs.declared.row.StoredRow.{StoredRow}

abbrev pub row_view : Row → Credential
row_view row = record { id = row.id.items; user = row.user.items; key = row.key; sign_count = row.sign_count; eligible = row.eligible; retired = row.retired }

abbrev pub rows_view : List Row → List Credential
rows_view rows = map row_view rows

-- what is kept of an id
abbrev pub stored_row_view : List ℕ → StoredRow → Credential
stored_row_view id kept = record {
  id = id;
  user = kept.user.items;
  key = kept.key;
  sign_count = kept.sign_count;
  eligible = kept.eligible;
  retired = kept.retired;
}
