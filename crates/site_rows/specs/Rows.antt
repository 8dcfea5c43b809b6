-- A relying party's credentials as rows of a table of a SQLite file. A row of a store is the rowid and then the
-- record as it is stored, in which the column of the INTEGER PRIMARY KEY is NULL (SQLite, fileformat2.html, 2.3).
use Rattle.std.specs.Prelude.{◌<◌, ◌^◌, ℕ, pos, [], ◌∷◌}
use Rattle.sqlite_value.specs.Order.{Row}
use Rattle.sqlite_value.specs.declared.value.Value.{Value}
use Rattle.sqlite_value.specs.declared.value.Value.TheVariants.{Null, Int, Blob}
use Rattle.cose.specs.declared.key.CoseKey.{CoseKey}
use Rattle.cose.specs.declared.key.CoseKey.TheVariants as keys
use Rattle.cose.specs.Keys.{IsKey, alg_of, number_of, x_of}
use Rattle.verification.specs.Records.{Credential}
use Rattle.site_rows.specs.Values.{truth_or_null, truth_value}

-- the y coordinate, where the key has one; of an RSA key its exponent
abbrev pub y_value : CoseKey → Value
y_value (keys.Es256 x y) = Blob y
y_value (keys.EdDsa x) = Null
y_value (keys.Rs256 k) = Blob k.e

-- the columns: place, id, user_handle, algorithm (its COSE number), x (of an RSA key its
-- modulus), y, sign_count, backup_eligible, retired
abbrev pub credential_row : ℕ → Credential → Row
credential_row place c =
    Int (pos place) ∷ Null ∷ Blob c.id ∷ Blob c.user ∷ Int (number_of (alg_of c.key)) ∷ Blob (x_of c.key) ∷ y_value c.key
    ∷ Int (pos c.sign_count) ∷ truth_or_null c.eligible ∷ truth_value c.retired ∷ []

-- what a row can hold: a key of its algorithm, and a counter of 32 bits
pub record IsStored (c : Credential) : Type 0 where
  pub key : IsKey c.key
  pub sign_count : c.sign_count < 2 ^ 32
