-- What a relying party keeps over a restart (WebAuthn Level 2, section 7), as one map of canonical CBOR (CTAP 2.1,
-- "Message Encoding"). The map is this product's own.
use Rattle.std.specs.Prelude.{◌≡◌, ◌<◌, ◌≤◌, ◌^◌, ◌++◌, ℕ, List, [], ◌∷◌, Bool, true, false, Option, Some, None, option_map, length, nat_lt, if◌then◌else◌}
use Rattle.std.specs.Prelude.{map as each}
use Rattle.refusal_order.specs.Lines.{Each}
use Rattle.ccbor.specs.Item.{Item, uint, bytes, text, array, map, boolean, no_pairs, pair}
use Rattle.ccbor.specs.Canon.{Canon}
use Rattle.ccbor.specs.View.{items_of}
use Rattle.ctap_encoding.specs.Content.{optional}
use Rattle.cose.specs.Keys.{IsKey, item_of as key_item}
use Rattle.cose.specs.declared.key.CoseKey.{CoseKey}
use Rattle.cose.specs.declared.key.CoseKey.TheVariants as keys
use Rattle.authdata.specs.declared.profile.Profile.TheVariants.{Open}
use Rattle.verification.specs.Records.{Credential}
use Rattle.site_state.specs.Table.{IsTable}

-- its rp id, the number of the next session, and its credentials in order of registration
pub record Saved : Type 0 where
  pub rp_id : List ℕ
  pub next : ℕ
  pub rows : List Credential

-- true where it holds, else nothing
abbrev pub true_if : Bool → Option Item
true_if true = Some (boolean true)
true_if false = None

-- a credential: 1 its id; 2 the user handle; 3 the value of its COSE key; 4 the signature counter; 5 whether it is
-- eligible for backup, where that is known; 6 true, where it is retired
abbrev pub credential_item : Credential → Item
credential_item c =
    map (pair (uint 1) (bytes c.id)
    (pair (uint 2) (bytes c.user)
    (pair (uint 3) (key_item c.key)
    (pair (uint 4) (uint c.sign_count)
    (optional (uint 5) (option_map boolean c.eligible)
    (optional (uint 6) (true_if c.retired) no_pairs))))))

-- the whole: 1 the version; 2 the rp id; 3 the number of the next session; 4 the credentials
abbrev pub table_item : ℕ → Saved → Item
table_item version saved =
    map (pair (uint 1) (uint version)
    (pair (uint 2) (text saved.rp_id)
    (pair (uint 3) (uint saved.next)
    (pair (uint 4) (array (items_of (each credential_item saved.rows))) no_pairs))))

-- an RSA key (RFC 8230, section 4)
abbrev pub is_rsa : CoseKey → Bool
is_rsa (keys.Es256 x y) = false
is_rsa (keys.EdDsa x) = false
is_rsa (keys.Rs256 k) = true

-- what version 4 alone can hold: an id of more than 64 bytes, or an RSA key
abbrev pub needs_version_4 : List ℕ → CoseKey → Bool
needs_version_4 id key = if nat_lt 64 (length id) then true else is_rsa key

abbrev pub has_version_4 : List Credential → Bool
has_version_4 [] = false
has_version_4 (row ∷ rows) = if needs_version_4 row.id row.key then true else has_version_4 rows

-- the version that is written: 4 where a credential in the table needs it, else 3
abbrev pub version_of : List Credential → ℕ
version_of rows = if has_version_4 rows then 4 else 3

-- a credential as a table of a version may hold it: version 1 tells nothing of eligibility, versions 1 and 2 nothing
-- of retirement, and versions 1 to 3 hold none that needs version 4
pub record FitsVersion (version : ℕ) (c : Credential) : Type 0 where
  pub key : IsKey c.key
  pub sign_count : c.sign_count < 2 ^ 32
  pub eligible : version < 2 → c.eligible ≡ None
  pub retired : version < 3 → c.retired ≡ false
  pub early : version < 4 → needs_version_4 c.id c.key ≡ false

-- the bytes are the table's in this version: the canonical CBOR of its value; version 4 only where it is needed
pub record TableOf (version : ℕ) (saved : Saved) (bytes : List ℕ) : Type 0 where
  pub known : (1 ≤ version) × (version ≤ 4)
  pub next : 1 ≤ saved.next
  pub rows : IsTable Open saved.rows
  pub each : Each (FitsVersion version) saved.rows
  pub needed : 4 ≤ version → has_version_4 saved.rows ≡ true
  pub spelled : Canon (table_item version saved) bytes

-- the new bytes are the old ones and then the table's in the version that is written
abbrev pub AppendsTable : Saved → List ℕ → List ℕ → Type 0
AppendsTable saved old new = (bytes : List ℕ) × TableOf (version_of saved.rows) saved bytes × (new ≡ old ++ bytes)
