-- COSE_Key bytes (RFC 9052, section 7).
use Rattle.std.specs.Prelude.{ℕ, List}
use Rattle.ccbor.specs.Canon.{Canon}
use Rattle.ccbor.specs.Item.{Item}
use Rattle.cose.specs.Keys.{KeyOf}
use Rattle.cose.specs.declared.key.CoseKey.{CoseKey}

-- the bytes are the canonical CBOR of the key's value
abbrev pub IsCoseKey : CoseKey → List ℕ → Type 0
IsCoseKey key bytes = (v : Item) × KeyOf key v × Canon v bytes
