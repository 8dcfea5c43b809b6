-- What an attestation statement shows: WebAuthn, sections 8.2 (packed, self attestation) and 8.7
-- (none).
use Rattle.std.specs.Prelude.{◌≡◌, ℕ, List, ◌++◌, ◌⊎◌, Result, Ok, Err, codes}
use Rattle.ccbor.specs.Item.{Item, map, text, bytes, no_pairs, pair}
use Rattle.cose.specs.declared.key.Alg.{Alg}
use Rattle.cose.specs.declared.key.CoseKey.{CoseKey}
use Rattle.cose.specs.Keys.{alg_of, alg_item}
use Rattle.cose.specs.Schemes.{Validity}
use Rattle.authdata.specs.declared.error.Error.{Error}
use Rattle.authdata.specs.declared.error.Error.TheVariants as errors
use Rattle.authdata.specs.declared.statement.AttestationType.{AttestationType}
use Rattle.authdata.specs.declared.statement.AttestationType.TheVariants as types
use Rattle.authdata.specs.Objects.{Attestation}

-- 8.7: an empty map
abbrev pub none_statement : Item
none_statement = map no_pairs

-- 8.2, without x5c: alg, sig
abbrev pub packed_statement : Alg → List ℕ → Item
packed_statement alg sig =
    map (pair (text (codes "alg")) (alg_item alg) (pair (text (codes "sig")) (bytes sig) no_pairs))

-- there is no attestation
abbrev pub IsNone : Attestation → Type 0
IsNone o = (o.fmt ≡ codes "none") × (o.statement ≡ none_statement)

-- the statement is a signature by the key itself: alg is the key's algorithm, and sig this signature
abbrev pub IsSelfSignedBy : Attestation → CoseKey → List ℕ → Type 0
IsSelfSignedBy o key sig = (o.fmt ≡ codes "packed") × (o.statement ≡ packed_statement (alg_of key) sig)

-- alg is the key's algorithm, and sig is valid under the key for the authenticator data and then
-- the hash of the client data
abbrev pub IsSelfSigned : Validity → Attestation → CoseKey → List ℕ → Type 0
IsSelfSigned Valid o key hash =
    (o.fmt ≡ codes "packed")
    × ((sig : List ℕ)
    × (o.statement ≡ packed_statement (alg_of key) sig) × Valid key (o.auth_data ++ hash) sig)

abbrev pub IsKnownFormat : List ℕ → Type 0
IsKnownFormat fmt = (fmt ≡ codes "none") ⊎ (fmt ≡ codes "packed")

-- what is answered of an object
abbrev pub Statement : Validity → Attestation → CoseKey → List ℕ → Result AttestationType Error
    → Type 0
Statement Valid o key hash (Ok types.None) = IsNone o
Statement Valid o key hash (Ok types.SelfSigned) = IsSelfSigned Valid o key hash
Statement Valid o key hash (Err errors.UnknownFormat) = IsKnownFormat o.fmt → ⊥
Statement Valid o key hash (Err errors.BadStatement) =
    IsKnownFormat o.fmt × (IsNone o → ⊥) × (IsSelfSigned Valid o key hash → ⊥)
Statement Valid o key hash (Err _) = ⊥
