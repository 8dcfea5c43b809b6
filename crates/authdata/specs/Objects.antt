-- Attestation objects and their bytes: WebAuthn, section 6.5.4.
use Rattle.std.specs.Prelude.{◌≡◌, ◌≢◌, ℕ, List, [], ◌∷◌, string_bytes, codes}
use Rattle.refusal_order.specs.Lines.{First}
use Rattle.ccbor.specs.Item.{Item, map, text, bytes, Pairs, no_pairs, pair}
use Rattle.ccbor.specs.Canon.{Canon}
use Rattle.ccbor.specs.View.{view}
use Rattle.ccbor.specs.Viewing.{shown}
use Rattle.authdata.specs.declared.error.Error.{Error}
use Rattle.authdata.specs.declared.error.Error.TheVariants as errors
use Rattle.authdata.specs.declared.object.AttestationObject.{AttestationObject}
use Rattle.authdata.specs.declared.object.AttestationView.{AttestationView}

-- an attestation object without where it lies in memory: fmt, attStmt, authData
pub record Attestation : Type 0 where
  pub fmt : List ℕ
  pub statement : Item
  pub auth_data : List ℕ

-- its value: a map of exactly these members
abbrev pub object_item : Attestation → Item
object_item o =
    map (pair (text (codes "fmt")) (text o.fmt)
    (pair (text (codes "attStmt")) o.statement
    (pair (text (codes "authData")) (bytes o.auth_data) no_pairs)))

-- an attestation statement is a map
abbrev pub IsMap : Item → Type 0
IsMap v = (members : Pairs) × (v ≡ map members)

-- the bytes are the object's: the canonical CBOR of its value
abbrev pub ObjectOf : Attestation → List ℕ → Type 0
ObjectOf o bs = IsMap o.statement × Canon (object_item o) bs

abbrev pub object_view : AttestationObject → Attestation
object_view o = record {
  fmt = string_bytes o.fmt;
  statement = view o.statement;
  auth_data = o.auth_data.items;
}

abbrev pub lent_object_view : AttestationView → Attestation
lent_object_view o = record { fmt = o.fmt.now; statement = shown o.statement; auth_data = o.auth_data.now }

-- why bytes are no attestation object: the first of these that applies
abbrev pub ObjectApplies : List ℕ → Error → Type 0
ObjectApplies bs errors.NotCanonical = (v : Item) → Canon v bs → ⊥
ObjectApplies bs errors.Shape = (o : Attestation) → ObjectOf o bs → ⊥
ObjectApplies bs _ = ⊥

abbrev pub object_order : List Error
object_order =
    errors.NotCanonical
    ∷ errors.Shape
    ∷ []

abbrev pub ObjectRefused : List ℕ → Error → Type 0
ObjectRefused bs e = e ≢ errors.Memory → First (ObjectApplies bs) object_order e
