-- What private functions are proved against; no public clause cites it.
use Rattle.std.specs.Prelude.{◌≡◌, ◌⊎◌, ◌+◌, ◌++◌, ℕ, List, drop}
use Rattle.ccbor.specs.Item.{Item, map, text, bytes, no_pairs, pair}
use Rattle.authdata.specs.declared.error.Error.{Error}
use Rattle.authdata.specs.declared.error.Error.TheVariants as errors
use Rattle.authdata.specs.declared.profile.Profile.{Profile}
use Rattle.authdata.specs.Objects.{Attestation, IsMap, object_item}
use Rattle.authdata.specs.Layout.{IsExtensionMap}
use Rattle.authdata.specs.Refusals.{BeginsWithKey, IsIdLength, id_len_in}

-- what is wrong with attested credential data: the id's length, or what follows the id
abbrev pub WrongCredential : Profile → List ℕ → Error → Type 0
WrongCredential profile bs e =
    ((e ≡ errors.BadId) × (IsIdLength profile (id_len_in bs) → ⊥))
    ⊎ ((e ≡ errors.BadKey) × IsIdLength profile (id_len_in bs) × (BeginsWithKey (drop (55 + id_len_in bs) bs) → ⊥))

-- a front of the bytes is a map of extensions
abbrev pub BeginsWithExtensions : List ℕ → Type 0
BeginsWithExtensions bs = (front rest : List ℕ) × IsExtensionMap front × (bs ≡ front ++ rest)

-- the item is the object's value
abbrev pub ObjectItem : Attestation → Item → Type 0
ObjectItem o v = IsMap o.statement × (v ≡ object_item o)

-- a map of three members
abbrev pub HasThree : Item → Type 0
HasThree v = (a b c d e f : Item) × (v ≡ map (pair a b (pair c d (pair e f no_pairs))))

-- the values of an object's members
abbrev pub PartsOf : Attestation → Item → Item → Item → Type 0
PartsOf o fmt statement auth_data =
    IsMap o.statement
    × (fmt ≡ text o.fmt) × (statement ≡ o.statement) × (auth_data ≡ bytes o.auth_data)
