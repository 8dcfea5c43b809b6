-- Why bytes are no authenticator data: the first of these that applies.
use Rattle.std.specs.Prelude.{◌≡◌, ◌≢◌, ℕ, ◌+◌, ◌<◌, ◌≤◌, true, IsSome, List, [], ◌∷◌, ◌++◌, length, take, drop, slice_index, ◌⊎◌}
use Rattle.std.specs.Int.{w16, from_be_bytes}
use Rattle.refusal_order.specs.Lines.{First}
use Rattle.cose.specs.declared.key.CoseKey.{CoseKey}
use Rattle.cose.specs.Keys.{IsKey}
use Rattle.authdata.specs.declared.error.Error.{Error}
use Rattle.authdata.specs.declared.error.Error.TheVariants as errors
use Rattle.authdata.specs.declared.profile.Profile.{Profile}
use Rattle.authdata.specs.declared.profile.Profile.TheVariants.{Strict}
use Rattle.authdata.specs.Flags.{is_set, HasBackup, AT, ED}
use Rattle.authdata.specs.Profiles.{max_id}
use Rattle.authdata.specs.Layout.{AuthenticatorData, AuthOf, key_bytes}

-- the flags, and the length of the credential id, where they are there
abbrev pub flags_in : List ℕ → ℕ
flags_in bs = slice_index bs 32

abbrev pub id_len_in : List ℕ → ℕ
id_len_in bs = from_be_bytes w16 (take 2 (drop 53 bs))

abbrev pub IsIdLength : Profile → ℕ → Type 0
IsIdLength profile n = (1 ≤ n) × (n ≤ max_id profile)

abbrev pub IsAttested : List ℕ → Type 0
IsAttested bs = is_set (flags_in bs) AT ≡ true

abbrev pub HasExtensions : List ℕ → Type 0
HasExtensions bs = is_set (flags_in bs) ED ≡ true

-- a front of the bytes is the encoding of a key
abbrev pub BeginsWithKey : List ℕ → Type 0
BeginsWithKey bs = (key : CoseKey) × (rest : List ℕ) × IsKey key × (bs ≡ key_bytes key ++ rest)

-- Short: the fixed part, or with a credential what stands before its key, is not there whole.
-- Extensions: ED is set, in the strict profile. BadBackup: BS is set and BE is clear (profile 2). BadId: the
-- credential id's length. BadKey: what follows the credential id. BadExtensions: ED is set, and no front of the bytes
-- is authenticator data, as no map follows the credential. ExtraBytes: a front is authenticator data, and bytes follow it.
abbrev pub Applies : Profile → List ℕ → Error → Type 0
Applies profile bs errors.Short = (length bs < 37) ⊎ (IsAttested bs × (length bs < 55 + id_len_in bs))
Applies profile bs errors.Extensions = (profile ≡ Strict) × HasExtensions bs
Applies profile bs errors.BadBackup = HasBackup (flags_in bs) → ⊥
Applies profile bs errors.BadId = IsAttested bs × (IsIdLength profile (id_len_in bs) → ⊥)
Applies profile bs errors.BadKey = IsAttested bs × (BeginsWithKey (drop (55 + id_len_in bs) bs) → ⊥)
Applies profile bs errors.BadExtensions =
    HasExtensions bs × ((a : AuthenticatorData) (front rest : List ℕ) → AuthOf profile a front → bs ≡ front ++ rest → ⊥)
Applies profile bs errors.ExtraBytes =
    (a : AuthenticatorData) × (front rest : List ℕ)
    × AuthOf profile a front × (0 < length rest) × (bs ≡ front ++ rest)
Applies profile bs _ = ⊥

abbrev pub later_order : List Error
later_order =
    errors.BadId
    ∷ errors.BadKey
    ∷ errors.BadExtensions
    ∷ errors.ExtraBytes
    ∷ []

abbrev pub order : List Error
order =
    errors.Short
    ∷ errors.Extensions
    ∷ errors.BadBackup
    ∷ later_order

-- what an answered refusal says of the bytes; running out of memory says nothing
abbrev pub Refused : Profile → List ℕ → Error → Type 0
Refused profile bs e = e ≢ errors.Memory → First (Applies profile bs) order e

-- the bytes are authenticator data that attest a credential: memory is taken for its id
abbrev pub TakesMemory : List ℕ → Type 0
TakesMemory bs = (a : AuthenticatorData) × AuthOf Strict a bs × IsSome a.attested
