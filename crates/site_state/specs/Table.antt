-- The table of credentials that a relying party keeps (WebAuthn Level 2, section 7), in order of registration.
use Rattle.std.specs.Prelude.{◌≡◌, ◌≤◌, ℕ, List, [], ◌∷◌, length, nat_lt, Bool, true, false, Option, Some, None, if◌then◌else◌}
use Rattle.std.specs.Str.{bytes_eq}
use Rattle.authdata.specs.declared.profile.Profile.{Profile}
use Rattle.authdata.specs.Profiles.{max_id}
use Rattle.verification.specs.Records.{Credential}

-- the credential of an id
abbrev pub row_of : List ℕ → List Credential → Option Credential
row_of id [] = None
row_of id (row ∷ rows) = if bytes_eq id row.id then Some row else row_of id rows

-- the same credentials, that of the id changed
abbrev pub with_row : List ℕ → (Credential → Credential) → List Credential → List Credential
with_row id change [] = []
with_row id change (row ∷ rows) = if bytes_eq id row.id then change row ∷ rows else row ∷ with_row id change rows

-- a credential after a sign-in: with the signature counter received and the mark of eligibility (BE) received
abbrev pub signed_in : ℕ → Bool → Credential → Credential
signed_in sign_count eligible row = record row { sign_count = sign_count; eligible = Some eligible }

-- a credential after it is retired
abbrev pub retired : Credential → Credential
retired row = record row { retired = true }

-- from 1 to n bytes
abbrev pub IsWithin : ℕ → List ℕ → Type 0
IsWithin n bs = (1 ≤ length bs) × (length bs ≤ n)

-- an id of at least 1 byte and at most those of the profile; a user handle of 1 to 64
abbrev pub IsRow : Profile → Credential → Type 0
IsRow profile row = IsWithin (max_id profile) row.id × IsWithin 64 row.user

-- each credential is within its limits, and none after it has its id
abbrev pub AreRows : Profile → List Credential → Type 0
AreRows profile [] = Unit {0}
AreRows profile (row ∷ rows) = IsRow profile row × (row_of row.id rows ≡ None) × AreRows profile rows

-- at most 65,536 credentials, each within its limits, no two of one id
abbrev pub IsTable : Profile → List Credential → Type 0
IsTable profile rows = (length rows ≤ 65536) × AreRows profile rows

-- an id of more than 64 bytes stands in it
abbrev pub has_long : List Credential → Bool
has_long [] = false
has_long (row ∷ rows) = if nat_lt 64 (length row.id) then true else has_long rows
