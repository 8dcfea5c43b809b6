-- Finding and changing stored credentials.
use Rattle.std.specs.Prelude.{ℕ, List, [], ◌∷◌, Bool, ◌&&◌, Option, map, filter, find, reverse, if◌then◌else◌}
use Rattle.std.specs.Str.{bytes_eq}
use Rattle.authenticator.specs.State.{CredentialSource}

-- the credential of an id
abbrev pub credential_of : List ℕ → List CredentialSource → Option CredentialSource
credential_of id cs = find (λ c. bytes_eq c.id id) cs

-- the same credentials, that of the id with another counter
abbrev pub with_sign_count : List ℕ → ℕ → List CredentialSource → List CredentialSource
with_sign_count id n [] = []
with_sign_count id n (c ∷ cs) =
    if bytes_eq c.id id then (record c { sign_count = n }) ∷ cs else c ∷ with_sign_count id n cs

-- it is resident, and of this relying party
abbrev pub is_resident_for : List ℕ → CredentialSource → Bool
is_resident_for rp_id c = c.resident && bytes_eq c.rp_id rp_id

-- it is also of this user
abbrev pub is_resident_of : List ℕ → List ℕ → CredentialSource → Bool
is_resident_of rp_id user c = is_resident_for rp_id c && bytes_eq c.user user

-- the ids of a relying party's resident credentials, the most recent first
abbrev pub resident_ids : List ℕ → List CredentialSource → List (List ℕ)
resident_ids rp_id cs = reverse (map (λ c. c.id) (filter (is_resident_for rp_id) cs))

-- the same credentials without the first that passes the test
abbrev pub without_first : (CredentialSource → Bool) → List CredentialSource → List CredentialSource
without_first test [] = []
without_first test (c ∷ cs) = if test c then cs else c ∷ without_first test cs
