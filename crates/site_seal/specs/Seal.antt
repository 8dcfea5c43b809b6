-- A ceremony that has begun, as a text under the key of a site that keeps nothing for it (WebAuthn Level 2, sections 7.1 and
-- 7.2, step 1; section 13.4.3 on challenges). The layout is this product's own.
use Rattle.std.specs.Prelude.{◌≡◌, ◌<◌, ◌≤◌, ◌^◌, ◌⊎◌, ◌%◌, ℕ, take, List, [], ◌∷◌, ◌++◌, Bool, true, false, Option, Some, None, IfSome, map, length, option_map, Contains}
use Rattle.std.specs.List.{AllByRecursion, concat, list_any}
use Rattle.std.specs.Int.{w64, from_be_bytes, to_be_bytes}
use Rattle.cose.specs.declared.key.Alg.{Alg}
use Rattle.cose.specs.declared.key.Alg.TheVariants as algorithm
use Rattle.verification.specs.Records.{ExpectedSignIn, ExpectedRegistration}
use Rattle.site_seal.specs.Hmac.{hmac_sha256}

-- a sign-in as its text holds it: the user, where one is named, and the credentials that may answer stand there as hashes
-- that only the site's key makes
pub record SealedSignIn : Type 0 where
  pub user : Option (List ℕ)
  pub allow : List (List ℕ)
  pub uv : Bool
  pub challenge : List ℕ

pub data Ceremony : Type 0 where
  registration : ExpectedRegistration → Ceremony
  sign_in : SealedSignIn → Ceremony

-- the ceremony, and the second at which it ends
pub record Session : Type 0 where
  pub ends : ℕ
  pub ceremony : Ceremony

-- what the key authenticates begins with its purpose: 1 for a text, 2 for a user, 3 for a credential, 4 for a user whose
-- registrations have ended
abbrev pub user_hash : List ℕ → List ℕ → List ℕ → List ℕ
user_hash key challenge handle = hmac_sha256 key (2 ∷ (challenge ++ handle))

abbrev pub id_hash : List ℕ → List ℕ → List ℕ → List ℕ
id_hash key challenge id = hmac_sha256 key (3 ∷ (challenge ++ id))

-- the number, of 63 bits, under which a site keeps that a user's registrations have ended
abbrev pub user_number : List ℕ → List ℕ → ℕ
user_number key handle = from_be_bytes w64 (take 8 (hmac_sha256 key (4 ∷ handle))) % 2 ^ 63

-- what the text of a sign-in holds of what it expects
abbrev pub sealed_sign_in : List ℕ → ExpectedSignIn → SealedSignIn
sealed_sign_in key e = record {
  user = option_map (user_hash key e.challenge) e.user;
  allow = map (id_hash key e.challenge) e.allow;
  uv = e.uv;
  challenge = e.challenge;
}

abbrev pub is_es256 : Alg → Bool
is_es256 algorithm.Es256 = true
is_es256 algorithm.EdDsa = false
is_es256 algorithm.Rs256 = false

abbrev pub is_ed_dsa : Alg → Bool
is_ed_dsa algorithm.Es256 = false
is_ed_dsa algorithm.EdDsa = true
is_ed_dsa algorithm.Rs256 = false

abbrev pub is_rs256 : Alg → Bool
is_rs256 algorithm.Es256 = false
is_rs256 algorithm.EdDsa = false
is_rs256 algorithm.Rs256 = true

-- the algorithm, where it is offered
abbrev pub offered_if : Bool → Alg → List Alg
offered_if true a = a ∷ []
offered_if false a = []

-- each algorithm that is offered once, in this order
abbrev pub in_order : Bool → Bool → Bool → List Alg
in_order es256 ed_dsa rs256 = offered_if es256 algorithm.Es256 ++ (offered_if ed_dsa algorithm.EdDsa ++ offered_if rs256 algorithm.Rs256)

abbrev pub ordered : List Alg → List Alg
ordered offered = in_order (list_any is_es256 offered) (list_any is_ed_dsa offered) (list_any is_rs256 offered)

abbrev pub AreInOrder : List Alg → Type 0
AreInOrder offered = offered ≡ ordered offered

abbrev pub flag : Bool → ℕ
flag true = 1
flag false = 0

-- whether there is a hash, and the hash
abbrev pub user_bytes : Option (List ℕ) → List ℕ
user_bytes None = 0 ∷ []
user_bytes (Some hash) = 1 ∷ hash

-- a registration, after its challenge: uv, conditional, attestation, whether ES256, EdDSA and RS256 are offered, the user
-- handle's length and the handle
abbrev pub registration_bytes : ExpectedRegistration → List ℕ
registration_bytes e =
    flag e.uv ∷ flag e.conditional ∷ flag e.attestation ∷ flag (list_any is_es256 e.algorithms) ∷ flag (list_any is_ed_dsa e.algorithms)
    ∷ flag (list_any is_rs256 e.algorithms) ∷ length e.user ∷ e.user

-- a sign-in, after its challenge: uv, the user, how many credentials may answer and their hashes
abbrev pub sign_in_bytes : SealedSignIn → List ℕ
sign_in_bytes s = flag s.uv ∷ (user_bytes s.user ++ (length s.allow ∷ concat s.allow))

-- which ceremony (1 byte), when it ends (8, big-endian), the challenge (32), and the rest
abbrev pub text_of : ℕ → ℕ → List ℕ → List ℕ → List ℕ
text_of kind ends challenge rest = kind ∷ (to_be_bytes w64 ends ++ (challenge ++ rest))

abbrev pub ceremony_text : ℕ → Ceremony → List ℕ
ceremony_text ends (registration e) = text_of 1 ends e.challenge (registration_bytes e)
ceremony_text ends (sign_in s) = text_of 2 ends s.challenge (sign_in_bytes s)

abbrev pub spelled : Session → List ℕ
spelled s = ceremony_text s.ends s.ceremony

-- the text, and its hash with that of the rp id before it
abbrev pub sealed_text : List ℕ → List ℕ → Session → List ℕ
sealed_text key rp_id_hash s = spelled s ++ hmac_sha256 key (1 ∷ (rp_id_hash ++ spelled s))

abbrev pub IsWithin : ℕ → List ℕ → Type 0
IsWithin most bytes = (1 ≤ length bytes) × (length bytes ≤ most)

abbrev pub IsHash : List ℕ → Type 0
IsHash hash = length hash ≡ 32

-- what a text can hold of a registration, and of a sign-in
pub record IsRegistration (e : ExpectedRegistration) : Type 0 where
  pub user : IsWithin 64 e.user
  pub algorithms : AreInOrder e.algorithms
  pub challenge : length e.challenge ≡ 32

pub record IsSealedSignIn (s : SealedSignIn) : Type 0 where
  pub user : IfSome s.user IsHash
  pub count : length s.allow ≤ 64
  pub allow : AllByRecursion IsHash s.allow
  pub challenge : length s.challenge ≡ 32

abbrev pub IsCeremony : Ceremony → Type 0
IsCeremony (registration e) = IsRegistration e
IsCeremony (sign_in s) = IsSealedSignIn s

abbrev pub IsSession : Session → Type 0
IsSession s = (s.ends < 2 ^ 64) × IsCeremony s.ceremony

-- the limits of a sign-in that can be sealed: a user handle of 1 to 64 bytes, at most 64 ids, each of 1 to 1,023 bytes
pub record IsSignIn (e : ExpectedSignIn) : Type 0 where
  pub user : IfSome e.user (IsWithin 64)
  pub count : length e.allow ≤ 64
  pub allow : AllByRecursion (IsWithin 1023) e.allow

-- no user is named, or the user of this handle
abbrev pub NamesUser : List ℕ → SealedSignIn → List ℕ → Type 0
NamesUser key s handle = (s.user ≡ None) ⊎ (s.user ≡ Some (user_hash key s.challenge handle))

-- no credential is listed, or the one of this id
abbrev pub Allows : List ℕ → SealedSignIn → List ℕ → Type 0
Allows key s id = (s.allow ≡ []) ⊎ Contains s.allow (id_hash key s.challenge id)

-- what a sealed sign-in expects of the credential of this user and this id: the user, where that user is named, and the id, where
-- that id is listed; where another is, a handle or an id of no bytes, which no credential has
pub record IsExpectedUser (key : List ℕ) (s : SealedSignIn) (handle : List ℕ) (user : Option (List ℕ)) : Type 0 where
  pub none : s.user ≡ None → user ≡ None
  pub named : s.user ≡ Some (user_hash key s.challenge handle) → user ≡ Some handle
  pub other : (NamesUser key s handle → ⊥) → user ≡ Some []

pub record AreExpectedIds (key : List ℕ) (s : SealedSignIn) (id : List ℕ) (allow : List (List ℕ)) : Type 0 where
  pub none : s.allow ≡ [] → allow ≡ []
  pub listed : Contains s.allow (id_hash key s.challenge id) → allow ≡ id ∷ []
  pub other : (Allows key s id → ⊥) → allow ≡ [] ∷ []

pub record IsExpectedOf (key : List ℕ) (s : SealedSignIn) (handle id : List ℕ) (e : ExpectedSignIn) : Type 0 where
  pub user : IsExpectedUser key s handle e.user
  pub allow : AreExpectedIds key s id e.allow
  pub uv : e.uv ≡ s.uv
  pub challenge : e.challenge ≡ s.challenge
