-- In which order an authenticator refuses a request that was read: tables of facts and status bytes (CTAP 2.1,
-- section 8.2). The first line whose fact is so decides. The orders are this product's: consent is asked for
-- before stored credentials are looked at.
use Rattle.std.specs.Prelude.{ℕ, List, [], ◌∷◌, Bool, true, false, not, ◌&&◌, ◌||◌, ◌==◌, nat_le, length, Option, Some, None, is_some, is_none, ℤ}
use Rattle.std.specs.Prelude.{pos, negsuc, codes, find, option_map, option_to_list, if◌then◌else◌}
use Rattle.std.specs.List.{list_any}
use Rattle.std.specs.Option.{option_or}
use Rattle.std.specs.Str.{bytes_eq}
use Rattle.cose.specs.declared.key.SigningAlg.{SigningAlg}
use Rattle.cose.specs.declared.key.SigningAlg.TheVariants as algs
use Rattle.cose.specs.Keys.{argument_of, signed_alg}
use Rattle.ctap_requests.specs.Entities.{CredentialDescriptor, CredentialParameters, CreationFlags, AssertionFlags}
use Rattle.ctap_requests.specs.Requests.{CreationRequest, AssertionRequest}
use Rattle.authenticator.specs.State.{CredentialSource, Remembered, AuthenticatorState}
use Rattle.authenticator.specs.Credentials.{credential_of, is_resident_of, resident_ids, without_first}
use Rattle.authenticator.specs.declared.consent.Consent.{Consent}
use Rattle.authenticator.specs.declared.consent.Words.{Words}

-- ---- options: one that is not there is neither true nor false

abbrev pub is_true : Option Bool → Bool
is_true None = false
is_true (Some b) = b

abbrev pub is_false : Option Bool → Bool
is_false None = false
is_false (Some b) = not b

-- section 6.1: the options of a request that has none are not there
abbrev pub creation_flags : Option CreationFlags → CreationFlags
creation_flags None = record { rk = None; up = None; uv = None }
creation_flags (Some flags) = flags

-- section 6.2
abbrev pub assertion_flags : Option AssertionFlags → AssertionFlags
assertion_flags None = record { up = None; uv = None }
assertion_flags (Some flags) = flags

-- ---- parts of requests

-- the one type that is known (WebAuthn Level 2, section 5.8.2)
abbrev pub is_public_key : List ℕ → Bool
is_public_key kind = bytes_eq kind (codes "public-key")

-- the algorithm of a COSE number, where it is supported
abbrev pub supported : ℤ → Option SigningAlg
supported (pos n) = None
supported (negsuc n) =
    if n == argument_of (signed_alg algs.Es256) then Some algs.Es256
    else if n == argument_of (signed_alg algs.EdDsa) then Some algs.EdDsa
    else None

abbrev pub supported_by : CredentialParameters → Option SigningAlg
supported_by p = if is_public_key p.kind then supported p.alg else None

-- the first that is supported
abbrev pub first_supported : List CredentialParameters → Option SigningAlg
first_supported [] = None
first_supported (p ∷ ps) = option_or (supported_by p) (first_supported ps)

abbrev pub is_of : List ℕ → Option CredentialSource → Bool
is_of rp_id None = false
is_of rp_id (Some c) = bytes_eq c.rp_id rp_id

-- the descriptor is of a credential that is stored for this relying party
abbrev pub is_stored_for : List ℕ → List CredentialSource → CredentialDescriptor → Bool
is_stored_for rp_id cs d = is_public_key d.kind && is_of rp_id (credential_of d.id cs)

-- an exclude list that is not there is empty
abbrev pub is_excluded : List ℕ → List CredentialSource → Option (List CredentialDescriptor) → Bool
is_excluded rp_id cs None = false
is_excluded rp_id cs (Some ds) = list_any (is_stored_for rp_id cs) ds

-- the ids of the credentials that may answer, in their order: without an allow list the resident ones, with
-- one the first of the list that is stored for this relying party
abbrev pub candidates : List CredentialSource → List ℕ → Option (List CredentialDescriptor) → List (List ℕ)
candidates cs rp_id None = resident_ids rp_id cs
candidates cs rp_id (Some ds) = option_to_list (option_map (λ d. d.id) (find (is_stored_for rp_id cs) ds))

-- the counter, of 32 bits, can grow no more; so it is said of a credential that isn't there
abbrev pub is_at_end : Option CredentialSource → Bool
is_at_end None = true
is_at_end (Some c) = nat_le 4294967295 c.sign_count

-- the first of them
abbrev pub first_is_at_end : List CredentialSource → List (List ℕ) → Bool
first_is_at_end cs [] = true
first_is_at_end cs (id ∷ ids) = is_at_end (credential_of id cs)

abbrev pub is_empty : {X : Type 0} → List X → Bool
is_empty [] = true
is_empty (x ∷ xs) = false

-- ---- authenticatorMakeCredential (section 6.1)

-- what stays when the credential is made: where it is to be resident, no other resident one of its relying
-- party and user
abbrev pub kept : List CredentialSource → CreationRequest → List CredentialSource
kept cs q =
    if is_true (creation_flags q.options).rk then without_first (is_resident_of q.rp.id q.user.id) cs else cs

-- no algorithm is supported; an option can't be met; consent is missing; a credential is excluded; the id is
-- taken; no room is left
abbrev pub creation_order : AuthenticatorState → CreationRequest → Consent → Words → List (Bool × ℕ)
creation_order a q consent words =
    let flags = creation_flags q.options in
    (is_none (first_supported q.pub_key_cred_params), 0x26)
    ∷ (is_false flags.up || (is_true flags.uv && not a.uv), 0x2C)
    ∷ (not consent.present || (is_true flags.uv && not consent.verified), 0x27)
    ∷ (is_excluded q.rp.id a.credentials q.exclude_list, 0x19)
    ∷ (is_some (credential_of words.id a.credentials), 0x7F)
    ∷ (nat_le 256 (length (kept a.credentials q)), 0x28)
    ∷ []

-- ---- authenticatorGetAssertion (section 6.2)

-- an option can't be met; consent is missing; no credential may answer; the first one's counter can't grow
abbrev pub assertion_order : AuthenticatorState → AssertionRequest → Consent → List (Bool × ℕ)
assertion_order a q consent =
    let flags = assertion_flags q.options in
    let ids = candidates a.credentials q.rp_id q.allow_list in
    (is_true flags.uv && not a.uv, 0x2C)
    ∷ ((not (is_false flags.up) && not consent.present) || (is_true flags.uv && not consent.verified), 0x27)
    ∷ (is_empty ids, 0x2E)
    ∷ (first_is_at_end a.credentials ids, 0x7F)
    ∷ []

-- ---- authenticatorGetNextAssertion (section 6.3)

-- the getAssertion that is remembered, if it is this channel's
abbrev pub remembered_on : ℕ → Option Remembered → Option Remembered
remembered_on channel None = None
remembered_on channel (Some r) = if r.asked.channel == channel then Some r else None

-- the next credential's counter can't grow
abbrev pub next_is_at_end : List CredentialSource → Option Remembered → Bool
next_is_at_end cs None = true
next_is_at_end cs (Some r) = is_at_end (credential_of r.next cs)

-- nothing is remembered on the channel; the next credential's counter can't grow
abbrev pub next_order : AuthenticatorState → ℕ → List (Bool × ℕ)
next_order a channel =
    let remembered = remembered_on channel a.remembered in
    (is_none remembered, 0x30)
    ∷ (next_is_at_end a.credentials remembered, 0x7F)
    ∷ []

-- ---- authenticatorReset (section 6.6)

-- consent is missing
abbrev pub reset_order : Consent → List (Bool × ℕ)
reset_order consent = (not consent.present, 0x27) ∷ []
