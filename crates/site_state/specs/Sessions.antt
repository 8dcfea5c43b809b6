-- The ceremonies that a relying party has begun (WebAuthn Level 2, sections 7.1 and 7.2: the options that were
-- passed to the client, and their challenge, section 13.4.3).
use Rattle.std.specs.Prelude.{◌≡◌, ◌≤◌, ◌<◌, ◌+◌, ◌-◌, ◌^◌, ℕ, List, [], ◌∷◌, ◌++◌, length, Bool, true, false, Option, Some, None}
use Rattle.std.specs.Option.{ForSome}
use Rattle.std.specs.List.{AllByRecursion}
use Rattle.std.specs.Int.{w64, to_be_bytes}
use Rattle.std.specs.Ordering.{nat_cmp}
use Rattle.std.specs.FinMap as finite
use Rattle.refusal_order.specs.Lines.{Each, FirstFailing}
use Rattle.cose.specs.declared.key.Alg.{Alg}
use Rattle.authdata.specs.declared.profile.Profile.{Profile}
use Rattle.authdata.specs.declared.profile.Profile.TheVariants.{Strict, Open, Level3}
use Rattle.authdata.specs.Profiles.{max_id}
use Rattle.verification.specs.Records.{ExpectedSignIn, ExpectedRegistration}
use Rattle.site_state.specs.Table.{IsWithin}
use Rattle.site_state.specs.declared.error.BeginError.{BeginError}
use Rattle.site_state.specs.declared.session.Asks.{Asks}
use Rattle.site_state.specs.declared.error.BeginError.TheVariants as errors

-- what a session expects
pub data Expected : Type 0 where
  ForSignIn : (e : ExpectedSignIn) → Expected
  ForRegistration : (e : ExpectedRegistration) → Expected

-- the open sessions by their numbers, the number of the next, and the most that are open at a time
pub record OpenSessions : Type 0 where
  pub expected : finite.FinMap nat_cmp Expected
  pub next : ℕ
  pub max_open : ℕ

abbrev pub for_sign_in : Option Expected → Option ExpectedSignIn
for_sign_in None = None
for_sign_in (Some (ForSignIn e)) = Some e
for_sign_in (Some (ForRegistration e)) = None

abbrev pub for_registration : Option Expected → Option ExpectedRegistration
for_registration None = None
for_registration (Some (ForSignIn e)) = None
for_registration (Some (ForRegistration e)) = Some e

-- what the session of this number expects, where it is open for sign-in; where it is open for registration
abbrev pub sign_in_at : ℕ → OpenSessions → Option ExpectedSignIn
sign_in_at n s = for_sign_in (finite.get s.expected n)

abbrev pub registration_at : ℕ → OpenSessions → Option ExpectedRegistration
registration_at n s = for_registration (finite.get s.expected n)

-- a registration is for a user handle of 1 to 64 bytes
abbrev pub AreLimits : Option Expected → Type 0
AreLimits None = Unit {0}
AreLimits (Some (ForSignIn e)) = Unit {0}
AreLimits (Some (ForRegistration e)) = IsWithin 64 e.user

-- ---- a session begins

-- what is asked of a session: the user, where one is named; the credentials that may answer, or the algorithms
-- that are offered; whether the user is to be verified; the words of its challenge; and how a registration is begun
pub data Opening : Type 0 where
  OpensSignIn : (user : Option (List ℕ)) (allow : List (List ℕ)) (uv : Bool) (words : List ℕ) → Opening
  OpensRegistration : (user : List ℕ) (algorithms : List Alg) (uv : Bool) (words : List ℕ) (asks : Asks) → Opening

-- not conditional, and an attestation is asked for
abbrev pub usual : Asks
usual = record { conditional = false; attestation = true }

-- the challenge: the session's number, in 8 big-endian bytes, then the words
abbrev pub challenge_of : ℕ → List ℕ → List ℕ
challenge_of n words = to_be_bytes w64 n ++ words

-- what a session of this number expects, that begins with this opening
abbrev pub sign_in_of : ℕ → Option (List ℕ) → List (List ℕ) → Bool → List ℕ → ExpectedSignIn
sign_in_of n user allow uv words = record { user = user; allow = allow; uv = uv; challenge = challenge_of n words }

abbrev pub registration_of : ℕ → List ℕ → List Alg → Bool → List ℕ → Asks → ExpectedRegistration
registration_of n user algorithms uv words asks = record {
  user = user;
  algorithms = algorithms;
  uv = uv;
  challenge = challenge_of n words;
  conditional = asks.conditional;
  attestation = asks.attestation;
}

abbrev pub expected_of : ℕ → Opening → Expected
expected_of n (OpensSignIn user allow uv words) = ForSignIn (sign_in_of n user allow uv words)
expected_of n (OpensRegistration user algorithms uv words asks) = ForRegistration (registration_of n user algorithms uv words asks)

-- the next number is opened, and the one after it is next
abbrev pub begun : OpenSessions → Opening → OpenSessions
begun s o = record s { expected = finite.insert s.expected s.next (expected_of s.next o); next = s.next + 1 }

-- the session of a number is taken out
abbrev pub closed : ℕ → OpenSessions → OpenSessions
closed n s = record s { expected = finite.remove s.expected n }

-- ---- numbers

abbrev pub challenge_in : Expected → List ℕ
challenge_in (ForSignIn e) = e.challenge
challenge_in (ForRegistration e) = e.challenge

-- the session has this number, where the next has that one: the number was given, being below the next, and its challenge
-- begins with it
abbrev pub HasNumber : ℕ → ℕ → Expected → Type 0
HasNumber next n e = (n < next) × ((words : List ℕ) × (challenge_in e ≡ challenge_of n words))

-- so it is of each session that is open
abbrev pub HaveNumbers : ℕ → finite.FinMap nat_cmp Expected → Type 0
HaveNumbers next expected = (n : ℕ) (e : Expected) → finite.get expected n ≡ Some e → HasNumber next n e

-- ---- what may begin

-- the most credentials that may answer: 64, and 8 in the strict profile
abbrev pub max_listed : Profile → ℕ
max_listed Strict = 8
max_listed Open = 64
max_listed Level3 = 64

-- user handles have 1 to 64 bytes, and credential ids 1 to those of the profile; as many credentials may answer as the profile has;
-- an algorithm is offered
abbrev pub IsInput : Profile → Opening → Type 0
IsInput profile (OpensSignIn user allow uv words) =
    ForSome user (IsWithin 64) × (length allow ≤ max_listed profile) × AllByRecursion (IsWithin (max_id profile)) allow
IsInput profile (OpensRegistration user algorithms uv words asks) = IsWithin 64 user × (1 ≤ length algorithms)

-- why it is not told what a session expects: what is asked is out of its limits, or there was no memory
abbrev pub IsNotExpected : Type 0 → BeginError → Type 0
IsNotExpected input errors.BadInput = input → ⊥
IsNotExpected input errors.SessionsFull = ⊥
IsNotExpected input errors.Exhausted = ⊥
IsNotExpected input errors.Memory = Unit {0}

-- there is no reason to refuse it: what is asked is within its limits; fewer sessions are open than
-- the most; the next number is not the last
abbrev pub PassesOpeningStep : Profile → OpenSessions → Opening → BeginError → Type 0
PassesOpeningStep profile s o errors.BadInput = IsInput profile o
PassesOpeningStep profile s o errors.SessionsFull = finite.len s.expected < s.max_open
PassesOpeningStep profile s o errors.Exhausted = s.next < 2 ^ 64 - 1
PassesOpeningStep profile s o errors.Memory = Unit {0}

abbrev pub refusals_in_order : List BeginError
refusals_in_order = errors.BadInput ∷ errors.SessionsFull ∷ errors.Exhausted ∷ []

abbrev pub PassesOpening : Profile → OpenSessions → Opening → Type 0
PassesOpening profile s o = Each (PassesOpeningStep profile s o) refusals_in_order

-- the first reason is named; running out of memory says nothing
abbrev pub IsRefused : Profile → OpenSessions → Opening → BeginError → Type 0
IsRefused profile s o errors.Memory = Unit {0}
IsRefused profile s o e = FirstFailing (PassesOpeningStep profile s o) refusals_in_order e
