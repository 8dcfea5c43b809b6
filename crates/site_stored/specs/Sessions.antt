-- The sessions of a site over a store, which keeps nothing for them: each is a text that the site has sealed (WebAuthn Level 2, sections 7.1
-- and 7.2, step 1).
use Rattle.std.specs.Prelude.{◌≡◌, ◌<◌, ◌+◌, ◌-◌, ◌^◌, ℕ, List, [], Option, Some, None, if◌then◌else◌, min, nat_lt}
use Rattle.std.specs.FinMap as finite
use Rattle.sha2.specs.Sha256.{sha256}
use Rattle.authdata.specs.Responses.{AuthenticatorAssertionResponse}
use Rattle.verification.specs.Records.{Credential, ExpectedRegistration, ExpectedSignIn}
use Rattle.site_state.specs.Sessions.{Expected, ForRegistration, ForSignIn, Opening, challenge_of, expected_of}
use Rattle.site_rows.specs.Endings.{Endings, IsPurged}
use Rattle.site_rows.specs.declared.ending.Ending.{Ending}
use Rattle.site_seal.specs.Seal.{Ceremony, IsExpectedOf, IsSession, SealedSignIn, Session, registration, sealed_sign_in, sealed_text, sign_in, user_number}
use Rattle.site_stored.specs.State.{FitsColumn, StoredState}

-- what the text of a session holds of what it expects
abbrev pub ceremony_of : List ℕ → Expected → Ceremony
ceremony_of key (ForSignIn e) = sign_in (sealed_sign_in key e)
ceremony_of key (ForRegistration e) = registration e

-- the last second of the host's clock that a column holds
abbrev pub last_second : ℕ
last_second = 2 ^ 63 - 1

-- the second so many after this one, as far as a column holds it
abbrev pub until : ℕ → ℕ → ℕ
until now seconds = if nat_lt (now + seconds) last_second then now + seconds else last_second

-- the longest that a session is open, in seconds
abbrev pub longest : ℕ
longest = 1000000

-- the text of the session that begins with this opening at this second
abbrev pub begun_text : {S : Type 0} → StoredState S → Opening → ℕ → List ℕ
begun_text s o now =
    sealed_text s.key (sha256 s.rp.rp_id) (record { ends = until now (min s.lifetime longest); ceremony = ceremony_of s.key (expected_of s.next o) })

abbrev pub challenge_in : Ceremony → List ℕ
challenge_in (registration e) = e.challenge
challenge_in (sign_in x) = x.challenge

-- a text is that of a session of this number that was given, by this key and rp id: its challenge begins with the number; and its time is
-- not over
pub record IsGiven (key rp_id : List ℕ) (next now : ℕ) (text : List ℕ) (n : ℕ) (x : Session) : Type 0 where
  pub sealed : text ≡ sealed_text key (sha256 rp_id) x
  pub is : IsSession x
  pub number : (words : List ℕ) × (challenge_in x.ceremony ≡ challenge_of n words)
  pub given : n < next
  pub within : now < x.ends
  pub fits : FitsColumn x.ends

-- and it has not ended
abbrev pub IsOpen : {S : Type 0} → StoredState S → Endings → ℕ → List ℕ → ℕ → Session → Type 0
IsOpen s ended now text n x = IsGiven s.key s.rp.rp_id s.next now text n x × (finite.get ended n ≡ None)

-- the user of the credential that was found; no bytes, which no user has, where none was
abbrev pub user_of : Option Credential → List ℕ
user_of None = []
user_of (Some c) = c.user

-- what a text expects of a response, with the credential that was found for it, where it is that of an open session for sign-in
abbrev pub ExpectsSignIn : {S : Type 0} → StoredState S → Endings → ℕ → List ℕ → Option Credential → AuthenticatorAssertionResponse → Option ExpectedSignIn → Type 0
ExpectsSignIn s ended now text found r (Some e) =
    (n ends : ℕ) × (x : SealedSignIn) × IsOpen s ended now text n (record { ends = ends; ceremony = sign_in x })
    × IsExpectedOf s.key x (user_of found) r.credential e
ExpectsSignIn s ended now text found r None =
    (n ends : ℕ) (x : SealedSignIn) → IsOpen s ended now text n (record { ends = ends; ceremony = sign_in x }) → ⊥

-- registrations of a user with a number below this one have ended
abbrev pub IsCutOff : List ℕ → Endings → ℕ → List ℕ → Type 0
IsCutOff key users n handle = (e : Ending) × (finite.get users (user_number key handle) ≡ Some e) × (n < e.said)

-- what a text expects, where it is that of an open session for registration
abbrev pub ExpectsRegistration : {S : Type 0} → StoredState S → Endings → Endings → ℕ → List ℕ → Option ExpectedRegistration → Type 0
ExpectsRegistration s ended users now text (Some e) =
    (n ends : ℕ) × IsOpen s ended now text n (record { ends = ends; ceremony = registration e }) × (IsCutOff s.key users n e.user → ⊥)
ExpectsRegistration s ended users now text None =
    (n ends : ℕ) (e : ExpectedRegistration) → IsOpen s ended now text n (record { ends = ends; ceremony = registration e }) → (IsCutOff s.key users n e.user → ⊥) → ⊥

-- ---- sessions end

-- how a session ended
abbrev pub accepted : ℕ
accepted = 1

abbrev pub abandoned : ℕ
abandoned = 2

-- what a call makes of a table of endings: what need not be known any more may be gone, and this has ended
abbrev pub Ends : ℕ → ℕ → Ending → Endings → Endings → Type 0
Ends now number ending before after = (mid : Endings) × IsPurged now before mid × (after ≡ finite.insert mid number ending)

-- the session of a text has ended so
abbrev pub EndsSession : {S : Type 0} → StoredState S → ℕ → ℕ → List ℕ → Endings → Endings → Type 0
EndsSession s how now text before after =
    (n : ℕ) × (x : Session) × IsOpen s before now text n x × Ends now n (record { said = how; until = x.ends }) before after

-- the registrations of a user that have begun have ended
abbrev pub CutsOff : {S : Type 0} → StoredState S → ℕ → List ℕ → Endings → Endings → Type 0
CutsOff s now handle before after = Ends now (user_number s.key handle) (record { said = s.next; until = until now longest }) before after
