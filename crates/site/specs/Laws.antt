-- What holds of every site, whatever is asked of it.
use Rattle.std.specs.Prelude.{◌≡◌, ◌<◌, ◌≤◌, ◌-◌, ◌^◌, ℕ, List, Bool, true, Some, None, IsSome}
use Rattle.std.specs.FinMap as finite
use Rattle.authdata.specs.Flags.{is_set, BE}
use Rattle.authdata.specs.Layout.{AuthenticatorData, AuthOf}
use Rattle.authdata.specs.Responses.{AuthenticatorAssertionResponse}
use Rattle.authdata.specs.Responses as responses
use Rattle.verification.specs.Records.{Credential, ExpectedRegistration, ExpectedSignIn}
use Rattle.cose.specs.Schemes.{Validity}
use Rattle.verification.specs.SignIn as authentication
use Rattle.verification.specs.Registration as registration
use Rattle.site_state.specs.Table.{row_of, with_row, signed_in, retired}
use Rattle.site.specs.Saved.{TableOf}
use Rattle.site_state.specs.Sessions.{Expected, ForRegistration, ForSignIn, Opening, begun, challenge_in, challenge_of, closed, registration_at, sign_in_at}
use Rattle.site.specs.State.{SiteState, judged_sign_in, judged_registration, IsAfterSignIn, IsAfterRegistration, none_open, saved_of}

-- the credential is still there: its key and its user are what they were, its counter has not fallen, what is known
-- of its eligibility is known, and if it was retired it is
pub record IsKept (row : Credential) (rows : List Credential) : Type 0 where
  pub now : Credential
  pub found : row_of row.id rows ≡ Some now
  pub key : now.key ≡ row.key
  pub user : now.user ≡ row.user
  pub sign_count : row.sign_count ≤ now.sign_count
  pub eligible : (known : Bool) → row.eligible ≡ Some known → now.eligible ≡ Some known
  pub retired : row.retired ≡ true → now.retired ≡ true

-- each open session has a number below the next
abbrev pub IsFresh : SiteState → Type 0
IsFresh s = (n : ℕ) → IsSome (finite.get s.sessions.expected n) → n < s.sessions.next

-- a number that was given, and is closed
abbrev pub IsGone : SiteState → ℕ → Type 0
IsGone s n = (n < s.sessions.next) × (finite.get s.sessions.expected n ≡ None)

-- no credential is lost, and no session comes again
pub record GoesOn (s t : SiteState) : Type 0 where
  pub rows : (id : List ℕ) (row : Credential) → row_of id s.rows ≡ Some row → IsKept row t.rows
  pub gone : (n : ℕ) → IsGone s n → IsGone t n
  pub rp : t.rp ≡ s.rp

-- each open session's challenge begins with its number
abbrev pub IsNumbered : SiteState → Type 0
IsNumbered s = (n : ℕ) (e : Expected) → finite.get s.sessions.expected n ≡ Some e → (n < 2 ^ 64) × ((words : List ℕ) × (challenge_in e ≡ challenge_of n words))

pub record Keeps (s t : SiteState) : Type 0 where
  pub numbered : IsNumbered s → IsNumbered t
  pub fresh : IsFresh t
  pub goes_on : GoesOn s t

-- the session was open, and is gone
pub record Takes (s t : SiteState) (n : ℕ) : Type 0 where
  pub was_open : IsSome (finite.get s.sessions.expected n)
  pub gone : IsGone t n

-- a session begins; one is abandoned; a credential is retired; the table is saved and loaded
abbrev pub after_begin : SiteState → Opening → SiteState
after_begin s o = record s { sessions = begun s.sessions o }

abbrev pub after_abandon : SiteState → ℕ → SiteState
after_abandon s n = record s { sessions = closed n s.sessions }

abbrev pub after_retire : SiteState → List ℕ → SiteState
after_retire s id = record s { rows = with_row id retired s.rows }

abbrev pub after_restart : ℕ → SiteState → SiteState
after_restart max_open s = record s { sessions = none_open max_open s.sessions.next }

pub record SiteLaws (valid : Validity) : Type 0 where
  pub stays : (s : SiteState) → GoesOn s s
  pub onward : (s t u : SiteState) → GoesOn s t → GoesOn t u → GoesOn s u
  -- a site begins without sessions
  pub starts : (s : SiteState) → s.sessions.expected ≡ finite.empty → IsFresh s × IsNumbered s
  -- whatever happens to it, it keeps what it has
  pub begins : (s : SiteState) (o : Opening) → s.sessions.next < 2 ^ 64 - 1 → IsFresh s → Keeps s (after_begin s o)
  -- and a session that begins is put in no other's place
  pub stays_open : (s : SiteState) (o : Opening) (n : ℕ) (e : Expected) → IsFresh s → finite.get s.sessions.expected n ≡ Some e
      → finite.get (after_begin s o).sessions.expected n ≡ Some e
  pub abandons : (s : SiteState) (n : ℕ) → IsFresh s → Keeps s (after_abandon s n)
  pub retires : (s : SiteState) (id : List ℕ) → IsFresh s → Keeps s (after_retire s id)
  pub restarts : (max_open : ℕ) (s : SiteState) → IsFresh s → Keeps s (after_restart max_open s)
  -- an acceptance takes its session
  pub signs_in : (s : SiteState) (n : ℕ) (r : AuthenticatorAssertionResponse) (t : SiteState) → IsFresh s
      → authentication.PassesSignIn valid (judged_sign_in s n r) → IsAfterSignIn s n r t → Keeps s t × Takes s t n
  pub registers : (s : SiteState) (n : ℕ) (r : responses.AuthenticatorAttestationResponse) (t : SiteState) → IsFresh s
      → registration.PassesRegistration valid (judged_registration s n r) → IsAfterRegistration s n r t → Keeps s t × Takes s t n
  -- and stores the counter and the mark of eligibility that came
  pub stores : (s : SiteState) (n : ℕ) (r : AuthenticatorAssertionResponse) (t : SiteState) (row : Credential) → IsAfterSignIn s n r t
      → row_of r.credential s.rows ≡ Some row
      → (a : AuthenticatorData) × AuthOf s.rp.profile a r.auth_data × (row_of r.credential t.rows ≡ Some (signed_in a.sign_count (is_set a.flags BE) row))
  -- two sessions have two challenges
  pub one_number : (n k : ℕ) (v w : List ℕ) → n < 2 ^ 64 → k < 2 ^ 64 → challenge_of n v ≡ challenge_of k w → (n ≡ k) × (v ≡ w)
  -- a session for sign-in answers no registration, and one for registration no sign-in
  pub is_open : (s : SiteState) (n : ℕ) (e : ExpectedSignIn) → sign_in_at n s.sessions ≡ Some e → finite.get s.sessions.expected n ≡ Some (ForSignIn e)
  pub is_open_to_register : (s : SiteState) (n : ℕ) (e : ExpectedRegistration) → registration_at n s.sessions ≡ Some e
      → finite.get s.sessions.expected n ≡ Some (ForRegistration e)
  -- a sign-in is judged by the relying party, what its session expects, and its credential alone
  pub judged : (s t : SiteState) (n : ℕ) (r : AuthenticatorAssertionResponse) → t.rp ≡ s.rp → sign_in_at n t.sessions ≡ sign_in_at n s.sessions
      → row_of r.credential t.rows ≡ row_of r.credential s.rows → judged_sign_in t n r ≡ judged_sign_in s n r
  -- no credential that is retired signs in, and no id that has a credential is registered
  pub retired_refused : (s : SiteState) (n : ℕ) (r : AuthenticatorAssertionResponse) (row : Credential) → row_of r.credential s.rows ≡ Some row
      → row.retired ≡ true
      → authentication.PassesSignIn valid (judged_sign_in s n r) → ⊥
  pub registered_refused : (s : SiteState) (n : ℕ) (r : responses.AuthenticatorAttestationResponse)
      → registration.PassesRegistration valid (judged_registration s n r)
      → registration.Attested s.rp.profile r (λ o a c. row_of c.id s.rows ≡ None)
  -- what was saved is loaded: the same bytes are those of one table and one next number
  pub one_saved : (s t : SiteState) (v w : ℕ) (bytes : List ℕ) → TableOf v (saved_of s) bytes → TableOf w (saved_of t) bytes
      → (t.rows ≡ s.rows) × (t.sessions.next ≡ s.sessions.next)
