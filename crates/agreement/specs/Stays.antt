-- What stays: an open session, until its own end (WebAuthn Level 2, sections 7.1 and 7.2); and what goes: each credential, by a reset
-- (CTAP 2.1, section 6.6).
use Rattle.std.specs.Prelude.{◌≡◌, ℕ, List, [], ◌++◌, true, Some}
use Rattle.std.specs.List.{All}
use Rattle.std.specs.FinMap as finite
use Rattle.cose.specs.Schemes.{Validity}
use Rattle.authdata.specs.Responses.{AuthenticatorAssertionResponse}
use Rattle.verification.specs.SignIn.{PassesSignIn}
use Rattle.ctap_requests.specs.Requests.{reset}
use Rattle.site_state.specs.Sessions.{Expected}
use Rattle.site_state.specs.Table.{row_of}
use Rattle.site.specs.State.{judged_sign_in}
use Rattle.authenticator.specs.Steps.{Keys}
use Rattle.authenticator.specs.declared.consent.Consent.{Consent}
use Rattle.authenticator.specs.declared.consent.Words.{Words}
use Rattle.agreement.specs.Ledger.{IsAsked, world_after}
use Rattle.agreement.specs.World.{Abandons, AtSite, Done, Expires, IsRun, IsStart, Moment, Registers, RegistersBy, Restarts, SignsIn, SignsInBy, SiteEvent}
use Rattle.agreement.specs.World.{World}

-- the event answers the session of this number, or abandons it; or the site ends sessions by their age, or begins anew
abbrev pub MayEnd : SiteEvent → ℕ → Type 0
MayEnd (Abandons k) n = k ≡ n
MayEnd (SignsIn k r) n = k ≡ n
MayEnd (SignsInBy k c ps t) n = k ≡ n
MayEnd (Registers k r) n = k ≡ n
MayEnd (RegistersBy k c ps t) n = k ≡ n
MayEnd Expires n = Unit {0}
MayEnd Restarts n = Unit {0}
MayEnd e n = ⊥

-- it happens at the site, and is not refused
abbrev pub IsEnd : ℕ → ℕ → Moment → Type 0
IsEnd i n m = (e : SiteEvent) × (m.event ≡ AtSite i e) × (m.end ≡ Done) × MayEnd e n

-- the session of this number is open at the site, and expects this
abbrev pub IsOpen : World → ℕ → ℕ → Expected → Type 0
IsOpen w i n x = finite.get (w.site i).sessions.expected n ≡ Some x

pub record Stays (valid : Validity) (w : World) (past between : List Moment) : Type 0 where
  -- a session that is open after these moments is open after those that follow, if none of them is its end
  pub still_open : (i n : ℕ) (x : Expected) → IsOpen (world_after w past) i n x → All (λ m. IsEnd i n m → ⊥) between → IsOpen (world_after w (past ++ between)) i n x
  -- a site has its rp id to the end, however often it is opened, and with whatever pages and profile
  pub party : (i : ℕ) → ((world_after w (past ++ between)).site i).rp.rp_id ≡ ((world_after w past).site i).rp.rp_id
  -- and a sign-in that the session would accept it accepts still, whatever else happens, if the site has the pages and the profile that it had, and
  -- the credential's row is as it was
  pub accepted : (i n : ℕ) (x : Expected) (r : AuthenticatorAssertionResponse) → IsOpen (world_after w past) i n x → All (λ m. IsEnd i n m → ⊥) between
      → ((world_after w (past ++ between)).site i).rp ≡ ((world_after w past).site i).rp
      → row_of r.credential ((world_after w (past ++ between)).site i).rows ≡ row_of r.credential ((world_after w past).site i).rows
      → PassesSignIn valid (judged_sign_in ((world_after w past).site i) n r)
      → PassesSignIn valid (judged_sign_in ((world_after w (past ++ between)).site i) n r)

-- a reset to which presence was given leaves no credential
abbrev pub Resets : Moment → Type 0
Resets m =
    (k channel : ℕ) (consent : Consent) (words : Words) → IsAsked k channel consent words reset m → consent.present ≡ true
    → (m.new.holder k).state.credentials ≡ []

pub record StaysOfAllRuns (valid : Validity) (public : Keys) : Type 0 where
  pub sessions : (w : World) (past between later : List Moment) → IsStart w → IsRun valid public w (past ++ (between ++ later)) → Stays valid w past between
  pub credentials : (w : World) (run : List Moment) → IsStart w → IsRun valid public w run → All Resets run
