-- What a call of a site, or of an authenticator, makes of a world: an event, whose effect it has.
use Rattle.std.specs.Prelude.{◌≡◌, ℕ, List, length}
use Rattle.cose.specs.Schemes.{Validity}
use Rattle.verification.specs.Records.{Credential}
use Rattle.site_state.specs.Sessions.{OpenSessions}
use Rattle.site.specs.Saved.{TableOf, version_of}
use Rattle.site.specs.State.{SiteState, saved_of}
use Rattle.authenticator.specs.Saved.{SavedOf}
use Rattle.authenticator.specs.State.{AuthenticatorState, forgotten}
use Rattle.authenticator.specs.Steps.{Keys}
use Rattle.authenticator.specs.declared.consent.Consent.{Consent}
use Rattle.authenticator.specs.declared.consent.Words.{Words}
use Rattle.agreement.specs.World as world
use Rattle.agreement.specs.World.{Asks, EventEffect, Reopens, Restarts, SiteActs, SiteEvent, World}

-- of a call that verifies nothing: no signature need be valid
abbrev pub nothing_valid : Validity
nothing_valid key message signature = ⊥

abbrev pub Acts : SiteState → SiteEvent → SiteState → Type 0
Acts old e new = SiteActs nothing_valid old e new

-- a site begins again as this one, where these are the bytes that it saved and it has this rp id
abbrev pub Loads : List ℕ → List ℕ → SiteState → Type 0
Loads rp_id bytes new = (old : SiteState) → TableOf (version_of old.rows) (saved_of old) bytes → rp_id ≡ old.rp.rp_id → Acts old Restarts new

-- a site is opened again as this one, where it has this rp id, these credentials, and but for their bound these sessions
abbrev pub Restores : List ℕ → List Credential → OpenSessions → SiteState → Type 0
Restores rp_id rows sessions new =
    (old : SiteState) → rp_id ≡ old.rp.rp_id → rows ≡ old.rows → sessions ≡ record old.sessions { max_open = sessions.max_open } → Acts old Reopens new

-- an authenticator of a world that is this one is asked, and is that one then; the words for an id are 32, as their type has them
abbrev pub Answers : Validity → Keys → AuthenticatorState → ℕ → List ℕ → Consent → Words → AuthenticatorState → Type 0
Answers valid public old channel bs consent words new =
    (w : World) (k : ℕ) → length words.id ≡ 32 → (w.holder k).state ≡ old
    → (then : World) × EventEffect valid public w (Asks k channel bs consent words) then × ((then.holder k).state ≡ new)

-- an authenticator of a world begins again as this one, where these are the bytes that it saved
abbrev pub Reloads : List ℕ → AuthenticatorState → Type 0
Reloads bytes new =
    (public : Keys) (w : World) (k : ℕ) → SavedOf (forgotten (w.holder k).state) bytes
    → (then : World) × EventEffect nothing_valid public w (world.Reloads k) then × ((then.holder k).state ≡ new)
