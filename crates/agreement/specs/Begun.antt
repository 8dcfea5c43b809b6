-- What the open sessions of a run expect: each, from its beginning to its end, what it was begun with (WebAuthn Level 2,
-- sections 7.1 and 7.2, and 13.4.3 on challenges).
use Rattle.std.specs.Prelude.{◌≡◌, ◌<◌, ◌^◌, ℕ, List, ◌∷◌, ◌++◌, Some}
use Rattle.std.specs.FinMap as finite
use Rattle.std.specs.Int.{w64, to_be_bytes}
use Rattle.cose.specs.Schemes.{Validity}
use Rattle.site_state.specs.Sessions.{Expected, ForRegistration, ForSignIn, Opening, OpensRegistration, OpensSignIn, challenge_in}
use Rattle.authenticator.specs.Steps.{Keys}
use Rattle.agreement.specs.Ledger.{world_after}
use Rattle.agreement.specs.World.{AtSite, Begins, BeginsAs, Done, IsRun, IsStart, Moment, SiteEvent, World}

-- the challenge is the session's number, in 8 big-endian bytes, and then the words
abbrev pub IsChallenge : ℕ → List ℕ → List ℕ → Type 0
IsChallenge n words challenge = (n < 2 ^ 64) × (challenge ≡ to_be_bytes w64 n ++ words)

-- the session of this number expects what was asked of it: the user, the credentials that may answer or the algorithms that
-- are offered, whether the user is to be verified, the challenge with those words, and how a registration is begun
abbrev pub ExpectsAsked : ℕ → Opening → Expected → Type 0
ExpectsAsked n (OpensSignIn user allow uv words) (ForSignIn e) =
    (e.user ≡ user) × (e.allow ≡ allow) × (e.uv ≡ uv) × IsChallenge n words e.challenge
ExpectsAsked n (OpensRegistration user algorithms uv words asks) (ForRegistration e) =
    (e.user ≡ user) × (e.algorithms ≡ algorithms) × (e.uv ≡ uv) × IsChallenge n words e.challenge
    × (e.conditional ≡ asks.conditional) × (e.attestation ≡ asks.attestation)
ExpectsAsked n o e = ⊥

-- the event begins the session of this number: it expects what was asked of it, or what its host says, who chose the challenge
abbrev pub BeginsFor : SiteEvent → ℕ → Expected → Type 0
BeginsFor (Begins o) n e = ExpectsAsked n o e
BeginsFor (BeginsAs x) n e = e ≡ x
BeginsFor event n e = ⊥

-- at one of these moments site i began the session of this number, which was the next, and asked it for what it expects
pub record IsBegun (i n : ℕ) (past : List Moment) (e : Expected) : Type 0 where
  pub before : List Moment
  pub moment : Moment
  pub later : List Moment
  pub here : past ≡ before ++ moment ∷ later
  pub begins : SiteEvent
  pub event : moment.event ≡ AtSite i begins
  pub done : moment.end ≡ Done
  pub number : n ≡ (moment.old.site i).sessions.next
  pub expects : BeginsFor begins n e

-- the host chose the challenge
abbrev pub IsChosen : SiteEvent → Type 0
IsChosen (BeginsAs e) = Unit {0}
IsChosen e = ⊥

-- at site i no session has the challenge of another, where a host chose it
abbrev pub HasOwnChallenges : List Moment → ℕ → Type 0
HasOwnChallenges run i =
    (n k : ℕ) (x y : Expected) (b : IsBegun i n run x) → IsBegun i k run y → IsChosen b.begins → challenge_in x ≡ challenge_in y → n ≡ k

-- so it is of each session that is open in a world of a run, whether or not signatures can be forged
abbrev pub SessionsOfAllRuns : Validity → Keys → Type 0
SessionsOfAllRuns valid public =
    (w : World) (past later : List Moment) → IsStart w → IsRun valid public w (past ++ later)
    → (i n : ℕ) (e : Expected) → finite.get ((world_after w past).site i).sessions.expected n ≡ Some e → IsBegun i n past e
