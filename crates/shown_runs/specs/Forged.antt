-- A run in which a signature is forged: so the premise that none is says something, and there are forgeries to show.
use Rattle.std.specs.Prelude.{ℕ, List, [], ◌∷◌, ◌++◌}
use Rattle.cose.specs.Schemes.{Validity}
use Rattle.authdata.specs.Responses.{AuthenticatorAssertionResponse}
use Rattle.verification.specs.Records.{Credential}
use Rattle.authenticator.specs.Steps.{Keys}
use Rattle.agreement.specs.Agreement.{IsAccepted, IsIdeal, WasMade, message_of}
use Rattle.agreement.specs.Forgeries.{IsBacked, IsForgery}
use Rattle.agreement.specs.World.{IsRun, IsStart, Moment, World}

-- with the last moment a sign-in is accepted at site 0 under a key that an authenticator has made, and no assertion is there for it: it is itself the
-- forgery (forgeries)
pub record ForgedRun (valid : Validity) (public : Keys) : Type 0 where
  pub world : World
  pub start : IsStart world
  pub before : List Moment
  pub last : Moment
  pub is_run : IsRun valid public world (before ++ last ∷ [])
  pub session : ℕ
  pub response : AuthenticatorAssertionResponse
  pub row : Credential
  pub accepted : IsAccepted last 0 session response row
  pub made : WasMade last.old row.key
  pub alone : IsBacked last 0 session response row → ⊥
  pub not_ideal : IsIdeal valid last → ⊥
  pub told : IsForgery valid last.old row.key (message_of response) response.signature
