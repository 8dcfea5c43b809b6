-- What an authenticator stores no more: a credential goes by a reset, or is replaced by one of its own relying party and user
-- (CTAP 2.1, sections 6.1.2 and 6.6).
use Rattle.std.specs.Prelude.{◌≡◌, ℕ, List, true, Some, None, Contains}
use Rattle.cose.specs.Schemes.{Validity}
use Rattle.ctap_requests.specs.Requests.{RequestMessage, get_assertion, get_info, get_next_assertion, make_credential, reset}
use Rattle.authenticator.specs.State.{CredentialSource}
use Rattle.authenticator.specs.Credentials.{credential_of}
use Rattle.authenticator.specs.Orders.{creation_flags, is_true}
use Rattle.authenticator.specs.Steps.{Keys}
use Rattle.authenticator.specs.declared.consent.Consent.{Consent}
use Rattle.authenticator.specs.declared.consent.Words.{Words}
use Rattle.agreement.specs.Ledger.{IsAsked}
use Rattle.agreement.specs.World.{IsRun, Moment, World}

-- a reset drops each credential; a makeCredential for a resident credential a resident one of the same relying party and user
abbrev pub Drops : CredentialSource → RequestMessage → Type 0
Drops c reset = Unit {0}
Drops c (make_credential q) = (is_true (creation_flags q.options).rk ≡ true) × (c.resident ≡ true) × (c.rp_id ≡ q.rp.id) × (c.user ≡ q.user.id)
Drops c (get_assertion q) = ⊥
Drops c get_next_assertion = ⊥
Drops c get_info = ⊥

-- at the moment authenticator k was asked for what drops the credential, and was given presence
pub record IsDropped (k : ℕ) (c : CredentialSource) (m : Moment) : Type 0 where
  pub channel : ℕ
  pub consent : Consent
  pub words : Words
  pub request : RequestMessage
  pub asked : IsAsked k channel consent words request m
  pub drops : Drops c request
  pub present : consent.present ≡ true

-- so it is at each moment of a run at which an authenticator comes to store a credential no more, whether or not signatures
-- can be forged
abbrev pub DropsOfAllRuns : Validity → Keys → Type 0
DropsOfAllRuns valid public =
    (w : World) (run : List Moment) → IsRun valid public w run → (m : Moment) → Contains run m → (k : ℕ) (c : CredentialSource)
    → credential_of c.id (m.old.holder k).state.credentials ≡ Some c → credential_of c.id (m.new.holder k).state.credentials ≡ None
    → IsDropped k c m
