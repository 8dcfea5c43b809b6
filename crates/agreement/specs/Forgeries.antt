-- Forgeries: a sign-in that is accepted without a fresh assertion shows one, under its own credential's key.
use Rattle.std.specs.Prelude.{ℕ, List}
use Rattle.std.specs.List.{All}
use Rattle.cose.specs.Schemes.{Validity}
use Rattle.cose.specs.declared.key.CoseKey.{CoseKey}
use Rattle.authdata.specs.Responses.{AuthenticatorAssertionResponse}
use Rattle.verification.specs.Records.{Credential}
use Rattle.authenticator.specs.Steps.{Entry, Keys}
use Rattle.agreement.specs.Agreement.{Consented, IsAccepted, RestsOn, Says, WasMade, WasSigned, message_of}
use Rattle.agreement.specs.World.{IsRun, IsStart, Moment, World}

-- a valid signature under a key that an authenticator has made, of a message that none which made the key has signed under it: an existential
-- forgery, under whatever messages it was asked to sign
pub record IsForgery (valid : Validity) (w : World) (key : CoseKey) (message signature : List ℕ) : Type 0 where
  pub made : WasMade w key
  pub is_valid : valid key message signature
  pub unsigned : WasSigned w key message → ⊥

-- an assertion by an authenticator on which the sign-in rests, and which is for it
abbrev pub IsBacked : Moment → ℕ → ℕ → AuthenticatorAssertionResponse → Credential → Type 0
IsBacked m i n r row = (e : Entry) × RestsOn m r row e × Says m i n r e × Consented m i n e

-- Of an accepted sign-in for a credential whose key was made, whatever else was forged: it is backed where its message was signed; and one that is
-- not is itself a forgery, which the response has in it. So a key that was stolen does harm to its own credentials alone
pub record ShowsForgery (valid : Validity) (m : Moment) : Type 0 where
  pub backed : (i n : ℕ) (r : AuthenticatorAssertionResponse) (row : Credential) → IsAccepted m i n r row → WasSigned m.old row.key (message_of r)
      → IsBacked m i n r row
  pub shows : (i n : ℕ) (r : AuthenticatorAssertionResponse) (row : Credential) → IsAccepted m i n r row → WasMade m.old row.key
      → (IsBacked m i n r row → ⊥) → IsForgery valid m.old row.key (message_of r) r.signature

abbrev pub ForgeriesOfAllRuns : Validity → Keys → Type 0
ForgeriesOfAllRuns valid public = (w : World) (run : List Moment) → IsStart w → IsRun valid public w run → All (ShowsForgery valid) run
