-- Whence a token in use comes, over all that is done to an authenticator's PIN: it was given for the right PIN, and nothing has ended it since
-- (CTAP 2.1, sections 6.5.2.1, 6.5.3 and 6.5.5.5 to 6.5.5.7).
use Rattle.std.specs.Prelude.{◌≡◌, ◌≢◌, ◌⊎◌, ℕ, List, [], ◌∷◌, ◌++◌, bit_and, None, Some, Result, Ok}
use Rattle.pin_protocols.specs.Asks.{Asked}
use Rattle.pin_protocols.specs.Protocols.{Authenticates, number}
use Rattle.key_pin.specs.declared.words.PinWords.{PinWords}
use Rattle.key_pin.specs.Brought.{IsGiven}
use Rattle.key_pin.specs.Calls.{Call, handle, end_token, power_up, reset, next, nexts}
use Rattle.key_pin.specs.Grants.{Claim}
use Rattle.key_pin.specs.Host.{Ending}
use Rattle.key_pin.specs.Outcomes.{Outcome, pin_set, token_told}
use Rattle.key_pin.specs.Query.{Query}
use Rattle.key_pin.specs.State.{PinState, PinToken}
use Rattle.key_pin.specs.Steps.{verdict}

-- a PIN is set, or a token given
abbrev pub IsRenewal : Result Outcome Ending → Type 0
IsRenewal (Ok (pin_set hash)) = Unit {0}
IsRenewal (Ok (token_told token sealed)) = Unit {0}
IsRenewal _ = ⊥

-- the call is a power cycle, a reset or the end of the token's time; or by it a PIN is set or a token given
abbrev pub Ends : Call → PinState → Type 0
Ends (handle es words q) s = IsRenewal (verdict es words q s).outcome
Ends end_token s = Unit {0}
Ends power_up s = Unit {0}
Ends reset s = Unit {0}
Ends _ s = ⊥

abbrev pub NoneEnds : List Call → PinState → Type 0
NoneEnds [] s = Unit {0}
NoneEnds (call ∷ calls) s = (Ends call s → ⊥) × NoneEnds calls (next call s)

-- it is this one, whose permissions may be spent, and which may be bound to an rp id if it had none
pub record IsStill (given t : PinToken) : Type 0 where
  pub bytes : t.bytes ≡ given.bytes
  pub protocol : t.protocol ≡ given.protocol
  pub permissions : (t.permissions ≡ given.permissions) ⊎ (t.permissions ≡ 0)
  pub rp_id : (t.rp_id ≡ given.rp_id) ⊎ (given.rp_id ≡ None)

-- by one of these calls the token was given, for the right PIN; and none since then ends it
pub record IsGivenIn (calls : List Call) (s : PinState) (t : PinToken) : Type 0 where
  pub before : List Call
  pub answers : List (Asked × List ℕ)
  pub words : PinWords
  pub query : Query
  pub later : List Call
  pub here : calls ≡ before ++ handle answers words query ∷ later
  pub token : PinToken
  pub sealed : List ℕ
  pub given : IsGiven answers words query (nexts before s) token sealed
  pub still : IsStill token t
  pub since : NoneEnds later (next (handle answers words query) (nexts before s))

-- after these calls such a token grants the claim: it authenticates this hash, has this permission, and is for this rp id or none yet
pub record IsVouchedFor (calls : List Call) (s : PinState) (es : List (Asked × List ℕ)) (c : Claim) : Type 0 where
  pub token : PinToken
  pub in_use : (nexts calls s).token ≡ Some token
  pub given : IsGivenIn calls s token
  pub protocol : c.protocol ≡ Some (number token.protocol)
  pub authentic : Authenticates es token.protocol token.bytes c.client_data_hash c.param
  pub permission : bit_and token.permissions c.permission ≢ 0
  pub rp_id : (token.rp_id ≡ None) ⊎ (token.rp_id ≡ Some c.rp_id)
