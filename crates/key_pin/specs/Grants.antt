-- What a token grants a makeCredential or getAssertion: CTAP 2.1, sections 6.1.2, step 11, and 6.2.2, step 6.
use Rattle.std.specs.Prelude.{◌≡◌, ◌==◌, ℕ, List, Bool, true, ◌&&◌, not, bit_and, Option, Some, None, option_map, Result, Ok, Err, if◌then◌else◌}
use Rattle.std.specs.Str.{bytes_eq}
use Rattle.pin_protocols.specs.declared.protocol.Protocol.{Protocol}
use Rattle.pin_protocols.specs.Asks.{Asked, answer_of, ask_view}
use Rattle.pin_protocols.specs.Protocols.{number}
use Rattle.key_pin.specs.declared.words.Grant.{Grant}
use Rattle.key_pin.specs.declared.words.Grant.TheVariants as grants
use Rattle.key_pin.specs.Host.{Ending, asks, refused, ◌>>=◌, verified}
use Rattle.key_pin.specs.State.{PinState, PinToken}
use Rattle.key_pin.specs.Steps.{needed, known_protocol}

-- a request that is to be granted
pub record Claim : Type 0 where
  pub protocol : Option ℕ
  pub param : List ℕ
  -- 1, makeCredential, or 2, getAssertion
  pub permission : ℕ
  pub rp_id : List ℕ
  pub client_data_hash : List ℕ

abbrev pub claim : Option ℕ → List ℕ → ℕ → List ℕ → List ℕ → Claim
claim protocol param permission rp_id client_data_hash =
    record { protocol = protocol; param = param; permission = permission; rp_id = rp_id; client_data_hash = client_data_hash }

-- the token in use, where it is of this protocol: 0x33
abbrev pub token_of : Protocol → Option PinToken → Result PinToken Ending
token_of protocol None = Err (refused 0x33)
token_of protocol (Some t) = if number t.protocol == number protocol then Ok t else Err (refused 0x33)

abbrev pub is_for : List ℕ → Option (List ℕ) → Bool
is_for rp_id None = true
is_for rp_id (Some own) = bytes_eq own rp_id

-- it has the permission, and no other rp id
abbrev pub permits : PinToken → Claim → Bool
permits t c = not (bit_and t.permissions c.permission == 0) && is_for c.rp_id t.rp_id

-- protocol missing: 0x14; another than 1 and 2: 0x02; else what does not fit the token: 0x33
unfoldable pub granted : List (Asked × List ℕ) → Claim → Option PinToken → Result (Unit {0}) Ending
granted es c token = do
  number ← needed c.protocol
  protocol ← known_protocol number
  t ← token_of protocol token
  authentic ← verified es protocol t.bytes c.client_data_hash c.param
  if permits t c then Ok tt else Err (refused 0x33)

-- from the first time on the token is for this rp id
abbrev pub bound : List ℕ → PinToken → PinToken
bound rp_id t = record t { rp_id = Some rp_id }

-- the state after it
abbrev pub after_grant : Result (Unit {0}) Ending → List ℕ → PinState → PinState
after_grant (Ok granted) rp_id s = record s { token = option_map (bound rp_id) s.token }
after_grant (Err e) rp_id s = s

-- asked is nothing that was answered
abbrev pub IsNew : List (Asked × List ℕ) → Grant → Type 0
IsNew es (grants.Asks a) = answer_of es (ask_view a) ≡ None
IsNew es grants.Granted = Unit {0}
IsNew es (grants.Refused status) = Unit {0}

-- what a call answers
abbrev pub Grants : Result (Unit {0}) Ending → Grant → Type 0
Grants r (grants.Asks a) = r ≡ Err (asks (ask_view a))
Grants r grants.Granted = r ≡ Ok tt
Grants r (grants.Refused status) = r ≡ Err (refused status)
