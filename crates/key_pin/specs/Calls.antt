-- What is done to an authenticator's PIN, call after call (CTAP 2.1, section 6.5).
use Rattle.std.specs.Prelude.{ℕ, List, [], ◌∷◌}
use Rattle.pin_protocols.specs.Asks.{Asked}
use Rattle.key_pin.specs.declared.words.PinWords.{PinWords}
use Rattle.key_pin.specs.Grants.{Claim, granted, after_grant}
use Rattle.key_pin.specs.Outcomes.{after}
use Rattle.key_pin.specs.Query.{Query}
use Rattle.key_pin.specs.State.{PinState, new_pin_state, powered_up, spent, without_token, over, with_pair}
use Rattle.key_pin.specs.Steps.{verdict}

pub data Call : Type 0 where
  handle : List (Asked × List ℕ) → PinWords → Query → Call
  -- a request of clientPIN for which there was no memory: its key pair was taken; or its try was counted, too
  begin : PinWords → Call
  leave : List (Asked × List ℕ) → PinWords → Query → Call
  verify : List (Asked × List ℕ) → Claim → Call
  spend : Call
  end_token : Call
  give_up : Call
  -- also where it is saved and loaded
  power_up : Call
  reset : Call

abbrev pub next : Call → PinState → PinState
next (handle es words q) s = after (verdict es words q s).outcome (verdict es words q s).state
next (begin words) s = with_pair words s
next (leave es words q) s = (verdict es words q s).state
next (verify es c) s = after_grant (granted es c s.token) c.rp_id s
next spend s = spent s
next end_token s = without_token s
next give_up s = over s
next power_up s = powered_up s
next reset s = new_pin_state

abbrev pub nexts : List Call → PinState → PinState
nexts [] s = s
nexts (call ∷ calls) s = nexts calls (next call s)
