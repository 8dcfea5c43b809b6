-- What comes of a request of clientPIN: its reply, and the state after it (CTAP 2.1, section 6.5.5).
use Rattle.std.specs.Prelude.{◌≡◌, ◌==◌, ◌+◌, ℕ, List, [], ◌∷◌, Option, Some, None, option_map, pos, negsuc, Result, Ok, Err, if◌then◌else◌, nat_le, nat_lt}
use Rattle.pin_client_messages.specs.Replies.{Told, ToldKey}
use Rattle.pin_key_messages.specs.Replying.{PinReplyBytes}
use Rattle.pin_protocols.specs.Asks.{Asked, answer_of, ask_view}
use Rattle.key_pin.specs.declared.state.KeyPair.{KeyPair}
use Rattle.key_pin.specs.declared.words.PinStep.{PinStep}
use Rattle.key_pin.specs.declared.words.PinStep.TheVariants as steps
use Rattle.key_pin.specs.Host.{Ending, asks, refused}
use Rattle.key_pin.specs.State.{PinState, PinToken, over}

pub data Outcome : Type 0 where
  -- the retries are answered
  retries_told : Outcome
  -- the public key is answered
  key_told : Outcome
  -- this hash is of the PIN from now on
  pin_set : List ℕ → Outcome
  -- the old PIN was right, and the new one is refused by this status
  pin_refused : ℕ → Outcome
  -- a new token, and how it is answered: encrypted
  token_told : PinToken → List ℕ → Outcome
  -- the PIN was wrong
  mismatch : Outcome

-- in which state a request was judged, and to which end
pub record Verdict : Type 0 where
  pub outcome : Result Outcome Ending
  pub state : PinState

-- ---- the state

-- no more than three in a row are counted
abbrev pub one_more : ℕ → ℕ
one_more n = if nat_lt n 3 then n + 1 else 3

-- by a right PIN all 8 retries are there again; a new PIN or token ends the token of before (6.5.5.5 to 6.5.5.7); after a wrong
-- PIN the key pair is another (regenerate)
abbrev pub done : Outcome → PinState → PinState
done retries_told s = s
done key_told s = s
done (pin_set hash) s = record s { pin = Some hash; retries = 8; mismatches = 0; token = None }
done (pin_refused status) s = record s { retries = 8; mismatches = 0 }
done (token_told token sealed) s = record s { retries = 8; mismatches = 0; token = Some token }
done mismatch s = record s { mismatches = one_more s.mismatches; pair = None }

-- a reply ends the try; where the host is asked it goes on
abbrev pub after : Result Outcome Ending → PinState → PinState
after (Ok outcome) s = over (done outcome s)
after (Err (refused status)) s = over s
after (Err (asks a)) s = s

-- ---- the reply

-- kty 2, alg -25, crv 1
abbrev pub told_key : KeyPair → ToldKey
told_key pair = record { kty = pos 2; alg = negsuc 24; crv = pos 1; x = pair.x; y = pair.y }

-- what of the state a reply may show: neither the PIN's hash, nor the token, nor what stands for the private key
pub record Public : Type 0 where
  pub retries : ℕ
  pub mismatches : ℕ
  pub key : Option ToldKey

abbrev pub public : PinState → Public
public s = record { retries = s.retries; mismatches = s.mismatches; key = option_map told_key s.pair }

abbrev pub nothing_told : Told
nothing_told = record { key = None; token = None; pin_retries = None; power_cycle = None; uv_retries = None }

-- powerCycleState: after three wrong PINs in a row
abbrev pub told_retries : Public → Told
told_retries p = record nothing_told { pin_retries = Some p.retries; power_cycle = Some (nat_le 3 p.mismatches) }

-- after a wrong PIN: no retry is left; it was the third in a row; it was wrong
abbrev pub mismatch_status : Public → ℕ
mismatch_status p = if p.retries == 0 then 0x32 else if nat_le 2 p.mismatches then 0x34 else 0x31

-- the bytes of the reply
abbrev pub Replies : Result Outcome Ending → Public → List ℕ → Type 0
Replies (Err (asks a)) p bs = ⊥
Replies (Err (refused status)) p bs = bs ≡ status ∷ []
Replies (Ok retries_told) p bs = PinReplyBytes (told_retries p) bs
Replies (Ok key_told) p bs = PinReplyBytes (record nothing_told { key = p.key }) bs
Replies (Ok (pin_set hash)) p bs = bs ≡ 0x00 ∷ []
Replies (Ok (pin_refused status)) p bs = bs ≡ status ∷ []
Replies (Ok (token_told token sealed)) p bs = PinReplyBytes (record nothing_told { token = Some sealed }) bs
Replies (Ok mismatch) p bs = bs ≡ mismatch_status p ∷ []

-- asked is nothing that was answered
abbrev pub Unanswered : List (Asked × List ℕ) → PinStep → Type 0
Unanswered es (steps.Asks a) = answer_of es (ask_view a) ≡ None
Unanswered es (steps.Replies bytes) = Unit {0}

-- what a call answers
abbrev pub IsStep : Verdict → PinStep → Type 0
IsStep v (steps.Asks a) = v.outcome ≡ Err (asks (ask_view a))
IsStep v (steps.Replies bytes) = Replies v.outcome (public v.state) bytes.items
