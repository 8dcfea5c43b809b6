-- What holds of an authenticator's PIN over all that is done to it (CTAP 2.1, section 6.5).
use Rattle.std.specs.Prelude.{◌+◌, ◌≡◌, ◌≢◌, ◌<◌, ◌≤◌, ◌⊎◌, ◌↔◌, ℕ, List, [], ◌∷◌, Bool, true, false, bit_and, Option, Some, None, Result, Ok, Err}
use Rattle.std.specs.List.{AllByRecursion}
use Rattle.pin_key_messages.specs.Replying.{PinReplyBytes}
use Rattle.pin_protocols.specs.declared.ask.Operation.TheVariants as operations
use Rattle.pin_protocols.specs.Asks.{Asked, answer_of}
use Rattle.pin_protocols.specs.Protocols.{Authenticates, number}
use Rattle.key_pin.specs.declared.words.PinWords.{PinWords}
use Rattle.key_pin.specs.Brought.{ComesOf, IsScoped, IsTried}
use Rattle.key_pin.specs.Calls.{Call, handle, leave, verify, spend, end_token, power_up, reset, next, nexts}
use Rattle.key_pin.specs.Given.{IsGivenIn, IsVouchedFor}
use Rattle.key_pin.specs.Grants.{Claim, granted}
use Rattle.key_pin.specs.Host.{Ending, asks}
use Rattle.key_pin.specs.Outcomes.{Outcome, retries_told, pin_set, token_told, mismatch, after, Public, Replies, public}
use Rattle.key_pin.specs.Query.{Query}
use Rattle.key_pin.specs.Saved.{FitsPin, saved}
use Rattle.key_pin.specs.State.{PinState, PinToken, new_pin_state, powered_up, over, counted, with_pair}
use Rattle.key_pin.specs.Steps.{verdict}

-- ---- what it keeps

pub record Sound (s : PinState) : Type 0 where
  pub retries : s.retries ≤ 8
  pub mismatches : s.mismatches ≤ 3
  -- a try that is under way was counted where a retry was left, and fewer than three PINs in a row were wrong
  pub counted : s.counted ≡ true → (s.retries < 8) × (s.mismatches < 3)
  pub pin : FitsPin s.pin s.retries
  -- without a PIN there is no wrong one, and no token
  pub unset : s.pin ≡ None → (s.mismatches ≡ 0) × (s.token ≡ None)

abbrev pub IsDecryption : Asked → Type 0
IsDecryption a = a.operation ≡ operations.Decrypt

-- all calls but these leave three wrong PINs in a row as they are
abbrev pub IsNoRestart : Call → Type 0
IsNoRestart power_up = ⊥
IsNoRestart reset = ⊥
IsNoRestart _ = Unit {0}

abbrev pub IsNoReset : Call → Type 0
IsNoReset reset = ⊥
IsNoReset _ = Unit {0}

-- the call brings the right PIN
abbrev pub BringsRightPin : Call → PinState → Type 0
BringsRightPin (handle es words q) s = IsTried es words q s
BringsRightPin _ s = ⊥

-- ---- guesses

abbrev pub is_mismatch : Result Outcome Ending → ℕ
is_mismatch (Ok mismatch) = 1
is_mismatch _ = 0

-- one, where the PIN was wrong
abbrev pub wrong : Call → PinState → ℕ
wrong (handle es words q) s = is_mismatch (verdict es words q s).outcome
wrong _ s = 0

abbrev pub guesses : List Call → PinState → ℕ
guesses [] s = 0
guesses (call ∷ calls) s = wrong call s + guesses calls (next call s)

-- none of the calls gives retries back, or takes any of the wrong PINs in a row away
abbrev pub NoneGivesBack : List Call → PinState → Type 0
NoneGivesBack [] s = Unit {0}
NoneGivesBack (call ∷ calls) s = ((next call s).retries ≤ s.retries) × NoneGivesBack calls (next call s)

abbrev pub NoneClears : List Call → PinState → Type 0
NoneClears [] s = Unit {0}
NoneClears (call ∷ calls) s = (s.mismatches ≤ (next call s).mismatches) × NoneClears calls (next call s)

-- a try that was counted and is under way is a retry too
abbrev pub open_try : Bool → ℕ
open_try true = 1
open_try false = 0

-- it is the token that was in use, whatever its permissions and its rp id are now
abbrev pub IsOf : Option PinToken → PinToken → Type 0
IsOf None t = ⊥
IsOf (Some u) t = t.bytes ≡ u.bytes

-- it is the host's, of the words of one of these calls
abbrev pub IsHanded : Call → PinToken → Type 0
IsHanded (handle es words q) t = t.bytes ≡ words.token
IsHanded _ t = ⊥

abbrev pub IsAmong : List Call → PinToken → Type 0
IsAmong [] t = ⊥
IsAmong (call ∷ calls) t = IsHanded call t ⊎ IsAmong calls t

pub record PinLaws : Type 0 where
  -- the retries are never more than 8, and the wrong PINs in a row never more than three
  pub sound : (calls : List Call) (s : PinState) → Sound s → Sound (nexts calls s)
  pub begins : Sound new_pin_state
  -- what is saved is of one PIN and its retries
  pub saved_once : (s t : PinState) → Sound s → Sound t → saved s ≡ saved t → powered_up s ≡ powered_up t
  -- each outcome comes of what the request brings: a token, or a PIN that replaces one, of the right PIN alone; and a token's permissions and
  -- rp id are those that were asked for
  pub tried : (es : List (Asked × List ℕ)) (words : PinWords) (q : Query) (s : PinState) (token : PinToken) (sealed : List ℕ)
      → (verdict es words q s).outcome ≡ Ok (token_told token sealed) → IsTried es words q s
  pub scoped : (es : List (Asked × List ℕ)) (words : PinWords) (q : Query) (s : PinState) (token : PinToken) (sealed : List ℕ)
      → (verdict es words q s).outcome ≡ Ok (token_told token sealed) → IsScoped q token.permissions token.rp_id
  pub comes : (es : List (Asked × List ℕ)) (words : PinWords) (q : Query) (s : PinState) (outcome : Outcome) → (verdict es words q s).outcome ≡ Ok outcome
      → ComesOf es words q s outcome
  -- the retries are answered by subcommand 1, and whether three PINs in a row were wrong
  pub tells : (s : PinState) (bs : List ℕ) → Replies (Ok retries_told) (public s) bs
      → (blocked : Bool) × (blocked ≡ true ↔ 3 ≤ s.mismatches)
      × PinReplyBytes (record { key = None; token = None; pin_retries = Some s.retries; power_cycle = Some blocked; uv_retries = None }) bs
  -- a call leaves more retries than there were only by the right PIN or a reset, and fewer wrong PINs in a row by these or a power cycle
  pub restored : (call : Call) (s : PinState) → Sound s → s.retries < (next call s).retries → BringsRightPin call s ⊎ (IsNoReset call → ⊥)
  pub cleared : (call : Call) (s : PinState) → Sound s → (next call s).mismatches < s.mismatches → BringsRightPin call s ⊎ (IsNoRestart call → ⊥)
  -- a wrong PIN adds one to those in a row, and the key pair is another from then on
  pub one_more : (es : List (Asked × List ℕ)) (words : PinWords) (q : Query) (s : PinState) → Sound s → (verdict es words q s).outcome ≡ Ok mismatch
      → ((next (handle es words q) s).mismatches ≡ s.mismatches + 1) × ((next (handle es words q) s).pair ≡ None)
  -- while no retry comes back there are at most 8 wrong PINs, and no more than retries are left; and at most three while those in a row stay
  pub guessed : (calls : List Call) (s : PinState) → Sound s → NoneGivesBack calls s
      → (guesses calls s ≤ 8) × (guesses calls s + (nexts calls s).retries ≤ s.retries + open_try s.counted)
  pub guessed_in_a_row : (calls : List Call) (s : PinState) → Sound s → NoneClears calls s
      → (guesses calls s ≤ 3) × (guesses calls s + s.mismatches ≤ (nexts calls s).mismatches)
  -- the host is asked for nothing that it answered
  pub asked : (es : List (Asked × List ℕ)) (words : PinWords) (q : Query) (s : PinState) (a : Asked)
      → (verdict es words q s).outcome ≡ Err (asks a) → answer_of es a ≡ None
  -- a try is counted before the host decrypts pinHashEnc, and before it was wrong
  pub counted_first : (es : List (Asked × List ℕ)) (words : PinWords) (q : Query) (s : PinState) (a : Asked)
      → (verdict es words q s).outcome ≡ Err (asks a) → IsDecryption a → q.subcommand ≢ 3
      → (verdict es words q s).state ≡ counted (with_pair words s)
  pub counted_wrong : (es : List (Asked × List ℕ)) (words : PinWords) (q : Query) (s : PinState)
      → (verdict es words q s).outcome ≡ Ok mismatch → (verdict es words q s).state ≡ counted (with_pair words s)
  -- a wrong PIN takes one retry, once, and no wrong PIN but where one was left
  pub one_taken : (es : List (Asked × List ℕ)) (words : PinWords) (q : Query) (s : PinState) → (verdict es words q s).outcome ≡ Ok mismatch → s.counted ≡ false
      → (next (handle es words q) s).retries + 1 ≡ s.retries
  pub none_taken_twice : (es : List (Asked × List ℕ)) (words : PinWords) (q : Query) (s : PinState) → (verdict es words q s).outcome ≡ Ok mismatch → s.counted ≡ true
      → (next (handle es words q) s).retries ≡ s.retries
  -- after three wrong PINs in a row nothing but a power cycle and a reset lets another be tried
  pub blocked : (calls : List Call) (s : PinState) → Sound s → s.mismatches ≡ 3 → AllByRecursion IsNoRestart calls
      → ((nexts calls s).mismatches ≡ 3) × ((nexts calls s).retries ≡ s.retries) × ((nexts calls s).pin ≡ s.pin)
  -- and where no retry is left nothing but a reset
  pub used_up : (calls : List Call) (s : PinState) → Sound s → s.retries ≡ 0 → s.counted ≡ false → AllByRecursion IsNoReset calls
      → ((nexts calls s).retries ≡ 0) × ((nexts calls s).pin ≡ s.pin)
  -- what is granted is authenticated by the token in use, by its protocol, over the hash of the client data
  pub authentic : (es : List (Asked × List ℕ)) (c : Claim) (token : Option PinToken) → granted es c token ≡ Ok tt
      → (t : PinToken) × (token ≡ Some t) × (c.protocol ≡ Some (number t.protocol)) × Authenticates es t.protocol t.bytes c.client_data_hash c.param
  -- that token has the permission, and this rp id or none; from then on it has this one
  pub grants : (es : List (Asked × List ℕ)) (c : Claim) (token : Option PinToken) → granted es c token ≡ Ok tt
      → (t : PinToken) × (token ≡ Some t) × (bit_and t.permissions c.permission ≢ 0) × ((t.rp_id ≡ None) ⊎ (t.rp_id ≡ Some c.rp_id))
  pub bound : (es : List (Asked × List ℕ)) (c : Claim) (s : PinState) (t : PinToken) → granted es c s.token ≡ Ok tt
      → (next (verify es c) s).token ≡ Some t → t.rp_id ≡ Some c.rp_id
  -- a token that was used has no permission
  pub spends : (s : PinState) (t : PinToken) → (next spend s).token ≡ Some t → t.permissions ≡ 0
  -- a token of before a new PIN, a new token, a power cycle, a reset or its end is not in use
  pub ended : (es : List (Asked × List ℕ)) (words : PinWords) (q : Query) (s : PinState) (hash : List ℕ)
      → (verdict es words q s).outcome ≡ Ok (pin_set hash) → (next (handle es words q) s).token ≡ None
  pub renewed : (es : List (Asked × List ℕ)) (words : PinWords) (q : Query) (s : PinState) (token : PinToken) (sealed : List ℕ)
      → (verdict es words q s).outcome ≡ Ok (token_told token sealed) → (next (handle es words q) s).token ≡ Some token
  -- and does not come back: a token in use was in use before these calls, or was handed to one of them
  pub never_again : (calls : List Call) (s : PinState) (t : PinToken) → (nexts calls s).token ≡ Some t → IsOf s.token t ⊎ IsAmong calls t
  -- where none was in use, it was given by one of these calls for the right PIN, and by none since then was a PIN set, the key plugged in or reset,
  -- or the token ended or replaced
  pub given : (calls : List Call) (s : PinState) (t : PinToken) → s.token ≡ None → (nexts calls s).token ≡ Some t → IsGivenIn calls s t
  -- and what is granted is granted by such a token, for this rp id and this hash
  pub vouched : (calls : List Call) (s : PinState) (es : List (Asked × List ℕ)) (c : Claim) → s.token ≡ None
      → granted es c (nexts calls s).token ≡ Ok tt → IsVouchedFor calls s es c
  -- a reply is the same whatever the hash of the PIN and the token are: the token stands in it as the host encrypted it
  pub hidden_hash : (a b : List ℕ) (p : Public) (bs : List ℕ) → Replies (Ok (pin_set a)) p bs → Replies (Ok (pin_set b)) p bs
  pub hidden_token : (a b : PinToken) (sealed : List ℕ) (p : Public) (bs : List ℕ) → Replies (Ok (token_told a sealed)) p bs → Replies (Ok (token_told b sealed)) p bs
  pub gone : (s : PinState) → ((next power_up s).token ≡ None) × ((next reset s).token ≡ None) × ((next end_token s).token ≡ None)
