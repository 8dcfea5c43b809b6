-- What each call keeps.
use Rattle.std.proofs.Common.{◌≡◌, ◌<◌, ◌≤◌, ◌+◌, ◌-◌, ℕ, List, [], ◌∷◌, length, true, false, cond, ltb, Some, None, Result, Ok, Err, refl, sym, ap, subst, ◌∙◌, inl, inr, arith}
use Rattle.std.specs.Prelude.{Option, option_map}
use Rattle.std.proofs.lemmas.Bool.{ltb-true}
use Rattle.pin_protocols.specs.Asks.{Asked}
use Rattle.key_pin.specs.declared.words.PinWords.{PinWords}
use Rattle.key_pin.specs.Grants.{granted, after_grant, bound}
use Rattle.key_pin.specs.Host.{Ending, asks, refused}
use Rattle.key_pin.specs.Calls.{Call, handle, begin, leave, verify, spend, end_token, give_up, power_up, reset, next, nexts}
use Rattle.key_pin.specs.Laws.{Sound}
use Rattle.key_pin.specs.Outcomes.{Outcome, Verdict, retries_told, key_told, pin_set, pin_refused, token_told, mismatch, after, one_more}
use Rattle.key_pin.specs.Query.{Query}
use Rattle.key_pin.specs.Saved.{FitsPin}
use Rattle.key_pin.specs.State.{PinState, PinToken, new_pin_state, counted, over, with_pair, pair_of, without_permissions}
use Rattle.key_pin.specs.Steps.{Try, verdict}
use Rattle.key_pin.proofs.Free.{Giving, Begins, Comes}
use Rattle.key_pin.proofs.Verdicts.{Mild, Way, judged_way}

pub new_sound : Sound new_pin_state
new_sound = record { retries = omega arith; mismatches = omega arith; counted = λ e. absurd cc; pin = refl; unset = λ _. (refl, refl) }

over_sound : (s : PinState) → Sound s → Sound (over s)
over_sound s h = record { retries = h.retries; mismatches = h.mismatches; counted = λ e. absurd cc; pin = h.pin; unset = h.unset }

pub pair_sound : (words : PinWords) (s : PinState) → Sound s → Sound (with_pair words s)
pair_sound words s h = record { retries = h.retries; mismatches = h.mismatches; counted = h.counted; pin = h.pin; unset = h.unset }

-- ---- a try that is counted

one_more_few : (n : ℕ) → one_more n ≤ 3
one_more_few n = elim (ltb n 3) as (λ b. ltb n 3 ≡ b → cond b (n + 1) 3 ≤ 3) [
  | true ↦ λ e. (let l : n < 3 = ltb-true n 3 e in omega arith)
  | false ↦ λ e. omega arith
] refl

fits_less : (o : Option (List ℕ)) (hash : List ℕ) (n m : ℕ) → o ≡ Some hash → FitsPin o n → m ≤ 8 → FitsPin o m
fits_less None hash n m e h le = absurd cc
fits_less (Some x) hash n m e h le = (h.0, le)

never_none : {A : Type 0} (o : Option (List ℕ)) (hash : List ℕ) → o ≡ Some hash → o ≡ None → A
never_none o hash e f = absurd cc

pub counted_pin : (s : PinState) → (counted s).pin ≡ s.pin
counted_pin s = elim s.counted as (λ b. (cond b s (record s { retries = s.retries - 1; counted = true })).pin ≡ s.pin) [ true ↦ refl | false ↦ refl ]

pub counted_less : (s : PinState) → (counted s).retries ≤ s.retries
counted_less s = elim s.counted as (λ b. (cond b s (record s { retries = s.retries - 1; counted = true })).retries ≤ s.retries) [ true ↦ omega arith | false ↦ omega arith ]

uncounted_sound : (s : PinState) (t : Try) → Sound s → Begins s t → s.counted ≡ false → Sound (record s { retries = s.retries - 1; counted = true })
uncounted_sound s t h b e =
    let left : (0 < s.retries) × (s.mismatches < 3) = elim b.free [ inl c ↦ absurd (cc) | inr f ↦ f ] in
    record {
      retries = omega (arith, h.retries);
      mismatches = h.mismatches;
      counted = λ _. (omega (arith, h.retries, left.0), left.1);
      pin = fits_less s.pin t.pin s.retries (s.retries - 1) b.pin h.pin (omega (arith, h.retries));
      unset = λ none. never_none s.pin t.pin b.pin none;
    }

pub counted_sound : (s : PinState) (t : Try) → Sound s → Begins s t → Sound (counted s)
counted_sound s t h b = elim s.counted as (λ c. s.counted ≡ c → Sound (cond c s (record s { retries = s.retries - 1; counted = true }))) [
  | true ↦ λ e. h
  | false ↦ λ e. uncounted_sound s t h b e
] refl

-- ---- the state after an outcome

full_sound : (s : PinState) (hash : List ℕ) (token : Option PinToken) → Sound s → s.pin ≡ Some hash → Sound (record s { retries = 8; mismatches = 0; token = token; counted = false })
full_sound s hash token h e = record {
  retries = omega arith;
  mismatches = omega arith;
  counted = λ wrong. absurd cc;
  pin = fits_less s.pin hash s.retries 8 e h.pin (omega arith);
  unset = λ none. never_none s.pin hash e none;
}

set_sound : (s : PinState) (hash : List ℕ) → length hash ≡ 16 → Sound (record s { pin = Some hash; retries = 8; mismatches = 0; token = None; counted = false })
set_sound s hash e = record { retries = omega arith; mismatches = omega arith; counted = λ wrong. absurd cc; pin = (e, omega arith); unset = λ none. absurd cc }

mismatch_sound : (s : PinState) (hash : List ℕ) → Sound s → s.pin ≡ Some hash → Sound (record s { mismatches = one_more s.mismatches; pair = None; counted = false })
mismatch_sound s hash h e = record {
  retries = h.retries;
  mismatches = one_more_few s.mismatches;
  counted = λ wrong. absurd cc;
  pin = h.pin;
  unset = λ none. never_none s.pin hash e none;
}

after_try : (es : List (Asked × List ℕ)) (words : PinWords) (t : Try) (s : PinState) (o : Result Outcome Ending) → Sound s → s.pin ≡ Some t.pin
    → Giving (Comes es words t) o → Sound (after o s)
after_try es words t s (Ok retries_told) h e g = absurd (g.so _ refl)
after_try es words t s (Ok key_told) h e g = absurd (g.so _ refl)
after_try es words t s (Ok (pin_set hash)) h e g = set_sound s hash (g.so _ refl).1
after_try es words t s (Ok (pin_refused status)) h e g = full_sound s t.pin s.token h e
after_try es words t s (Ok (token_told token sealed)) h e g = full_sound s t.pin (Some token) h e
after_try es words t s (Ok mismatch) h e g = mismatch_sound s t.pin h e
after_try es words t s (Err (asks a)) h e g = h
after_try es words t s (Err (refused status)) h e g = over_sound s h

after_mild : (s : PinState) (o : Result Outcome Ending) → Sound s → Giving (Mild s) o → Sound (after o s)
after_mild s (Ok retries_told) h g = over_sound s h
after_mild s (Ok key_told) h g = over_sound s h
after_mild s (Ok (pin_set hash)) h g = set_sound s hash (g.so _ refl).1
after_mild s (Ok (pin_refused status)) h g = absurd (g.so _ refl)
after_mild s (Ok (token_told token sealed)) h g = absurd (g.so _ refl)
after_mild s (Ok mismatch) h g = absurd (g.so _ refl)
after_mild s (Err (asks a)) h g = h
after_mild s (Err (refused status)) h g = over_sound s h

way_sound : (es : List (Asked × List ℕ)) (words : PinWords) (q : Query) (s : PinState) (v : Verdict) → Sound s → Way es words q s v → Sound (after v.outcome v.state)
way_sound es words q s v h (inl u) = subst (λ (st : PinState). Sound (after v.outcome st)) (sym u.state) (after_mild s v.outcome h u.mild)
way_sound es words q s v h (inr c) = subst (λ (st : PinState). Sound (after v.outcome st)) (sym c.state)
    (after_try es words c.attempt (counted s) v.outcome (counted_sound s c.attempt h c.begins) (counted_pin s ∙ c.begins.pin) c.comes)

-- ---- each call

no_token : (rp_id : List ℕ) (o : Option PinToken) → o ≡ None → option_map (bound rp_id) o ≡ None
no_token rp_id o e = ap (option_map (bound rp_id)) e

grant_sound : (r : Result (Unit {0}) Ending) (rp_id : List ℕ) (s : PinState) → Sound s → Sound (after_grant r rp_id s)
grant_sound (Ok u) rp_id s h = record {
  retries = h.retries;
  mismatches = h.mismatches;
  counted = h.counted;
  pin = h.pin;
  unset = λ none. ((h.unset none).0, no_token rp_id s.token (h.unset none).1);
}
grant_sound (Err e) rp_id s h = h

pub next_sound : (call : Call) (s : PinState) → Sound s → Sound (next call s)
next_sound (handle es words q) s h = way_sound es words q (with_pair words s) (verdict es words q s) (pair_sound words s h) (judged_way es words (pair_of words s) q (with_pair words s))
next_sound (begin words) s h = pair_sound words s h
next_sound (leave es words q) s h = elim (judged_way es words (pair_of words s) q (with_pair words s)) [
  | inl u ↦ subst Sound (sym u.state) (pair_sound words s h)
  | inr c ↦ subst Sound (sym c.state) (counted_sound (with_pair words s) c.attempt (pair_sound words s h) c.begins)
]
next_sound (verify es c) s h = grant_sound (granted es c s.token) c.rp_id s h
next_sound spend s h = record {
  retries = h.retries;
  mismatches = h.mismatches;
  counted = h.counted;
  pin = h.pin;
  unset = λ none. ((h.unset none).0, ap (option_map without_permissions) (h.unset none).1);
}
next_sound end_token s h = record { retries = h.retries; mismatches = h.mismatches; counted = h.counted; pin = h.pin; unset = λ none. ((h.unset none).0, refl) }
next_sound give_up s h = over_sound s h
next_sound power_up s h = record { retries = h.retries; mismatches = omega arith; counted = λ wrong. absurd cc; pin = h.pin; unset = λ _. (refl, refl) }
next_sound reset s h = new_sound

pub nexts_sound : (calls : List Call) (s : PinState) → Sound s → Sound (nexts calls s)
nexts_sound [] s h = h
nexts_sound (call ∷ calls) s h = nexts_sound calls (next call s) (next_sound call s h)
