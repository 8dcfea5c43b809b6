-- When retries come back, and how many PINs may be guessed.
use Rattle.std.proofs.Common.{◌≡◌, ◌<◌, ◌≤◌, ◌+◌, ◌-◌, ◌⊎◌, ℕ, List, [], ◌∷◌, Bool, true, false, cond, ltb, Some, None, Result, Ok, Err, refl, sym, ap, subst, ◌∙◌, inl, inr, arith}
use Rattle.std.specs.Prelude.{Option}
use Rattle.std.proofs.lemmas.Bool.{lt-ltb, ltb-true, ltb-false}
use Rattle.pin_protocols.specs.Asks.{Asked}
use Rattle.key_pin.specs.declared.words.PinWords.{PinWords}
use Rattle.key_pin.specs.Brought.{ComesOf, IsTried}
use Rattle.key_pin.specs.Grants.{granted, after_grant}
use Rattle.key_pin.specs.Host.{Ending, asks, refused}
use Rattle.key_pin.specs.Calls.{Call, handle, begin, leave, verify, spend, end_token, give_up, power_up, reset, next, nexts}
use Rattle.key_pin.specs.Laws.{Sound, BringsRightPin, IsNoReset, IsNoRestart, is_mismatch, wrong, guesses, NoneGivesBack, NoneClears, open_try}
use Rattle.key_pin.specs.Outcomes.{Outcome, retries_told, key_told, pin_set, pin_refused, token_told, mismatch, after, one_more}
use Rattle.key_pin.specs.Query.{Query}
use Rattle.key_pin.specs.Saved.{FitsPin}
use Rattle.key_pin.specs.State.{PinState, counted, with_pair, pair_of}
use Rattle.key_pin.specs.Steps.{verdict}
use Rattle.key_pin.proofs.Brought.{comes}
use Rattle.key_pin.proofs.Free.{Free, Giving}
use Rattle.key_pin.proofs.Soundness.{counted_less, next_sound, nexts_sound}
use Rattle.key_pin.proofs.Verdicts.{Mild, Way, judged_way}

way_of : (es : List (Asked × List ℕ)) (words : PinWords) (q : Query) (s : PinState) → Way es words q (with_pair words s) (verdict es words q s)
way_of es words q s = judged_way es words (pair_of words s) q (with_pair words s)

-- ---- the state in which a request was judged

counted_mismatches : (s : PinState) → (counted s).mismatches ≡ s.mismatches
counted_mismatches s = elim s.counted as (λ b. (cond b s (record s { retries = s.retries - 1; counted = true })).mismatches ≡ s.mismatches) [ true ↦ refl | false ↦ refl ]

state_retries : (es : List (Asked × List ℕ)) (words : PinWords) (q : Query) (s : PinState) → (verdict es words q s).state.retries ≤ s.retries
state_retries es words q s = elim (way_of es words q s) [
  | inl u ↦ subst (λ (st : PinState). st.retries ≤ s.retries) (sym u.state) (omega arith)
  | inr c ↦ subst (λ (st : PinState). st.retries ≤ s.retries) (sym c.state) (counted_less (with_pair words s))
]

state_mismatches : (es : List (Asked × List ℕ)) (words : PinWords) (q : Query) (s : PinState) → (verdict es words q s).state.mismatches ≡ s.mismatches
state_mismatches es words q s = elim (way_of es words q s) [
  | inl u ↦ ap (λ (st : PinState). st.mismatches) u.state
  | inr c ↦ ap (λ (st : PinState). st.mismatches) c.state ∙ counted_mismatches (with_pair words s)
]

-- ---- what comes back

module _ (es : List (Asked × List ℕ)) (words : PinWords) (q : Query) (s : PinState) (h : Sound s) where
  abbrev Comes : Result Outcome Ending → Type 0
  Comes o = Giving (ComesOf es words q s) o

  restored_by : (o : Result Outcome Ending) (st : PinState) → Comes o → st.retries ≤ s.retries → s.retries < (after o st).retries → IsTried es words q s
  restored_by (Ok retries_told) st c le lt = absurd (omega arith)
  restored_by (Ok key_told) st c le lt = absurd (omega arith)
  restored_by (Ok (pin_set hash)) st c le lt = elim (c.so (pin_set hash) refl) [
    | inl first ↦ absurd (let all : s.retries ≡ 8 = subst (λ (o : Option (List ℕ)). FitsPin o s.retries) first.none h.pin in omega arith)
    | inr change ↦ change.0.tried
  ]
  restored_by (Ok (pin_refused status)) st c le lt = (c.so (pin_refused status) refl).tried
  restored_by (Ok (token_told token sealed)) st c le lt = (c.so (token_told token sealed) refl).tried
  restored_by (Ok mismatch) st c le lt = absurd (omega arith)
  restored_by (Err (asks a)) st c le lt = absurd (omega arith)
  restored_by (Err (refused status)) st c le lt = absurd (omega arith)

  more : (n : ℕ) → n ≤ 3 → n ≤ one_more n
  more n le = elim (ltb n 3) as (λ b. ltb n 3 ≡ b → n ≤ cond b (n + 1) 3) [ true ↦ λ e. omega arith | false ↦ λ e. omega arith ] refl

  cleared_by : (o : Result Outcome Ending) (st : PinState) → Comes o → st.mismatches ≡ s.mismatches → (after o st).mismatches < s.mismatches → IsTried es words q s
  cleared_by (Ok retries_told) st c same lt = absurd (omega arith)
  cleared_by (Ok key_told) st c same lt = absurd (omega arith)
  cleared_by (Ok (pin_set hash)) st c same lt = elim (c.so (pin_set hash) refl) [
    | inl first ↦ absurd (let none = (h.unset first.none).0 in omega (arith, none))
    | inr change ↦ change.0.tried
  ]
  cleared_by (Ok (pin_refused status)) st c same lt = (c.so (pin_refused status) refl).tried
  cleared_by (Ok (token_told token sealed)) st c same lt = (c.so (token_told token sealed) refl).tried
  cleared_by (Ok mismatch) st c same lt = absurd (let few = h.mismatches in let le = more st.mismatches (omega (arith, few)) in omega (arith, le))
  cleared_by (Err (asks a)) st c same lt = absurd (omega arith)
  cleared_by (Err (refused status)) st c same lt = absurd (omega arith)

grant_kept : (r : Result (Unit {0}) Ending) (rp_id : List ℕ) (s : PinState) → ((after_grant r rp_id s).retries ≡ s.retries) × ((after_grant r rp_id s).mismatches ≡ s.mismatches)
    × ((after_grant r rp_id s).counted ≡ s.counted)
grant_kept (Ok u) rp_id s = (refl, refl, refl)
grant_kept (Err e) rp_id s = (refl, refl, refl)

pub restored : (call : Call) (s : PinState) → Sound s → s.retries < (next call s).retries → BringsRightPin call s ⊎ (IsNoReset call → ⊥)
restored (handle es words q) s h lt =
    inl (restored_by es words q s h (verdict es words q s).outcome (verdict es words q s).state (comes es words q s) (state_retries es words q s) lt)
restored (begin words) s h lt = absurd (omega arith)
restored (leave es words q) s h lt = absurd (let le = state_retries es words q s in omega (arith, le))
restored (verify es c) s h lt = absurd (let k = (grant_kept (granted es c s.token) c.rp_id s).0 in omega (arith, k))
restored spend s h lt = absurd (omega arith)
restored end_token s h lt = absurd (omega arith)
restored give_up s h lt = absurd (omega arith)
restored power_up s h lt = absurd (omega arith)
restored reset s h lt = inr (λ none. none)

pub cleared : (call : Call) (s : PinState) → Sound s → (next call s).mismatches < s.mismatches → BringsRightPin call s ⊎ (IsNoRestart call → ⊥)
cleared (handle es words q) s h lt =
    inl (cleared_by es words q s h (verdict es words q s).outcome (verdict es words q s).state (comes es words q s) (state_mismatches es words q s) lt)
cleared (begin words) s h lt = absurd (omega arith)
cleared (leave es words q) s h lt = absurd (let same = state_mismatches es words q s in omega (arith, same))
cleared (verify es c) s h lt = absurd (let k = (grant_kept (granted es c s.token) c.rp_id s).1 in omega (arith, k))
cleared spend s h lt = absurd (omega arith)
cleared end_token s h lt = absurd (omega arith)
cleared give_up s h lt = absurd (omega arith)
cleared power_up s h lt = inr (λ none. none)
cleared reset s h lt = inr (λ none. none)

-- ---- a wrong PIN

free_in : (es : List (Asked × List ℕ)) (words : PinWords) (q : Query) (s : PinState) → (verdict es words q s).outcome ≡ Ok mismatch → Free s
free_in es words q s e = elim (way_of es words q s) [ inl u ↦ absurd (u.mild.so _ e) | inr c ↦ c.begins.free ]

few_in : (s : PinState) → Sound s → Free s → s.mismatches < 3
few_in s h free = elim free [ inl now ↦ (h.counted now).1 | inr f ↦ f.1 ]

one_added : (n : ℕ) → n < 3 → one_more n ≡ n + 1
one_added n lt = rw (lt-ltb n 3 lt) refl

pub one_in_a_row : (es : List (Asked × List ℕ)) (words : PinWords) (q : Query) (s : PinState) → Sound s → (verdict es words q s).outcome ≡ Ok mismatch
    → ((next (handle es words q) s).mismatches ≡ s.mismatches + 1) × ((next (handle es words q) s).pair ≡ None)
one_in_a_row es words q s h e = (
  ap (λ (o : Result Outcome Ending). (after o (verdict es words q s).state).mismatches) e ∙ ap one_more (state_mismatches es words q s)
      ∙ one_added s.mismatches (few_in s h (free_in es words q s e)),
  ap (λ (o : Result Outcome Ending). (after o (verdict es words q s).state).pair) e,
)

-- ---- guesses

at_most_one : (b : Bool) → open_try b ≤ 1
at_most_one true = omega arith
at_most_one false = omega arith

-- what is left, with the try that is under way
abbrev left : PinState → ℕ
left s = s.retries + open_try s.counted

-- a try that is counted was one that was left
count_one : (s : PinState) → Free s → (counted s).retries + 1 ≤ left s
count_one s free = elim s.counted as (λ b. s.counted ≡ b → (cond b s (record s { retries = s.retries - 1; counted = true })).retries + 1 ≤ s.retries + open_try b) [
  | true ↦ λ e. omega arith
  | false ↦ λ e. (let some : 0 < s.retries = elim free [ inl now ↦ absurd (let bad : true ≡ false = sym now ∙ e in cc) | inr f ↦ f.0 ] in omega arith)
] refl

mild_one : (s : PinState) (o : Result Outcome Ending) → Giving (Mild s) o → (after o s).retries ≤ s.retries → is_mismatch o + left (after o s) ≤ left s
mild_one s (Ok retries_told) g le = omega arith
mild_one s (Ok key_told) g le = omega arith
mild_one s (Ok (pin_set hash)) g le = omega arith
mild_one s (Ok (pin_refused status)) g le = omega arith
mild_one s (Ok (token_told token sealed)) g le = omega arith
mild_one s (Ok mismatch) g le = absurd (g.so _ refl)
mild_one s (Err (asks a)) g le = omega arith
mild_one s (Err (refused status)) g le = omega arith

try_one : (m n : ℕ) (t : PinState) (o : Result Outcome Ending) → t.retries + 1 ≤ n → m ≤ n → (after o t).retries ≤ m → is_mismatch o + left (after o t) ≤ n
try_one m n t (Ok retries_told) le some back = omega (arith, le, some, back)
try_one m n t (Ok key_told) le some back = omega (arith, le, some, back)
try_one m n t (Ok (pin_set hash)) le some back = omega (arith, le, some, back)
try_one m n t (Ok (pin_refused status)) le some back = omega (arith, le, some, back)
try_one m n t (Ok (token_told token sealed)) le some back = omega (arith, le, some, back)
try_one m n t (Ok mismatch) le some back = omega (arith, le)
try_one m n t (Err (asks a)) le some back = let one = at_most_one t.counted in omega (arith, le, one)
try_one m n t (Err (refused status)) le some back = omega (arith, le)

leave_one : (es : List (Asked × List ℕ)) (words : PinWords) (q : Query) (s : PinState) → left (verdict es words q s).state ≤ left s
leave_one es words q s = elim (way_of es words q s) [
  | inl u ↦ subst (λ (st : PinState). left st ≤ left s) (sym u.state) (omega arith)
  | inr c ↦ subst (λ (st : PinState). left st ≤ left s) (sym c.state)
      (let le = count_one (with_pair words s) c.begins.free in let few = at_most_one (counted (with_pair words s)).counted in omega (arith, le, few))
]

one : (call : Call) (s : PinState) → (next call s).retries ≤ s.retries → wrong call s + left (next call s) ≤ left s
one (handle es words q) s le = elim (way_of es words q s) [
  | inl u ↦ subst (λ (st : PinState). (after (verdict es words q s).outcome st).retries ≤ s.retries
      → is_mismatch (verdict es words q s).outcome + left (after (verdict es words q s).outcome st) ≤ left s) (sym u.state)
      (mild_one (with_pair words s) (verdict es words q s).outcome u.mild) le
  | inr c ↦ subst (λ (st : PinState). (after (verdict es words q s).outcome st).retries ≤ s.retries
      → is_mismatch (verdict es words q s).outcome + left (after (verdict es words q s).outcome st) ≤ left s) (sym c.state)
      (try_one s.retries (left s) (counted (with_pair words s)) (verdict es words q s).outcome (count_one (with_pair words s) c.begins.free) (omega arith)) le
]
one (begin words) s le = omega arith
one (leave es words q) s le = let x : left (next (leave es words q) s) ≤ left s = leave_one es words q s in omega (arith, x)
one (verify es c) s le =
    let k = grant_kept (granted es c s.token) c.rp_id s in
    let same : open_try (after_grant (granted es c s.token) c.rp_id s).counted ≡ open_try s.counted = ap open_try k.2 in
    let r = k.0 in omega (arith, r, same)
one spend s le = omega arith
one end_token s le = omega arith
one give_up s le = omega arith
one power_up s le = omega arith
one reset s le = omega arith

counted_all : (calls : List Call) (s : PinState) → NoneGivesBack calls s → guesses calls s + left (nexts calls s) ≤ left s
counted_all [] s none = omega arith
counted_all (call ∷ calls) s none =
    let here = one call s none.0 in
    let rest = counted_all calls (next call s) none.1 in
    omega (arith, here, rest)

eight : (s : PinState) → Sound s → left s ≤ 8
eight s h = elim s.counted as (λ b. s.counted ≡ b → s.retries + open_try b ≤ 8) [
  | true ↦ λ e. (let few = (h.counted e).0 in omega (arith, few))
  | false ↦ λ e. (let few = h.retries in omega (arith, few))
] refl

pub guessed : (calls : List Call) (s : PinState) → Sound s → NoneGivesBack calls s
    → (guesses calls s ≤ 8) × (guesses calls s + (nexts calls s).retries ≤ s.retries + open_try s.counted)
guessed calls s h none =
    let all = counted_all calls s none in
    let few = eight s h in (omega (arith, all, few), omega (arith, all))

one_or_none : (o : Result Outcome Ending) → (o ≡ Ok mismatch) ⊎ (is_mismatch o ≡ 0)
one_or_none (Ok retries_told) = inr refl
one_or_none (Ok key_told) = inr refl
one_or_none (Ok (pin_set hash)) = inr refl
one_or_none (Ok (pin_refused status)) = inr refl
one_or_none (Ok (token_told token sealed)) = inr refl
one_or_none (Ok mismatch) = inl refl
one_or_none (Err e) = inr refl

is_one : (o : Result Outcome Ending) → is_mismatch o ≤ 1
is_one o = elim (one_or_none o) [ inl e ↦ (let x : is_mismatch o ≡ 1 = ap is_mismatch e in omega arith) | inr e ↦ omega (arith, e) ]

row_one : (call : Call) (s : PinState) → Sound s → s.mismatches ≤ (next call s).mismatches → wrong call s + s.mismatches ≤ (next call s).mismatches
row_one (handle es words q) s h le = elim (one_or_none (verdict es words q s).outcome) [
  | inl e ↦ (let one = (one_in_a_row es words q s h e).0 in let few = is_one (verdict es words q s).outcome in omega (arith, one, few))
  | inr e ↦ omega (arith, e, le)
]
row_one (begin words) s h le = omega (arith, le)
row_one (leave es words q) s h le = omega (arith, le)
row_one (verify es c) s h le = omega (arith, le)
row_one spend s h le = omega (arith, le)
row_one end_token s h le = omega (arith, le)
row_one give_up s h le = omega (arith, le)
row_one power_up s h le = omega (arith, le)
row_one reset s h le = omega (arith, le)

row_all : (calls : List Call) (s : PinState) → Sound s → NoneClears calls s → guesses calls s + s.mismatches ≤ (nexts calls s).mismatches
row_all [] s h none = omega arith
row_all (call ∷ calls) s h none =
    let here = row_one call s h none.0 in
    let rest = row_all calls (next call s) (next_sound call s h) none.1 in
    omega (arith, here, rest)

pub guessed_in_a_row : (calls : List Call) (s : PinState) → Sound s → NoneClears calls s
    → (guesses calls s ≤ 3) × (guesses calls s + s.mismatches ≤ (nexts calls s).mismatches)
guessed_in_a_row calls s h none =
    let all = row_all calls s h none in
    let few = (nexts_sound calls s h).mismatches in (omega (arith, all, few), all)
