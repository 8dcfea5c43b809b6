-- The laws.
use Rattle.std.proofs.Common.{◌+◌, ◌-◌, length, ◌≡◌, ◌≢◌, ◌<◌, ◌≤◌, ◌⊎◌, ℕ, List, [], ◌∷◌, Bool, true, false, cond, eqb, leb, Some, None, Result, Ok, Err, refl, sym, ap, subst, ◌∙◌, inl, inr, arith}
use Rattle.std.specs.Prelude.{Option, option_map, ◌↔◌}
use Rattle.std.specs.List.{AllByRecursion}
use Rattle.std.proofs.lemmas.Bool.{le-leb, leb-true}
use Rattle.pin_key_messages.specs.Replying.{PinReplyBytes}
use Rattle.pin_protocols.specs.declared.protocol.Protocol.{Protocol}
use Rattle.pin_protocols.specs.Asks.{Asked, answer_of}
use Rattle.key_pin.specs.declared.words.PinWords.{PinWords}
use Rattle.key_pin.specs.Grants.{bound, granted, after_grant}
use Rattle.key_pin.specs.Host.{Ending, asks, refused}
use Rattle.key_pin.specs.Calls.{Call, handle, begin, leave, verify, spend, end_token, give_up, power_up, reset, next, nexts}
use Rattle.key_pin.specs.Laws.{Sound, IsDecryption, IsNoRestart, IsNoReset, PinLaws}
use Rattle.key_pin.specs.Outcomes.{Outcome, retries_told, key_told, pin_set, pin_refused, token_told, mismatch, after, Replies, public}
use Rattle.key_pin.specs.Query.{Query}
use Rattle.key_pin.specs.Saved.{FitsPin, hash_bytes, saved}
use Rattle.key_pin.specs.State.{PinState, PinToken, counted, with_pair, pair_of, powered_up, without_permissions}
use Rattle.key_pin.specs.Steps.{verdict}
use Rattle.key_pin.proofs.Brought.{comes}
use Rattle.key_pin.proofs.Free.{Giving, Free}
use Rattle.key_pin.proofs.Given.{given_in, vouched}
use Rattle.key_pin.proofs.Granting.{granting}
use Rattle.key_pin.proofs.Guessed.{cleared, guessed, guessed_in_a_row, one_in_a_row, restored}
use Rattle.key_pin.proofs.Soundness.{new_sound, nexts_sound, next_sound}
use Rattle.key_pin.proofs.InUse.{never_again}
use Rattle.key_pin.proofs.Verdicts.{Mild, Way, judged_way}

way_of : (es : List (Asked × List ℕ)) (words : PinWords) (q : Query) (s : PinState) → Way es words q (with_pair words s) (verdict es words q s)
way_of es words q s = judged_way es words (pair_of words s) q (with_pair words s)

-- ---- requests

pub asked : (es : List (Asked × List ℕ)) (words : PinWords) (q : Query) (s : PinState) (a : Asked) → (verdict es words q s).outcome ≡ Err (asks a) → answer_of es a ≡ None
asked es words q s a e = elim (way_of es words q s) [ inl u ↦ u.asks.so a e | inr c ↦ c.asks.so a e ]

counted_first : (es : List (Asked × List ℕ)) (words : PinWords) (q : Query) (s : PinState) (a : Asked)
    → (verdict es words q s).outcome ≡ Err (asks a) → IsDecryption a → q.subcommand ≢ 3 → (verdict es words q s).state ≡ counted (with_pair words s)
counted_first es words q s a e d other = elim (way_of es words q s) [
  | inl u ↦ absurd (((u.plain other).so a e).other d)
  | inr c ↦ c.state
]

counted_wrong : (es : List (Asked × List ℕ)) (words : PinWords) (q : Query) (s : PinState) → (verdict es words q s).outcome ≡ Ok mismatch
    → (verdict es words q s).state ≡ counted (with_pair words s)
counted_wrong es words q s e = elim (way_of es words q s) [ inl u ↦ absurd (u.mild.so _ e) | inr c ↦ c.state ]

taken : (s : PinState) (b : Bool) → (cond b s (record s { retries = s.retries - 1; counted = true })).retries ≡ cond b s.retries (s.retries - 1)
taken s true = refl
taken s false = refl

counted_retries : (s : PinState) (b : Bool) → s.counted ≡ b → (counted s).retries ≡ cond b s.retries (s.retries - 1)
counted_retries s b e = ap (λ (x : Bool). (cond x s (record s { retries = s.retries - 1; counted = true })).retries) e ∙ taken s b

after_wrong : (s : PinState) (o : Result Outcome Ending) → o ≡ Ok mismatch → (after o s).retries ≡ s.retries
after_wrong s o e = ap (λ (r : Result Outcome Ending). (after r s).retries) e

wrong_retries : (es : List (Asked × List ℕ)) (words : PinWords) (q : Query) (s : PinState) → (verdict es words q s).outcome ≡ Ok mismatch
    → (next (handle es words q) s).retries ≡ (counted (with_pair words s)).retries
wrong_retries es words q s e =
    after_wrong (verdict es words q s).state (verdict es words q s).outcome e ∙ ap (λ (st : PinState). st.retries) (counted_wrong es words q s e)

free_in : (es : List (Asked × List ℕ)) (words : PinWords) (q : Query) (s : PinState) → (verdict es words q s).outcome ≡ Ok mismatch → Free s
free_in es words q s e = elim (way_of es words q s) [ inl u ↦ absurd (u.mild.so _ e) | inr c ↦ c.begins.free ]

left_of : (s : PinState) → Free s → s.counted ≡ false → 0 < s.retries
left_of s free c = elim free [ inl now ↦ absurd (let wrong : true ≡ false = sym now ∙ c in cc) | inr f ↦ f.0 ]

one_taken : (es : List (Asked × List ℕ)) (words : PinWords) (q : Query) (s : PinState) → (verdict es words q s).outcome ≡ Ok mismatch → s.counted ≡ false
    → (next (handle es words q) s).retries + 1 ≡ s.retries
one_taken es words q s e c =
    let left : 0 < s.retries = left_of s (free_in es words q s e) c in
    let less : (next (handle es words q) s).retries ≡ s.retries - 1 = wrong_retries es words q s e ∙ counted_retries (with_pair words s) false c in
    omega arith

none_taken_twice : (es : List (Asked × List ℕ)) (words : PinWords) (q : Query) (s : PinState) → (verdict es words q s).outcome ≡ Ok mismatch → s.counted ≡ true
    → (next (handle es words q) s).retries ≡ s.retries
none_taken_twice es words q s e c = wrong_retries es words q s e ∙ counted_retries (with_pair words s) true c

-- ---- where no PIN may be tried

abbrev Stays : PinState → PinState → Type 0
Stays s n = (n.mismatches ≡ s.mismatches) × (n.retries ≡ s.retries) × (n.pin ≡ s.pin) × (n.counted ≡ true → s.counted ≡ true)

mild_stays : (s : PinState) (o : Result Outcome Ending) → (s.pin ≡ None → ⊥) → Giving (Mild s) o → Stays s (after o s)
mild_stays s (Ok retries_told) set g = (refl, refl, refl, λ wrong. absurd cc)
mild_stays s (Ok key_told) set g = (refl, refl, refl, λ wrong. absurd cc)
mild_stays s (Ok (pin_set hash)) set g = absurd (set (g.so _ refl).0)
mild_stays s (Ok (pin_refused status)) set g = absurd (g.so _ refl)
mild_stays s (Ok (token_told token sealed)) set g = absurd (g.so _ refl)
mild_stays s (Ok mismatch) set g = absurd (g.so _ refl)
mild_stays s (Err (asks a)) set g = (refl, refl, refl, λ same. same)
mild_stays s (Err (refused status)) set g = (refl, refl, refl, λ wrong. absurd cc)

abbrev Unfree : PinState → Type 0
Unfree s = (s.pin ≡ None → ⊥) × (Free s → ⊥)

handle_stays : (es : List (Asked × List ℕ)) (words : PinWords) (q : Query) (s : PinState) → Unfree s → Stays s (next (handle es words q) s)
handle_stays es words q s u = elim (way_of es words q s) [
  | inl c ↦ subst (λ (st : PinState). Stays s (after (verdict es words q s).outcome st)) (sym c.state)
      (mild_stays (with_pair words s) (verdict es words q s).outcome u.0 c.mild)
  | inr c ↦ absurd (u.1 c.begins.free)
]

leave_stays : (es : List (Asked × List ℕ)) (words : PinWords) (q : Query) (s : PinState) → Unfree s → Stays s (verdict es words q s).state
leave_stays es words q s u = elim (way_of es words q s) [
  | inl c ↦ subst (λ (st : PinState). Stays s st) (sym c.state) (refl, refl, refl, λ same. same)
  | inr c ↦ absurd (u.1 c.begins.free)
]

grant_stays : (r : Result (Unit {0}) Ending) (rp_id : List ℕ) (s : PinState) → Stays s (after_grant r rp_id s)
grant_stays (Ok x) rp_id s = (refl, refl, refl, λ same. same)
grant_stays (Err e) rp_id s = (refl, refl, refl, λ same. same)

call_stays : (call : Call) (s : PinState) → IsNoRestart call → Unfree s → Stays s (next call s)
call_stays (handle es words q) s kept u = handle_stays es words q s u
call_stays (begin words) s kept u = (refl, refl, refl, λ same. same)
call_stays (leave es words q) s kept u = leave_stays es words q s u
call_stays (verify es c) s kept u = grant_stays (granted es c s.token) c.rp_id s
call_stays spend s kept u = (refl, refl, refl, λ same. same)
call_stays end_token s kept u = (refl, refl, refl, λ same. same)
call_stays give_up s kept u = (refl, refl, refl, λ wrong. absurd cc)
call_stays power_up s kept u = absurd kept
call_stays reset s kept u = absurd kept

three_unfree : (s : PinState) → Sound s → s.mismatches ≡ 3 → Unfree s
three_unfree s h e = (
  (λ none. absurd (omega (arith, (h.unset none).0))),
  (λ free. elim free [ inl c ↦ absurd (omega (arith, (h.counted c).1)) | inr f ↦ absurd (omega (arith, f.1)) ]),
)

blocked : (calls : List Call) (s : PinState) → Sound s → s.mismatches ≡ 3 → AllByRecursion IsNoRestart calls
    → ((nexts calls s).mismatches ≡ 3) × ((nexts calls s).retries ≡ s.retries) × ((nexts calls s).pin ≡ s.pin)
blocked [] s h e all = (e, refl, refl)
blocked (call ∷ calls) s h e all =
    let here = call_stays call s all.0 (three_unfree s h e) in
    let rest = blocked calls (next call s) (next_sound call s h) (here.0 ∙ e) all.1 in
    (rest.0, rest.1 ∙ here.1, rest.2 ∙ here.2)

none_unfree : (s : PinState) → Sound s → s.retries ≡ 0 → s.counted ≡ false → Unfree s
none_unfree s h e c = (
  (λ none. let all : s.retries ≡ 8 = subst (λ (o : Option (List ℕ)). FitsPin o s.retries) none h.pin in absurd (omega arith)),
  (λ free. elim free [ inl now ↦ absurd (let wrong : true ≡ false = sym now ∙ c in cc) | inr f ↦ absurd (omega (arith, f.0)) ]),
)

abbrev UsedUp : PinState → PinState → Type 0
UsedUp s n = (n.retries ≡ 0) × (n.pin ≡ s.pin) × (n.counted ≡ false)

not_counted : (b : Bool) → (b ≡ true → ⊥) → b ≡ false
not_counted true never = absurd (never refl)
not_counted false never = refl

no_false : (b : Bool) → b ≡ false → b ≡ true → ⊥
no_false b e f = let wrong : false ≡ true = sym e ∙ f in cc

call_used_up : (call : Call) (s : PinState) → IsNoReset call → s.retries ≡ 0 → s.counted ≡ false → (IsNoRestart call → Stays s (next call s)) → UsedUp s (next call s)
call_used_up power_up s kept e c stays = (e, refl, refl)
call_used_up reset s kept e c stays = absurd kept
call_used_up (handle es words q) s kept e c stays = let k = stays tt in (k.1 ∙ e, k.2, not_counted _ (λ now. no_false s.counted c (k.3 now)))
call_used_up (verify es x) s kept e c stays = let k = stays tt in (k.1 ∙ e, k.2, not_counted _ (λ now. no_false s.counted c (k.3 now)))
call_used_up (begin words) s kept e c stays = let k = stays tt in (k.1 ∙ e, k.2, not_counted _ (λ now. no_false s.counted c (k.3 now)))
call_used_up (leave es words q) s kept e c stays = let k = stays tt in (k.1 ∙ e, k.2, not_counted _ (λ now. no_false s.counted c (k.3 now)))
call_used_up spend s kept e c stays = (e, refl, c)
call_used_up end_token s kept e c stays = (e, refl, c)
call_used_up give_up s kept e c stays = (e, refl, refl)

used_up : (calls : List Call) (s : PinState) → Sound s → s.retries ≡ 0 → s.counted ≡ false → AllByRecursion IsNoReset calls
    → ((nexts calls s).retries ≡ 0) × ((nexts calls s).pin ≡ s.pin)
used_up [] s h e c all = (e, refl)
used_up (call ∷ calls) s h e c all =
    let here = call_used_up call s all.0 e c (λ kept. call_stays call s kept (none_unfree s h e c)) in
    let rest = used_up calls (next call s) (next_sound call s h) here.0 here.2 all.1 in
    (rest.0, rest.1 ∙ here.1)

-- ---- tokens

bound_rp_id : (rp_id : List ℕ) (o : Option PinToken) (t : PinToken) → option_map (bound rp_id) o ≡ Some t → t.rp_id ≡ Some rp_id
bound_rp_id rp_id None t e = absurd cc
bound_rp_id rp_id (Some u) t e = let same : bound rp_id u ≡ t = cc in ap (λ (x : PinToken). x.rp_id) (sym same)

grant_binds : (r : Result (Unit {0}) Ending) (rp_id : List ℕ) (s : PinState) (t : PinToken) → r ≡ Ok tt → (after_grant r rp_id s).token ≡ Some t → t.rp_id ≡ Some rp_id
grant_binds (Ok u) rp_id s t is e = bound_rp_id rp_id s.token t e
grant_binds (Err f) rp_id s t is e = absurd cc

spent_permissions : (o : Option PinToken) (t : PinToken) → option_map without_permissions o ≡ Some t → t.permissions ≡ 0
spent_permissions None t e = absurd cc
spent_permissions (Some u) t e = let same : without_permissions u ≡ t = cc in ap (λ (x : PinToken). x.permissions) (sym same)

-- the token after an outcome
set_token : (s : PinState) (hash : List ℕ) (o : Result Outcome Ending) → o ≡ Ok (pin_set hash) → (after o s).token ≡ None
set_token s hash o e = ap (λ (r : Result Outcome Ending). (after r s).token) e

told_token : (s : PinState) (token : PinToken) (sealed : List ℕ) (o : Result Outcome Ending) → o ≡ Ok (token_told token sealed) → (after o s).token ≡ Some token
told_token s token sealed o e = ap (λ (r : Result Outcome Ending). (after r s).token) e

-- ---- what is saved

abbrev kept_of : Option (List ℕ) → ℕ → PinState
kept_of pin retries = record { pin = pin; retries = retries; mismatches = 0; pair = None; token = None; counted = false }

same_hash : (o p : Option (List ℕ)) (n : ℕ) → FitsPin o n → FitsPin p n → hash_bytes o ≡ hash_bytes p → o ≡ p
same_hash None None n h k e = refl
same_hash None (Some y) n h k e = absurd (let size : 0 ≡ length y = ap length e in omega (arith, k.0))
same_hash (Some x) None n h k e = absurd (let size : length x ≡ 0 = ap length e in omega (arith, h.0))
same_hash (Some x) (Some y) n h k e = ap (λ (z : List ℕ). Some z) e

saved_once : (s t : PinState) → Sound s → Sound t → saved s ≡ saved t → powered_up s ≡ powered_up t
saved_once s t h k e =
    let n : s.retries ≡ t.retries = cc in
    let b : hash_bytes s.pin ≡ hash_bytes t.pin = cc in
    let p : s.pin ≡ t.pin = same_hash s.pin t.pin t.retries (subst (FitsPin s.pin) n h.pin) k.pin b in
    ap (λ (o : Option (List ℕ)). kept_of o s.retries) p ∙ ap (kept_of t.pin) n

is_blocked : (n : ℕ) → leb 3 n ≡ true ↔ 3 ≤ n
is_blocked n = (leb-true 3 n, le-leb 3 n)

tells : (s : PinState) (bs : List ℕ) → Replies (Ok retries_told) (public s) bs
    → (blocked : Bool) × (blocked ≡ true ↔ 3 ≤ s.mismatches)
    × PinReplyBytes (record { key = None; token = None; pin_retries = Some s.retries; power_cycle = Some blocked; uv_retries = None }) bs
tells s bs h = (leb 3 s.mismatches, is_blocked s.mismatches, h)

pub laws : PinLaws
laws = record {
  sound = nexts_sound;
  begins = new_sound;
  saved_once = saved_once;
  tried = λ es words q s token sealed e. ((comes es words q s).so (token_told token sealed) e).tried;
  scoped = λ es words q s token sealed e. ((comes es words q s).so (token_told token sealed) e).scoped;
  comes = λ es words q s outcome e. (comes es words q s).so outcome e;
  tells = tells;
  restored = restored;
  cleared = cleared;
  one_more = one_in_a_row;
  guessed = guessed;
  guessed_in_a_row = guessed_in_a_row;
  asked = asked;
  counted_first = counted_first;
  counted_wrong = counted_wrong;
  one_taken = one_taken;
  none_taken_twice = none_taken_twice;
  blocked = blocked;
  used_up = used_up;
  authentic = λ es c token e. let g = granting es c token e in (g.by, g.in_use, g.protocol, g.authentic);
  grants = λ es c token e. let g = granting es c token e in (g.by, g.in_use, g.permission, g.rp_id);
  bound = λ es c s t e f. grant_binds (granted es c s.token) c.rp_id s t e f;
  spends = λ s t e. spent_permissions s.token t e;
  ended = λ es words q s hash e. set_token (verdict es words q s).state hash (verdict es words q s).outcome e;
  renewed = λ es words q s token sealed e. told_token (verdict es words q s).state token sealed (verdict es words q s).outcome e;
  never_again = never_again;
  given = given_in;
  vouched = vouched;
  hidden_hash = λ a b p bs h. h;
  hidden_token = λ a b sealed p bs h. h;
  gone = λ s. (refl, refl, refl);
}
