-- Which token is in use.
use Rattle.std.proofs.Common.{◌≡◌, ◌⊎◌, ◌-◌, ℕ, List, [], ◌∷◌, true, false, cond, Some, None, Result, Ok, Err, refl, sym, ap, subst, ◌∙◌, inl, inr}
use Rattle.std.specs.Prelude.{Option, option_map}
use Rattle.pin_protocols.specs.Asks.{Asked}
use Rattle.key_pin.specs.declared.words.PinWords.{PinWords}
use Rattle.key_pin.specs.Grants.{granted, after_grant, bound}
use Rattle.key_pin.specs.Host.{Ending, asks, refused}
use Rattle.key_pin.specs.Calls.{Call, handle, begin, leave, verify, spend, end_token, give_up, power_up, reset, next, nexts}
use Rattle.key_pin.specs.Laws.{IsOf, IsHanded, IsAmong}
use Rattle.key_pin.specs.Outcomes.{Outcome, retries_told, key_told, pin_set, pin_refused, token_told, mismatch, after}
use Rattle.key_pin.specs.Query.{Query}
use Rattle.key_pin.specs.State.{PinState, PinToken, counted, with_pair, pair_of, without_permissions}
use Rattle.key_pin.specs.Steps.{verdict}
use Rattle.key_pin.proofs.Verdicts.{Way, judged_way}

of_itself : (o : Option PinToken) (t : PinToken) → o ≡ Some t → IsOf o t
of_itself o t e = subst (λ (x : Option PinToken). IsOf x t) (sym e) refl

of_changed : (f : PinToken → PinToken) → ((u : PinToken) → (f u).bytes ≡ u.bytes) → (o : Option PinToken) (t : PinToken) → option_map f o ≡ Some t → IsOf o t
of_changed f same None t e = absurd cc
of_changed f same (Some u) t e = let is : f u ≡ t = cc in sym (ap (λ (x : PinToken). x.bytes) is) ∙ same u

module _ (words : PinWords) (t : PinToken) where
  abbrev Here : Option PinToken → Type 0
  Here o = IsOf o t ⊎ (t.bytes ≡ words.token)

  after_one : (s : PinState) (o : Result Outcome Ending) → ((token : PinToken) (sealed : List ℕ) → o ≡ Ok (token_told token sealed) → token.bytes ≡ words.token)
      → (after o s).token ≡ Some t → Here s.token
  after_one s (Ok retries_told) new e = inl (of_itself s.token t e)
  after_one s (Ok key_told) new e = inl (of_itself s.token t e)
  after_one s (Ok (pin_set hash)) new e = absurd cc
  after_one s (Ok (pin_refused status)) new e = inl (of_itself s.token t e)
  after_one s (Ok (token_told token sealed)) new e = let is : token ≡ t = cc in inr (sym (ap (λ (x : PinToken). x.bytes) is) ∙ new token sealed refl)
  after_one s (Ok mismatch) new e = inl (of_itself s.token t e)
  after_one s (Err (asks a)) new e = inl (of_itself s.token t e)
  after_one s (Err (refused status)) new e = inl (of_itself s.token t e)

counted_token : (s : PinState) → (counted s).token ≡ s.token
counted_token s = elim s.counted as (λ b. (cond b s (record s { retries = s.retries - 1; counted = true })).token ≡ s.token) [ true ↦ refl | false ↦ refl ]

way_of : (es : List (Asked × List ℕ)) (words : PinWords) (q : Query) (s : PinState) → Way es words q (with_pair words s) (verdict es words q s)
way_of es words q s = judged_way es words (pair_of words s) q (with_pair words s)

pub state_token : (es : List (Asked × List ℕ)) (words : PinWords) (q : Query) (s : PinState) → (verdict es words q s).state.token ≡ s.token
state_token es words q s = elim (way_of es words q s) [
  | inl u ↦ ap (λ (st : PinState). st.token) u.state
  | inr c ↦ ap (λ (st : PinState). st.token) c.state ∙ counted_token (with_pair words s)
]

told_is : (es : List (Asked × List ℕ)) (words : PinWords) (q : Query) (s : PinState) (token : PinToken) (sealed : List ℕ)
    → (verdict es words q s).outcome ≡ Ok (token_told token sealed) → token.bytes ≡ words.token
told_is es words q s token sealed e = elim (way_of es words q s) [ inl u ↦ absurd (u.mild.so _ e) | inr c ↦ (c.comes.so _ e).1 ]

one : (call : Call) (s : PinState) (t : PinToken) → (next call s).token ≡ Some t → IsOf s.token t ⊎ IsHanded call t
one (handle es words q) s t e =
    subst (λ (o : Option PinToken). IsOf o t ⊎ (t.bytes ≡ words.token)) (state_token es words q s)
    (after_one words t (verdict es words q s).state (verdict es words q s).outcome (told_is es words q s) e)
one (begin words) s t e = inl (of_itself s.token t e)
one (leave es words q) s t e = inl (of_itself s.token t (sym (state_token es words q s) ∙ e))
one (verify es c) s t e = inl (grant_of (granted es c s.token) c.rp_id s t e) where
  grant_of : (r : Result (Unit {0}) Ending) (rp_id : List ℕ) (s : PinState) (t : PinToken) → (after_grant r rp_id s).token ≡ Some t → IsOf s.token t
  grant_of (Ok u) rp_id s t e = of_changed (bound rp_id) (λ u. refl) s.token t e
  grant_of (Err f) rp_id s t e = of_itself s.token t e
one spend s t e = inl (of_changed without_permissions (λ u. refl) s.token t e)
one end_token s t e = absurd cc
one give_up s t e = inl (of_itself s.token t e)
one power_up s t e = absurd cc
one reset s t e = absurd cc

-- the token that it is
that : (o : Option PinToken) (t : PinToken) → IsOf o t → (u : PinToken) × (o ≡ Some u) × (t.bytes ≡ u.bytes)
that None t h = absurd h
that (Some u) t h = (u, refl, h)

of_same : (o : Option PinToken) (u t : PinToken) → t.bytes ≡ u.bytes → IsOf o u → IsOf o t
of_same None u t e h = absurd h
of_same (Some x) u t e h = e ∙ h

handed_same : (call : Call) (u t : PinToken) → t.bytes ≡ u.bytes → IsHanded call u → IsHanded call t
handed_same (handle es words q) u t e h = e ∙ h
handed_same (begin words) u t e h = absurd h
handed_same (leave es words q) u t e h = absurd h
handed_same (verify es c) u t e h = absurd h
handed_same spend u t e h = absurd h
handed_same end_token u t e h = absurd h
handed_same give_up u t e h = absurd h
handed_same power_up u t e h = absurd h
handed_same reset u t e h = absurd h

pub never_again : (calls : List Call) (s : PinState) (t : PinToken) → (nexts calls s).token ≡ Some t → IsOf s.token t ⊎ IsAmong calls t
never_again [] s t e = inl (of_itself s.token t e)
never_again (call ∷ calls) s t e = elim (never_again calls (next call s) t e) [
  | inr h ↦ inr (inr h)
  | inl h ↦ (let u = that (next call s).token t h in elim (one call s u.0 u.1) [
    | inl k ↦ inl (of_same s.token u.0 t u.2 k)
    | inr k ↦ inr (inl (handed_same call u.0 t u.2 k))
  ])
]
