-- Whence a token in use comes.
use Rattle.std.proofs.Common.{◌≡◌, ◌⊎◌, ℕ, List, [], ◌∷◌, ◌++◌, Option, Some, None, Result, Ok, Err, refl, sym, ap, subst, ◌∙◌, inl, inr}
use Rattle.std.specs.Prelude.{option_map}
use Rattle.pin_protocols.specs.Asks.{Asked}
use Rattle.key_pin.specs.declared.words.PinWords.{PinWords}
use Rattle.key_pin.specs.Calls.{Call, handle, begin, leave, verify, spend, end_token, give_up, power_up, reset, next, nexts}
use Rattle.key_pin.specs.Given.{Ends, IsGivenIn, IsRenewal, IsStill, IsVouchedFor, NoneEnds}
use Rattle.key_pin.specs.Grants.{Claim, granted, after_grant, bound}
use Rattle.key_pin.specs.Host.{Ending, asks, refused}
use Rattle.key_pin.specs.Outcomes.{Outcome, retries_told, key_told, pin_set, pin_refused, token_told, mismatch, after}
use Rattle.key_pin.specs.Query.{Query}
use Rattle.key_pin.specs.State.{PinState, PinToken, without_permissions}
use Rattle.key_pin.specs.Steps.{verdict}
use Rattle.key_pin.proofs.Brought.{comes}
use Rattle.key_pin.proofs.Granting.{granting}
use Rattle.key_pin.proofs.InUse.{state_token}

still_same : (t : PinToken) → IsStill t t
still_same t = record { bytes = refl; protocol = refl; permissions = inl refl; rp_id = inl refl }

still_on : (a b c : PinToken) → IsStill a b → IsStill b c → IsStill a c
still_on a b c x y = record {
  bytes = y.bytes ∙ x.bytes;
  protocol = y.protocol ∙ x.protocol;
  permissions = elim y.permissions [
    | inr none ↦ inr none
    | inl same ↦ elim x.permissions [ inl had ↦ inl (same ∙ had) | inr none ↦ inr (same ∙ none) ]
  ];
  rp_id = elim x.rp_id [
    | inr none ↦ inr none
    | inl had ↦ elim y.rp_id [ inl same ↦ inl (same ∙ had) | inr none ↦ inr (sym had ∙ none) ]
  ];
}

-- ---- one call

-- the token was in use before, and the call does not end it
pub record WasInUse (call : Call) (s : PinState) (t : PinToken) : Type 0 where
  pub token : PinToken
  pub there : s.token ≡ Some token
  pub still : IsStill token t
  pub leaves : Ends call s → ⊥

abbrev GivenBy : Call → PinState → PinToken → Type 0
GivenBy (handle es words q) s t = (sealed : List ℕ) × ((verdict es words q s).outcome ≡ Ok (token_told t sealed))
GivenBy _ s t = ⊥

was_same : (call : Call) (s : PinState) (t : PinToken) → (Ends call s → ⊥) → s.token ≡ Some t → WasInUse call s t
was_same call s t leaves there = record { token = t; there = there; still = still_same t; leaves = leaves }

was_changed : (call : Call) (s : PinState) (t : PinToken) (f : PinToken → PinToken) (o : Option PinToken) → (Ends call s → ⊥) → s.token ≡ o
    → ((u : PinToken) → s.token ≡ Some u → IsStill u (f u)) → option_map f o ≡ Some t → WasInUse call s t
was_changed call s t f None leaves there changes e = absurd cc
was_changed call s t f (Some u) leaves there changes e =
    let is : f u ≡ t = cc in
    record { token = u; there = there; still = subst (λ (x : PinToken). IsStill u x) is (changes u there); leaves = leaves }

module _ (es : List (Asked × List ℕ)) (words : PinWords) (q : Query) (s : PinState) (t : PinToken) where
  abbrev st : PinState
  st = (verdict es words q s).state

  as_it_was : (o : Result Outcome Ending) → (verdict es words q s).outcome ≡ o → (IsRenewal o → ⊥) → st.token ≡ Some t → WasInUse (handle es words q) s t
  as_it_was o is none e =
      was_same (handle es words q) s t (λ ends. none (subst (λ (r : Result Outcome Ending). IsRenewal r) is ends)) (sym (state_token es words q s) ∙ e)

  handled : (o : Result Outcome Ending) → (verdict es words q s).outcome ≡ o → (after o st).token ≡ Some t
      → WasInUse (handle es words q) s t ⊎ GivenBy (handle es words q) s t
  handled (Ok retries_told) is e = inl (as_it_was (Ok retries_told) is (λ h. h) e)
  handled (Ok key_told) is e = inl (as_it_was (Ok key_told) is (λ h. h) e)
  handled (Ok (pin_set hash)) is e = absurd cc
  handled (Ok (pin_refused status)) is e = inl (as_it_was (Ok (pin_refused status)) is (λ h. h) e)
  handled (Ok (token_told token sealed)) is e =
      let same : token ≡ t = cc in inr (sealed, is ∙ ap (λ (u : PinToken). Ok (token_told u sealed)) same)
  handled (Ok mismatch) is e = inl (as_it_was (Ok mismatch) is (λ h. h) e)
  handled (Err (asks a)) is e = inl (as_it_was (Err (asks a)) is (λ h. h) e)
  handled (Err (refused status)) is e = inl (as_it_was (Err (refused status)) is (λ h. h) e)

granted_on : (es : List (Asked × List ℕ)) (c : Claim) (s : PinState) (t : PinToken) (r : Result (Unit {0}) Ending) → granted es c s.token ≡ r
    → (after_grant r c.rp_id s).token ≡ Some t → WasInUse (verify es c) s t
granted_on es c s t (Ok u) is e =
    let g = granting es c s.token is in
    was_changed (verify es c) s t (bound c.rp_id) s.token (λ h. h) refl (λ v there. (
    let same : g.by ≡ v = (let both : Some g.by ≡ Some v = sym g.in_use ∙ there in cc) in
    record {
      bytes = refl;
      protocol = refl;
      permissions = inl refl;
      rp_id = elim g.rp_id [
        | inl none ↦ inr (ap (λ (x : PinToken). x.rp_id) (sym same) ∙ none)
        | inr own ↦ inl (sym own ∙ ap (λ (x : PinToken). x.rp_id) same)
      ];
    })) e
granted_on es c s t (Err f) is e = was_same (verify es c) s t (λ h. h) e

one : (call : Call) (s : PinState) (t : PinToken) → (next call s).token ≡ Some t → WasInUse call s t ⊎ GivenBy call s t
one (handle es words q) s t e = handled es words q s t (verdict es words q s).outcome refl e
one (begin words) s t e = inl (was_same (begin words) s t (λ h. h) e)
one (leave es words q) s t e = inl (was_same (leave es words q) s t (λ h. h) (sym (state_token es words q s) ∙ e))
one (verify es c) s t e = inl (granted_on es c s t (granted es c s.token) refl e)
one spend s t e =
    inl (was_changed spend s t without_permissions s.token (λ h. h) refl
    (λ u there. record { bytes = refl; protocol = refl; permissions = inr refl; rp_id = inl refl }) e)
one end_token s t e = absurd cc
one give_up s t e = inl (was_same give_up s t (λ h. h) e)
one power_up s t e = absurd cc
one reset s t e = absurd cc

-- ---- calls, one after another

given_first : (call : Call) (calls : List Call) (s : PinState) (u t : PinToken) → GivenBy call s u → IsStill u t → NoneEnds calls (next call s)
    → IsGivenIn (call ∷ calls) s t
given_first (handle es words q) calls s u t by still none = record {
  before = [];
  answers = es;
  words = words;
  query = q;
  later = calls;
  here = refl;
  token = u;
  sealed = by.0;
  given = (comes es words q s).so (token_told u by.0) by.1;
  still = still;
  since = none;
}
given_first (begin words) calls s u t by still none = absurd by
given_first (leave es words q) calls s u t by still none = absurd by
given_first (verify es c) calls s u t by still none = absurd by
given_first spend calls s u t by still none = absurd by
given_first end_token calls s u t by still none = absurd by
given_first give_up calls s u t by still none = absurd by
given_first power_up calls s u t by still none = absurd by
given_first reset calls s u t by still none = absurd by

-- it was given by one of them, or was in use before them all
pub record WasInUseBefore (calls : List Call) (s : PinState) (t : PinToken) : Type 0 where
  pub token : PinToken
  pub there : s.token ≡ Some token
  pub still : IsStill token t
  pub none : NoneEnds calls s

held : (calls : List Call) (s : PinState) (t : PinToken) → (nexts calls s).token ≡ Some t → IsGivenIn calls s t ⊎ WasInUseBefore calls s t
held [] s t e = inr (record { token = t; there = e; still = still_same t; none = tt })
held (call ∷ calls) s t e = elim (held calls (next call s) t e) [
  | inl g ↦ inl (record {
    before = call ∷ g.before;
    answers = g.answers;
    words = g.words;
    query = g.query;
    later = g.later;
    here = ap (λ (cs : List Call). call ∷ cs) g.here;
    token = g.token;
    sealed = g.sealed;
    given = g.given;
    still = g.still;
    since = g.since;
  })
  | inr k ↦ elim (one call s k.token k.there) [
    | inl w ↦ inr (record { token = w.token; there = w.there; still = still_on w.token k.token t w.still k.still; none = (w.leaves, k.none) })
    | inr by ↦ inl (given_first call calls s k.token t by k.still k.none)
  ]
]

pub given_in : (calls : List Call) (s : PinState) (t : PinToken) → s.token ≡ None → (nexts calls s).token ≡ Some t → IsGivenIn calls s t
given_in calls s t none e = elim (held calls s t e) [
  | inl g ↦ g
  | inr k ↦ (let bad : None ≡ Some k.token = sym none ∙ k.there in absurd cc)
]

pub vouched : (calls : List Call) (s : PinState) (es : List (Asked × List ℕ)) (c : Claim) → s.token ≡ None → granted es c (nexts calls s).token ≡ Ok tt
    → IsVouchedFor calls s es c
vouched calls s es c none e =
    let g = granting es c (nexts calls s).token e in
    record {
      token = g.by;
      in_use = g.in_use;
      given = given_in calls s g.by none g.in_use;
      protocol = g.protocol;
      authentic = g.authentic;
      permission = g.permission;
      rp_id = g.rp_id;
    }
