-- A call, from what the steps give.
use Rattle.std.proofs.Common.{◌≡◌, ◌⊎◌, ℕ, List, Result, Ok, Err, IfOk, refl, sym, ap, subst, ◌∙◌, inl, inr}
use Rattle.std.specs.Prelude.{OnOk, OnErr}
use Rattle.std.proofs.lemmas.Bool.{ne_eqb}
use Rattle.pin_protocols.specs.Asks.{Asked, ask_view}
use Rattle.key_pin.specs.declared.state.KeyPair.{KeyPair}
use Rattle.key_pin.specs.declared.words.PinWords.{PinWords}
use Rattle.key_pin.specs.declared.words.PinStep.{PinStep}
use Rattle.key_pin.specs.declared.words.PinStep.TheVariants as steps
use Rattle.key_pin.specs.declared.outcome.Outcome.{Outcome as Made}
use Rattle.key_pin.specs.declared.end.End.{End}
use Rattle.key_pin.specs.declared.end.End.TheVariants as ends
use Rattle.key_pin.specs.Host.{Ending, refused}
use Rattle.key_pin.specs.Outcomes.{Outcome, Verdict, IsStep, Unanswered, after, retries_told}
use Rattle.key_pin.specs.Pieces.{IsOutcome, Finishes, Reaches, Gives, outcome_view}
use Rattle.key_pin.specs.Query.{Query}
use Rattle.key_pin.specs.State.{PinState, pair_of, with_pair}
use Rattle.key_pin.specs.Steps.{judged, judged_by, verdict, key_agreement, set_pin, counting, change_begun, changed, pin_token_begun, token_begun, token}
use Rattle.key_pin.proofs.Laws.{asked}

reached : (v : Verdict) (old new : PinState) (made : Result Made End) (r : Result Outcome Ending) → Reaches v old made new → IsOutcome made r → (r ≡ v.outcome) × (new ≡ v.state)
reached v old new (Ok d) r h i = (i ∙ sym h.0, h.1)
reached v old new (Err ends.Memory) r h i = absurd i
reached v old new (Err (ends.Asks a)) r h i = (i ∙ sym h.0, h.1)
reached v old new (Err (ends.Refused status)) r h i = (i ∙ sym h.0, h.1)

pub finished : (v : Verdict) (old mid new : PinState) (made : Result Made End) (step : PinStep) → Reaches v old made mid → Finishes made mid step new
    → IsStep v step × (new ≡ after v.outcome v.state)
finished v old mid new made step h f =
    let k = reached v old mid made f.0 h f.1 in
    let by_outcome : IsStep (record { outcome = v.outcome; state = mid }) step =
    subst (λ (o : Result Outcome Ending). IsStep (record { outcome = o; state = mid }) step) k.0 f.2 in (
      subst (λ (st : PinState). IsStep (record { outcome = v.outcome; state = st }) step) k.1 by_outcome,
      f.3 ∙ ap (λ (o : Result Outcome Ending). after o mid) k.0 ∙ ap (after v.outcome) k.1,
    )

pub wanting : (v : Verdict) (old mid : PinState) (made : Result Made End) → Reaches v old made mid → (mid ≡ old) ⊎ (mid ≡ v.state)
wanting v old mid (Ok d) h = inr h.1
wanting v old mid (Err ends.Memory) h = h
wanting v old mid (Err (ends.Asks a)) h = inr h.1
wanting v old mid (Err (ends.Refused status)) h = inr h.1

pub handled : (es : List (Asked × List ℕ)) (words : PinWords) (q : Query) (old mid new : PinState) (pair : KeyPair) (made : Result Made End)
    → pair ≡ pair_of words old → mid ≡ with_pair words old → Reaches (judged es words pair q mid) mid made new → Reaches (verdict es words q old) (with_pair words old) made new
handled es words q old mid new pair made p m h =
    subst (λ (st : PinState). Reaches (judged es words (pair_of words old) q st) st made new) m
    (subst (λ (k : KeyPair). Reaches (judged es words k q mid) mid made new) p h)

pub unanswered : (es : List (Asked × List ℕ)) (words : PinWords) (q : Query) (s : PinState) (step : PinStep) → IsStep (verdict es words q s) step → Unanswered es step
unanswered es words q s (steps.Asks a) h = asked es words q s (ask_view a) h
unanswered es words q s (steps.Replies bytes) h = tt

-- ---- results

pub ok_more : {A E : Type 0} (P Q : A → Type 0) (r : Result A E) → ((x : A) → P x → Q x) → IfOk r P → IfOk r Q
ok_more P Q (Ok x) more h = more x h
ok_more P Q (Err e) more h = tt

pub on_ok : {A E : Type 0} (P : A → Type 0) (Q : Type 0) (r : Result A E) → ((x : A) → P x → Q) → IfOk r P → OnOk r Q
on_ok P Q (Ok x) more h = more x h
on_ok P Q (Err e) more h = tt

pub on_err : {A E : Type 0} (P Q : Type 0) (r : Result A E) → (P → Q) → OnErr r P → OnErr r Q
on_err P Q (Ok x) more h = tt
on_err P Q (Err e) more h = more h

-- ---- subcommands

module _ (es : List (Asked × List ℕ)) (words : PinWords) (pair : KeyPair) (q : Query) (s : PinState) where
  pub by_1 : (made : Result Made End) (new : PinState) → Reaches (record { outcome = Ok retries_told; state = s }) s made new → Reaches (judged_by 1 es words pair q s) s made new
  unfolding judged_by
  by_1 made new h = h

  pub by_2 : (made : Result Made End) (new : PinState) → Reaches (record { outcome = key_agreement q; state = s }) s made new → Reaches (judged_by 2 es words pair q s) s made new
  unfolding judged_by
  by_2 made new h = h

  pub by_3 : (made : Result Made End) (new : PinState) → Reaches (record { outcome = set_pin es pair q s; state = s }) s made new → Reaches (judged_by 3 es words pair q s) s made new
  unfolding judged_by
  by_3 made new h = h

  pub by_4 : (made : Result Made End) (new : PinState) → Reaches (counting (change_begun es pair q s) (changed es) s) s made new → Reaches (judged_by 4 es words pair q s) s made new
  unfolding judged_by
  by_4 made new h = h

  pub by_5 : (made : Result Made End) (new : PinState) → Reaches (counting (pin_token_begun es pair q s) (token es words) s) s made new → Reaches (judged_by 5 es words pair q s) s made new
  unfolding judged_by
  by_5 made new h = h

  pub by_9 : (made : Result Made End) (new : PinState) → Reaches (counting (token_begun es pair q s) (token es words) s) s made new → Reaches (judged_by 9 es words pair q s) s made new
  unfolding judged_by
  by_9 made new h = h

  pub by_other : (n : ℕ) (made : Result Made End) (new : PinState) → (n ≡ 1 → ⊥) → (n ≡ 2 → ⊥) → (n ≡ 3 → ⊥) → (n ≡ 4 → ⊥) → (n ≡ 5 → ⊥) → (n ≡ 9 → ⊥)
      → Reaches (record { outcome = Err (refused 0x3e); state = s }) s made new → Reaches (judged_by n es words pair q s) s made new
  unfolding judged_by
  by_other n made new a b c d e f h = rw (ne_eqb n 1 a, ne_eqb n 2 b, ne_eqb n 3 c, ne_eqb n 4 d, ne_eqb n 5 e, ne_eqb n 9 f) h

  pub at : (n m : ℕ) (made : Result Made End) (new : PinState) → n ≡ m → Reaches (judged_by m es words pair q s) s made new → Reaches (judged_by n es words pair q s) s made new
  at n m made new e h = subst (λ (k : ℕ). Reaches (judged_by k es words pair q s) s made new) (sym e) h

-- a step that keeps the state
pub kept : (r : Result Outcome Ending) (s : PinState) (made : Result Made End) → Gives outcome_view made r → Reaches (record { outcome = r; state = s }) s made s
kept r s (Ok d) h = (h, refl)
kept r s (Err ends.Memory) h = inl refl
kept r s (Err (ends.Asks a)) h = (h, refl)
kept r s (Err (ends.Refused status)) h = (h, refl)
