-- The rows of steps, from the one that fails.
use Rattle.std.proofs.Common.{◌≡◌, ◌↔◌, ◌<◌, ◌++◌, ◌∷◌, [], ◌⊎◌, inl, inr, List, Bool, true, false, Option, Some, None, refl, sym, ◌∙◌, ap, subst, append_assoc, arith}
use Rattle.std.specs.Prelude.{IsTrue, Contains, IfOk, Result, Ok, Err}
use Rattle.std.proofs.Common.{Vec}
use Rattle.std.proofs.lemmas.Bool.{true≢false}
use Rattle.std.proofs.lemmas.List.{map-append}
use Rattle.std.proofs.lemmas.List.Elements.{Contains-append_right, Contains-push_cases}
use Rattle.refusal_order.specs.Lines.{Each, FirstStop, here, later}
use Rattle.refusal_order.proofs.Laws.{cases, stops_at}
use Rattle.explanation.specs.Told.{AreTold, row, told}
use Rattle.explanation.specs.Private.{FailAs, FailAt, IsVerdict, reached_after, state_as}
use Rattle.explanation.specs.declared.told.StepState.TheVariants.{Passed, Failed, NotReached}
use Rattle.explanation.specs.declared.told.ToldStep.{ToldStep}

-- the rows of the steps so far, where the next is reached, and where it is not
abbrev pub SoFar : {S : Type 0} → Bool → Option S → List S → List (ToldStep S) → Type 0
SoFar {S} true failed done rows = (rows ≡ told Passed done) × ((step : S) → failed ≡ Some step → Contains done step → ⊥)
SoFar {S} false failed done rows = (step : S) × (failed ≡ Some step) × FailAt step done rows

pub pushed : {S : Type 0} (reached is_failed : Bool) (failed : Option S) (step : S) (done : List S) (rows : List (ToldStep S)) → SoFar reached failed done rows
    → (IsTrue is_failed ↔ (failed ≡ Some step))
    → SoFar (reached_after reached is_failed) failed (done ++ step ∷ []) (rows ++ row (state_as reached is_failed) step ∷ [])
pushed {S} false is_failed failed step done rows (other, is, (before, after, steps_are, rows_are, none)) decides = (
  other,
  is,
  (
    before,
    after ++ step ∷ [],
    ap (λ (xs : List S). xs ++ step ∷ []) steps_are ∙ append_assoc before (other ∷ after) (step ∷ []),
    ap (λ (xs : List (ToldStep S)). xs ++ row NotReached step ∷ []) rows_are
        ∙ append_assoc (told Passed before) (row Failed other ∷ told NotReached after) (row NotReached step ∷ [])
        ∙ ap (λ (xs : List (ToldStep S)). told Passed before ++ (row Failed other ∷ xs)) (sym (map-append (row NotReached) after (step ∷ []))),
    none,
  ),
)
pushed {S} true true failed step done rows (rows_are, none) decides = (
  step,
  decides.0 refl,
  (done, [], refl, ap (λ (xs : List (ToldStep S)). xs ++ row Failed step ∷ []) rows_are, none step (decides.0 refl)),
)
pushed {S} true false failed step done rows (rows_are, none) decides = (
  ap (λ (xs : List (ToldStep S)). xs ++ row Passed step ∷ []) rows_are ∙ sym (map-append (row Passed) done (step ∷ [])),
  λ other is there. elim (Contains-push_cases done step other there) [
    | inl h ↦ none other is h
    | inr same ↦ absurd (true≢false (sym (decides.1 (is ∙ ap Some (sym same)))))
  ],
)

pub ended : {S : Type 0} (reached : Bool) (failed : Option S) (steps : List S) (rows : List (ToldStep S)) → SoFar reached failed steps rows
    → FailAs failed steps rows
ended true None steps rows so_far = so_far.0
ended true (Some step) steps rows so_far = inl (so_far.1 step refl, so_far.0)
ended false None steps rows (step, is, at) = absurd cc
ended {S} false (Some step) steps rows (other, is, at) =
    let same : other ≡ step = cc in
    inr (subst (λ (s : S). FailAt s steps rows) same at)

-- the step that fails is one of them
there : {S : Type 0} {Passes : S → Type 0} {Stops : S → Type 0} {steps : List S} {step : S} → FirstStop Passes Stops steps step → Contains steps step
there (here step more stops) = (0, omega arith, refl)
there (later x more step passed first) = Contains-append_right (x ∷ []) more step (there first)

-- those before it are passed
parted : {S : Type 0} {Passes : S → Type 0} {Stops : S → Type 0} (before after : List S) (step : S) → FirstStop Passes Stops (before ++ step ∷ after) step
    → (Contains before step → ⊥) → Each Passes before
parted [] after step first none = tt
parted (x ∷ before) after step first none = elim (cases (x ∷ (before ++ step ∷ after)) step first) [
  | inl p ↦ absurd (none (0, omega arith, sym p.0))
  | inr p ↦ (p.0, parted before after step p.1 (λ c. none (Contains-append_right (x ∷ []) before step c)))
]

pub are_told : {S : Type 0} (Passes : S → Type 0) (steps : List S) (failed : Option S) (rows : List (ToldStep S)) → IsVerdict Passes steps failed
    → FailAs failed steps rows → AreTold Passes steps rows
are_told Passes steps None rows passed are = inl (passed, are)
are_told {S} Passes steps (Some step) rows first are = elim are [
  | inl p ↦ absurd (p.0 (there first))
  | inr p ↦ inr (
    p.0,
    step,
    p.1,
    p.2,
    p.3,
    parted p.0 p.1 step (subst (λ (xs : List S). FirstStop Passes (λ s. Passes s → ⊥) xs step) p.2 first) p.4,
    stops_at first,
  )
]

pub told_result : {S E Z : Type 0} (Passes : S → Type 0) (steps : List S) (failed : Option S) (result : Result (Vec (ToldStep S) Z) E)
    → IsVerdict Passes steps failed → IfOk result (λ rows. FailAs failed steps rows.items) → IfOk result (λ rows. AreTold Passes steps rows.items)
told_result Passes steps failed (Ok rows) verdict are = are_told Passes steps failed rows.items verdict are
told_result Passes steps failed (Err e) verdict are = tt
