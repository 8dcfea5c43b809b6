-- What private functions are proved against; no public clause cites it.
use Rattle.std.specs.Prelude.{◌≡◌, ◌++◌, ◌∷◌, ◌⊎◌, List, Option, Some, None, Contains, Bool, true, false}
use Rattle.refusal_order.specs.Lines.{Each, FirstFailing}
use Rattle.explanation.specs.Told.{row, told}
use Rattle.explanation.specs.declared.told.StepState.{StepState}
use Rattle.explanation.specs.declared.told.StepState.TheVariants.{Passed, Failed, NotReached}
use Rattle.explanation.specs.declared.told.ToldStep.{ToldStep}

-- each step is passed, or this is the first that is not
abbrev pub IsVerdict : {S : Type 0} → (S → Type 0) → List S → Option S → Type 0
IsVerdict Passes steps None = Each Passes steps
IsVerdict Passes steps (Some step) = FirstFailing Passes steps step

-- the rows where this step fails, which is not one of those before it
abbrev pub FailAt : {S : Type 0} → S → List S → List (ToldStep S) → Type 0
FailAt {S} step steps rows =
    (before : List S) × (after : List S) × (steps ≡ before ++ step ∷ after)
    × (rows ≡ told Passed before ++ (row Failed step ∷ told NotReached after)) × (Contains before step → ⊥)

-- the rows where none fails, or this one, if it is one of them
abbrev pub FailAs : {S : Type 0} → Option S → List S → List (ToldStep S) → Type 0
FailAs None steps rows = rows ≡ told Passed steps
FailAs (Some step) steps rows = ((Contains steps step → ⊥) × (rows ≡ told Passed steps)) ⊎ FailAt step steps rows

-- a step's state, by whether it is reached, and whether it is the one that fails
abbrev pub state_as : Bool → Bool → StepState
state_as false is_failed = NotReached
state_as true true = Failed
state_as true false = Passed

-- whether the next one is reached
abbrev pub reached_after : Bool → Bool → Bool
reached_after false is_failed = false
reached_after true true = false
reached_after true false = true
