-- What is reported of the steps of sections 7.1 and 7.2 of WebAuthn.
use Rattle.std.specs.Prelude.{◌≡◌, ◌++◌, ◌∷◌, ◌⊎◌, List, Bool, true, map}
use Rattle.refusal_order.specs.Lines.{Each}
use Rattle.cose.specs.Schemes.{Validity}
use Rattle.explanation.specs.declared.told.StepState.{StepState}
use Rattle.explanation.specs.declared.told.StepState.TheVariants.{Passed, Failed, NotReached}
use Rattle.explanation.specs.declared.told.ToldStep.{ToldStep}

-- the one signature of a response is valid, or it is not
abbrev pub signature_is : Bool → Validity
signature_is valid key message signature = valid ≡ true

abbrev pub row : {S : Type 0} → StepState → S → ToldStep S
row state step = record { step = step; state = state }

-- each step, reported with this state
abbrev pub told : {S : Type 0} → StepState → List S → List (ToldStep S)
told state steps = map (row state) steps

-- each step is passed, and reported so
abbrev pub AllPass : {S : Type 0} → (S → Type 0) → List S → List (ToldStep S) → Type 0
AllPass Passes steps rows = Each Passes steps × (rows ≡ told Passed steps)

-- one step is not passed, and is reported as failed; each before it is passed, and reported so; those after it are reported
-- as not reached
abbrev pub OneFails : {S : Type 0} → (S → Type 0) → List S → List (ToldStep S) → Type 0
OneFails {S} Passes steps rows =
    (before : List S) × (step : S) × (after : List S) × (steps ≡ before ++ step ∷ after)
    × (rows ≡ told Passed before ++ (row Failed step ∷ told NotReached after)) × Each Passes before × (Passes step → ⊥)

abbrev pub AreTold : {S : Type 0} → (S → Type 0) → List S → List (ToldStep S) → Type 0
AreTold Passes steps rows = AllPass Passes steps rows ⊎ OneFails Passes steps rows
