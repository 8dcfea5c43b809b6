-- The first line of a list: of an order of refusals the one that applies, of a list of steps the one that
-- fails, of a table the one whose test is true.
use Rattle.std.specs.Prelude.{List, ◌∷◌, Bool, Option, find, option_map}
use Rattle.std.specs.List.{AllByRecursion}

-- the property holds of each line; of none
abbrev pub Each : {L : Type 0} → (L → Type 0) → List L → Type 0
Each P lines = AllByRecursion P lines

abbrev pub NoneOf : {L : Type 0} → (L → Type 0) → List L → Type 0
NoneOf P lines = Each (λ line. ¬ P line) lines

-- the first line at which one stops, each before it being passed
pub data FirstStop {L : Type 0} (Passed : L → Type 0) (Stops : L → Type 0) : List L → L → Type 0 where
  here : (line : L) (more : List L) → Stops line → FirstStop Passed Stops (line ∷ more) line
  later : (x : L) (more : List L) (line : L) → Passed x → FirstStop Passed Stops more line → FirstStop Passed Stops (x ∷ more) line

-- the first line of which the property holds: it holds of none before it
abbrev pub First : {L : Type 0} → (L → Type 0) → List L → L → Type 0
First P lines line = FirstStop (λ x. ¬ P x) P lines line

-- the first line of which it does not hold: it holds of each before it
abbrev pub FirstFailing : {L : Type 0} → (L → Type 0) → List L → L → Type 0
FirstFailing P lines line = FirstStop P (λ x. ¬ P x) lines line

-- of lines with a test, what the first gives whose test is true
abbrev pub first_true : {X : Type 0} → List (Bool × X) → Option X
first_true lines = option_map (λ line. line.1) (find (λ line. line.0) lines)
