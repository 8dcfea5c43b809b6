-- What the loop of `is_serialised_for_any` keeps.
use Rattle.std.proofs.Common.{◌<◌, ℕ, Bool, List, slice_index_or}
use Rattle.clientdata.specs.Expected.{IsAfterChallenge}
use Rattle.clientdata.specs.Serialised.{MayCross}
use Rattle.clientdata.proofs.expected.is_serialised_for_any.Given as goal

abbrev pub invariant-loop-origin : goal.invariant-loop-origin
invariant-loop-origin l = (k : ℕ) (d : List ℕ) → k < l.origin-index
    → (cross : Bool) × MayCross l.takes_cross cross × IsAfterChallenge (slice_index_or l.origins k d) cross l.rest → ⊥
