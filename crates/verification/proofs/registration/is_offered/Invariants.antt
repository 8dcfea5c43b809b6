-- What the loop of `is_offered` keeps.
use Rattle.std.proofs.Common.{◌≢◌, ◌<◌, ℕ, slice_index_or}
use Rattle.cose.specs.declared.key.Alg.{Alg}
use Rattle.verification.proofs.registration.is_offered.Given as goal

abbrev pub invariant-loop-offered : goal.invariant-loop-offered
invariant-loop-offered l = (k : ℕ) (d : Alg) → k < l.offered-index → slice_index_or l.algorithms k d ≢ l.alg
