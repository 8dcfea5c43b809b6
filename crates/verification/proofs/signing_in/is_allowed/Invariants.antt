-- What the loop of `is_allowed` keeps.
use Rattle.std.proofs.Common.{◌≢◌, ◌<◌, ℕ, slice_index_or}
use Rattle.std.proofs.Common.{Global, Vec}
use Rattle.verification.proofs.signing_in.is_allowed.Given as goal

abbrev pub invariant-loop-allowed : goal.invariant-loop-allowed
invariant-loop-allowed l = (k : ℕ) (d : Vec ℕ Global) → k < l.allowed-index → (slice_index_or l.allow k d).items ≢ l.id
