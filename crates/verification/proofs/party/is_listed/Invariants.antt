-- What the loop of `is_listed` keeps.
use Rattle.std.proofs.Common.{◌≢◌, ◌<◌, ℕ, List, slice_index_or}
use Rattle.verification.proofs.party.is_listed.Given as goal

abbrev pub invariant-loop-text : goal.invariant-loop-text
invariant-loop-text l = (k : ℕ) (d : List ℕ) → k < l.text-index → slice_index_or l.texts k d ≢ l.wanted
