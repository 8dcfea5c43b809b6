-- What the loop of `RelyingParty::has_origin` keeps.
use Rattle.std.proofs.Common.{◌≢◌, ◌<◌, ℕ, List, slice_index_or}
use Rattle.verification.proofs.party.RelyingParty.has_origin.Given as goal

abbrev pub invariant-loop-origin : goal.invariant-loop-origin
invariant-loop-origin l = (k : ℕ) (d : List ℕ) → k < l.origin-index → slice_index_or l.origin-items k d ≢ l.text
