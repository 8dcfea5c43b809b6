-- What the loop of `ListSchemeVerifier::verify` keeps.
use Rattle.std.proofs.Common.{◌≢◌, ◌++◌, ◌<◌, ℕ, slice_index_or}
use Rattle.cose.specs.Keys.{lent_key_view}
use Rattle.cose.specs.Listed.{entry_view}
use Rattle.cose.specs.declared.list.Entry.{Entry}
use Rattle.cose.proofs.list.ListSchemeVerifier.verify.Given as goal

abbrev pub invariant-loop-entry : goal.invariant-loop-entry
invariant-loop-entry l = (k : ℕ) (d : Entry) → k < l.entry-index
    → entry_view (slice_index_or l.entry-items k d) ≢ (lent_key_view l.key, l.first ++ l.second, l.sig)
