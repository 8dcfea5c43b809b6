use Rattle.std.proofs.Common.{◌≡◌, ◌≢◌, ◌<◌, ℕ, slice_index_or, List}
use Rattle.site_seal.specs.Seal.{id_hash}
use Rattle.site_seal.proofs.session.OpenedSignIn.allows.Given as goal

abbrev pub invariant-loop-allowed : goal.invariant-loop-allowed
invariant-loop-allowed l = record {
  wanted : l.wanted ≡ id_hash l.key l.self.challenge l.id;
  before : (k : ℕ) (d : List ℕ) → k < l.allowed-index → slice_index_or l.self.allow.items k d ≢ l.wanted;
}
