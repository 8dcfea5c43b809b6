-- What the loop of `expected_origins` keeps.
use Rattle.std.proofs.Common.{◌≡◌, take}
use Rattle.verification.specs.Views.{texts_of}
use Rattle.verification.proofs.party.expected_origins.Given as goal

abbrev pub invariant-loop-origin : goal.invariant-loop-origin
invariant-loop-origin l = l.expected.items ≡ texts_of (take l.origin-index l.origins)
