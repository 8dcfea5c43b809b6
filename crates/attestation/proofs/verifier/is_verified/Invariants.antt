-- What the loop of `is_verified` keeps.
use Rattle.std.proofs.Common.{◌↔◌, drop}
use Rattle.attestation.specs.Asked.{asked_view, IsVerified}
use Rattle.attestation.proofs.verifier.is_verified.Given as goal

abbrev pub invariant-loop-own : goal.invariant-loop-own
invariant-loop-own l = IsVerified l.verified (asked_view l.asked) ↔ IsVerified (drop l.own-index l.verified) (asked_view l.asked)
