-- What the loop of `are_parts` keeps.
use Rattle.std.proofs.Common.{◌≡◌, ◌↔◌, drop}
use Rattle.attestation.specs.Walks.{parts_bytes}
use Rattle.attestation.proofs.signature.are_parts.Given as goal

abbrev pub invariant-loop-part : goal.invariant-loop-part
invariant-loop-part l = (l.fn.bytes ≡ parts_bytes l.parts) ↔ (l.rest ≡ parts_bytes (drop l.part-index l.parts))
