-- What the loop of `copies` keeps.
use Rattle.std.proofs.Common.{◌≡◌, map, take}
use Rattle.passkey_c.specs.Parts.{lent}
use Rattle.passkey_c.proofs.input.copies.Given as goal

abbrev pub invariant-loop-part : goal.invariant-loop-part
invariant-loop-part l = map (λ copy. copy.items) l.copies.items ≡ lent (take l.part-index l.parts)
