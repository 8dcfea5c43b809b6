-- What the loop of `unpadded` keeps, and that it ends.
use Rattle.std.proofs.Common.{◌≡◌, length}
use Rattle.key_pin.specs.Pins.{unpadded}
use Rattle.key_pin.proofs.pins.unpadded.Given as goal

abbrev pub invariant-loop-last : goal.invariant-loop-last
invariant-loop-last l = unpadded l.pin ≡ unpadded l.padded

abbrev pub decreases-loop-last : goal.decreases-loop-last
decreases-loop-last l = length l.pin
