-- What the loop of `code_points` keeps.
use Rattle.std.proofs.Common.{◌≡◌, ◌≤◌, take}
use Rattle.pin_protocols.specs.Pins.{code_points}
use Rattle.pin_protocols.proofs.pin.code_points.Given as goal

abbrev pub invariant-loop-byte : goal.invariant-loop-byte
invariant-loop-byte l = record { count : l.count ≡ code_points (take l.byte-index l.pin); small : l.count ≤ l.byte-index }
