-- What the loop of `tell_hex` keeps.
use Rattle.std.proofs.Common.{◌≡◌, ◌++◌, take}
use Rattle.hex.specs.Hex.{encode_lower}
use Rattle.key_program.proofs.telling.tell_hex.Given as goal

abbrev pub invariant-loop-byte : goal.invariant-loop-byte
invariant-loop-byte l = l.told.items ≡ l.fn.told.items ++ encode_lower (take l.byte-index l.bytes)
