-- What the loop of `joined` keeps.
use Rattle.std.proofs.Common.{◌≡◌, map, take}
use Rattle.std.specs.Prelude.{string_bytes}
use Rattle.site_acts.specs.Joined.{joined}
use Rattle.site_acts.proofs.joining.joined.Given as goal

abbrev pub invariant-loop-transport : goal.invariant-loop-transport
invariant-loop-transport l = l.text.items ≡ joined (map string_bytes (take l.transport-index l.transports))
