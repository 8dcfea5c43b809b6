-- What the loop of `packet_values` keeps.
use Rattle.std.proofs.Common.{◌≡◌, map, take}
use Rattle.json_lines.specs.Written.{base64url}
use Rattle.serde_json.specs.View.{view}
use Rattle.client_lines.proofs.writing.packet_values.Given as goal

abbrev pub invariant-loop-packet : goal.invariant-loop-packet
invariant-loop-packet l = map view l.list.items ≡ map (λ p. base64url p.0) (take l.packet-index l.packets)
