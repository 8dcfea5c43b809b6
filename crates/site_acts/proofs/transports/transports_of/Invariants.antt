-- What the loop of `transports_of` keeps.
use Rattle.std.proofs.Common.{◌≡◌, Some, map, take}
use Rattle.std.specs.Prelude.{string_bytes}
use Rattle.serde_json.specs.Find.{as_str}
use Rattle.serde_json.specs.View.{view}
use Rattle.site_acts.proofs.transports.transports_of.Given as goal

abbrev pub invariant-loop-item : goal.invariant-loop-item
invariant-loop-item l = map (λ text. Some (string_bytes text)) l.list.items ≡ map (λ value. as_str (view value)) (take l.item-index l.items)
