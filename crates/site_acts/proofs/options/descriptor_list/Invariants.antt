-- What the loop of `descriptor_list` keeps.
use Rattle.std.proofs.Common.{◌≡◌, map, take}
use Rattle.serde_json.specs.View.{view}
use Rattle.site_acts.specs.Options.{descriptor}
use Rattle.site_acts.proofs.options.descriptor_list.Given as goal

abbrev pub invariant-loop-known : goal.invariant-loop-known
invariant-loop-known l = map view l.told.items ≡ map descriptor (take l.known-index l.list)
