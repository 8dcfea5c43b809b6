-- What the loop of `certificates_in` keeps.
use Rattle.std.proofs.Common.{◌≡◌, ◌≤◌, length, map, take}
use Rattle.ccbor.specs.Item.{array}
use Rattle.ccbor.specs.Viewing.{shown, shown_items}
use Rattle.attestation.specs.Walks.{behind}
use Rattle.attestation.proofs.x5c.certificates_in.Given as goal

abbrev pub invariant-loop-item : goal.invariant-loop-item
invariant-loop-item l = record {
  limit : l.count ≤ 8;
  size : length l.list ≡ 8;
  is : shown l.value ≡ array (behind (map (λ b. b.now) (take l.count l.list)) (shown_items l.items));
}

abbrev pub decreases-loop-item : goal.decreases-loop-item
decreases-loop-item l = l.items.0
