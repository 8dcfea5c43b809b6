use Rattle.std.proofs.Common.{◌≡◌, ◌<◌, ◌≤◌, ◌+◌, ℕ, take}
use Rattle.json_lines.specs.Nesting.{place_after}
use Rattle.json_lines.proofs.nesting.nests_within.Given as goal

abbrev pub invariant-loop-byte : goal.invariant-loop-byte
invariant-loop-byte l = record {
  place : l.place ≡ place_after (take l.byte-index l.text);
  within : l.place.depth ≤ 32;
  before : (i : ℕ) → i < l.byte-index + 1 → (place_after (take i l.text)).depth ≤ 32;
}
