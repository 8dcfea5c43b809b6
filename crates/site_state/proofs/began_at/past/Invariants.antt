-- What the loop of `past` keeps.
use Rattle.std.proofs.Common.{◌≡◌, ◌++◌, filter}
use Rattle.std.specs.Ordering.{nat_cmp}
use Rattle.std.specs.BTreeMap.{get, keys}
use Rattle.site_state.specs.Private.{is_older}
use Rattle.site_state.proofs.began_at.past.Given as goal

abbrev pub invariant-loop-number : goal.invariant-loop-number
invariant-loop-number l =
    l.numbers.items ++ filter (λ n. is_older l.before (get nat_cmp l.by_number n)) l.number-iterator
    ≡ filter (λ n. is_older l.before (get nat_cmp l.by_number n)) (keys l.by_number)
