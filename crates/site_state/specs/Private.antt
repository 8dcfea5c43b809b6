-- What private functions are proved against; no public clause cites it.
use Rattle.std.specs.Prelude.{ℕ, List, [], ◌∷◌, Bool, Option, Some, None, false, nat_lt}
use Rattle.std.specs.FinMap as finite
use Rattle.std.specs.List.{list_any}
use Rattle.std.specs.Ordering.{eq_by_cmp, nat_cmp}

-- whether a number stands in a list; whether there is a moment, and it is before this one
abbrev pub is_in : ℕ → List ℕ → Bool
is_in n numbers = list_any (eq_by_cmp nat_cmp n) numbers

abbrev pub is_older : ℕ → Option ℕ → Bool
is_older before None = false
is_older before (Some moment) = nat_lt moment before

-- these numbers are out of a map, one after the other
abbrev pub removed : {X : Type 0} → List ℕ → finite.FinMap nat_cmp X → finite.FinMap nat_cmp X
removed [] m = m
removed (n ∷ ns) m = removed ns (finite.remove m n)
