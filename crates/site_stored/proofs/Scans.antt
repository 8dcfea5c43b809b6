-- Reading a tree from its first row on.
use Rattle.std.proofs.Common.{◌≡◌, List, [], ◌∷◌, refl}
use Rattle.sqlite_value.specs.Order.{Row}
use Rattle.sqlite_value.specs.declared.keys.Order.{Order}
use Rattle.sqlite_trees.specs.Tree.{from_key}

-- each row is at or after a key without columns
pub from_none : (o : Order) (rows : List Row) → from_key o [] rows ≡ rows
from_none o [] = refl
from_none o (r ∷ rows) = refl
