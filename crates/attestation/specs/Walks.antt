-- What private functions are proved against; no public clause cites it.
use Rattle.std.specs.Prelude.{ℕ, List, [], ◌∷◌, ◌++◌}
use Rattle.std.specs.Borrow.{Bor}
use Rattle.ccbor.specs.Item as of
use Rattle.ccbor.specs.Item.{Items, item}

-- byte strings, and the items after them
abbrev pub behind : List (List ℕ) → Items → Items
behind [] xs = xs
behind (c ∷ cs) xs = item (of.bytes c) (behind cs xs)

-- parts, one after the other
abbrev pub parts_bytes : List (Bor (List ℕ)) → List ℕ
parts_bytes [] = []
parts_bytes (p ∷ ps) = p.now ++ parts_bytes ps
