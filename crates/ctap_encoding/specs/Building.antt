-- The pairs of a map that is made.
use Rattle.std.specs.Prelude.{List, [], ◌∷◌, Option, Some, None, map}
use Rattle.ccbor.specs.Item.{Item}
use Rattle.ccbor.specs.View.{view}
use Rattle.ccbor.specs.declared.value.Value.{Value}

abbrev pub pair_list_view : List (Value × Value) → List (Item × Item)
pair_list_view ps = map (λ p. (view p.0, view p.1)) ps

-- the pair of a member that is there
abbrev pub member_list : Item → Option Item → List (Item × Item)
member_list k None = []
member_list k (Some v) = (k, v) ∷ []
