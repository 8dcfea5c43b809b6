-- The table that a `Holds` of the code stands for.
use Rattle.std.specs.Prelude.{List, [], ◌∷◌, Bool, map}
use Rattle.ccbor.specs.declared.value.MapKey.{MapKey}
use Rattle.ccbor.specs.Access.{key_item}
use Rattle.ctap_encoding.specs.Table as of
use Rattle.ctap_encoding.specs.Table.{Holds, Members}
use Rattle.ctap_encoding.specs.declared.table.Holds.{Holds as Code, fold-Holds}
use Rattle.ctap_encoding.specs.declared.table.Holds.TheOpen.{Holds-F}

abbrev pub members_of : List (MapKey × Bool × Holds) → Members
members_of [] = of.no_more
members_of (m ∷ ms) = of.listed (key_item m.0) m.1 m.2 (members_of ms)

abbrev pub holds_step : Holds-F Holds → Holds
holds_step Holds-F.Number = of.a_number
holds_step Holds-F.Bytes = of.some_bytes
holds_step Holds-F.Text = of.a_text
holds_step Holds-F.Truth = of.a_truth
holds_step Holds-F.AnyMap = of.any_map
holds_step (Holds-F.ThatText t) = of.that_text t.now
holds_step (Holds-F.Unsigned low) = of.unsigned low
holds_step Holds-F.Truths = of.truths
holds_step (Holds-F.List k) = of.list_of k.now
holds_step (Holds-F.Record ms) = of.record_of (members_of ms.now)
holds_step (Holds-F.NotEmpty fault k) = of.not_empty fault k.now
holds_step (Holds-F.Sized low high fault k) = of.sized low high fault k.now

abbrev pub holds_view : Code → Holds
holds_view = fold-Holds Holds holds_step

abbrev pub members_view : List (MapKey × Bool × Code) → Members
members_view ms = members_of (map (λ m. (m.0, m.1, holds_view m.2)) ms)
