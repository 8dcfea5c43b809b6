-- What the loop of `texts_value` keeps.
use Rattle.std.proofs.Common.{◌≡◌, take, map}
use Rattle.std.specs.Prelude.{string_bytes}
use Rattle.ccbor.specs.Item.{text}
use Rattle.ccbor.specs.View.{view}
use Rattle.ctap_replies.proofs.values.texts_value.Given as goal

abbrev pub invariant-loop-text : goal.invariant-loop-text
invariant-loop-text l = map view l.items.items ≡ map text (map string_bytes (take l.text-index l.texts))
