-- What the loop of `bytes_of` keeps.
use Rattle.std.proofs.Common.{◌≡◌, Some, map, take}
use Rattle.base64.specs.GeneralPurpose.{encode_of}
use Rattle.base64.specs.Engines.{url_safe_no_pad}
use Rattle.serde_json.specs.Find.{as_str}
use Rattle.serde_json.specs.View.{view}
use Rattle.json_lines.proofs.members.bytes_of.Given as goal

abbrev pub invariant-loop-item : goal.invariant-loop-item
invariant-loop-item l =
    map (λ bytes. Some (encode_of url_safe_no_pad bytes.items)) l.list.items ≡ map (λ value. as_str (view value)) (take l.item-index l.items)
