-- What the loop of `parameter_list_value` keeps.
use Rattle.std.proofs.Common.{◌≡◌, take, drop, map, false}
use Rattle.ccbor.specs.View.{view}
use Rattle.ctap_requests.specs.Pieces.{all_numbers}
use Rattle.ctap_requests.specs.Entities.{parameters_members, parameters_content}
use Rattle.ctap_encoding.specs.Table.{record_of}
use Rattle.ctap_encoding.specs.Content.{item_of}
use Rattle.ctap_requests.specs.RequestView.{parameters_view}
use Rattle.ctap_requests.proofs.values.parameter_list_value.Given as goal

abbrev pub invariant-loop-parameters : goal.invariant-loop-parameters
invariant-loop-parameters l = record {
  so_far : map view l.items.items ≡ map (item_of (record_of parameters_members))
      (map parameters_content (map parameters_view (take l.parameters-index l.list)));
  rest : all_numbers (map parameters_view (drop l.parameters-index l.list)) ≡ false → all_numbers (map parameters_view l.list) ≡ false;
}
