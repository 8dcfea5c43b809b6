-- What is owed of `options_value`.
use Rattle.std.proofs.Common.{◌∙◌, ap, codes}
use Rattle.ccbor.specs.Item.{map, text}
use Rattle.ccbor.proofs.Views.{view-Map}
use Rattle.ctap_encoding.specs.Building.{pair_list_view}
use Rattle.ctap_requests.proofs.Options.{three_options}
use Rattle.ctap_requests.proofs.values.options_value.Goals as goal

pub returns : goal.returns
returns c =
    view-Map c.push_if_there-3.new.pairs
    ∙ ap map (three_options (text (codes "rk")) (text (codes "up")) (text (codes "uv")) c.args.rk c.args.up c.args.uv
    (pair_list_view c.new-pairs.result.items) (pair_list_view c.push_if_there.new.pairs.items) (pair_list_view c.push_if_there-2.new.pairs.items)
    (pair_list_view c.push_if_there-3.new.pairs.items) _ _ _
    (ap pair_list_view c.new-pairs.ensures.items) c.truth_value.ensures c.in_ok-push_if_there.ensures c.truth_value-2.ensures c.in_ok-push_if_there-2.ensures
    c.truth_value-3.ensures c.in_ok-push_if_there-3.ensures)
