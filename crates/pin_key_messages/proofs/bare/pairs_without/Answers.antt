-- What is owed of `pairs_without`.
use Rattle.std.proofs.Common.{◌∙◌, ap, sym}
use Rattle.ccbor.specs.Viewing.{shown, shown_pairs}
use Rattle.ctap_encoding.specs.Building.{pair_list_view}
use Rattle.pin_client_messages.proofs.Building.{all_pairs, onto}
use Rattle.pin_key_messages.specs.Protected.{without}
use Rattle.pin_key_messages.proofs.Pairs.{first_is, none_is, taken}
use Rattle.pin_key_messages.proofs.bare.pairs_without.Goals as goal

pub loop-key-preserved : goal.loop-key-preserved
loop-key-preserved c =
    let f = c.in-Some in
    taken c.args.param c.args.protocol (pair_list_view c.loop-key.pairs.items) (pair_list_view c.push_kept.new.pairs.items) (shown f.key) (shown f.held)
    (shown_pairs c.loop-key.rest) (shown_pairs f.after) (without c.args.param c.args.protocol (shown_pairs c.args.all))
    (first_is (shown_pairs c.loop-key.rest) (shown f.key) (shown f.held) (shown_pairs f.after) f.ensures.parts) c.in_ok-push_kept.ensures c.loop-key.invariant

pub returns : goal.returns
returns c =
    all_pairs (pair_list_view c.loop-key.pairs.items)
    ∙ ap (onto (pair_list_view c.loop-key.pairs.items)) (sym (ap (without c.args.param c.args.protocol) (none_is (shown_pairs c.loop-key.rest) c.in_default.ensures.parts)))
    ∙ c.loop-key.invariant
