-- What is owed of `joined`.
use Rattle.std.proofs.Common.{◌++◌, ◌∷◌, [], ◌∙◌, ap, map, sym, take}
use Rattle.std.proofs.lemmas.List.{take_more}
use Rattle.std.specs.Prelude.{string_bytes}
use Rattle.site_acts.specs.Joined.{joined, with_comma}
use Rattle.site_acts.proofs.Commas.{joined_more}
use Rattle.site_acts.proofs.joining.joined.Goals as goal

pub loop-transport-preserved : goal.loop-transport-preserved
loop-transport-preserved c =
    let ts = take c.loop-transport.transport-index c.args.transports.now in
    let item = c.transport-item.result in
    let push = take_more c.args.transports.now c.loop-transport.transport-index item c.loop-transport-test.true in
    c.in_ok-join.ensures ∙ ap (λ b. with_comma c.loop-transport.text.items ++ b) c.as_bytes.ensures.value
    ∙ ap (λ x. with_comma x ++ string_bytes item) c.loop-transport.invariant ∙ sym (joined_more string_bytes ts item)
    ∙ ap (λ x. joined (map string_bytes (ts ++ x ∷ []))) c.transport-item.is ∙ ap (λ l. joined (map string_bytes l)) (sym push)
