-- What is owed of `are_in_order`.
use Rattle.std.proofs.Common.{refl, sym, ◌∙◌, rules}
use Rattle.site_seal.proofs.Algorithms.{same_algorithms}
use Rattle.site_seal.proofs.sealing.are_in_order.Goals as goal

pub returns : goal.returns
returns c =
    let offered = c.args.offered.now in
    let listed = c.algorithms_in_order.ensures.same in
    let tells = same_algorithms _ offered c.algorithms_in_order.result.now c.eq.result c.eq.ensures refl refl refl refl refl refl refl refl refl in
    (λ yes. tells.0 (search rules) ∙ listed, λ same. let is = tells.1 (same ∙ sym listed) in search rules)
