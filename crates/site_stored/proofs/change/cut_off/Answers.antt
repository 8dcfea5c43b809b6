-- What is owed of `cut_off`.
use Rattle.site_stored.specs.Causes.{RefusesEnding}
use Rattle.site_stored.specs.State.{ended_user_tree}
use Rattle.site_stored.proofs.Causes.{if_caused}
use Rattle.site_stored.proofs.change.cut_off.Goals as goal

pub returns-clause-cause : goal.returns-clause-cause
returns-clause-cause g c = λ clean.
    if_caused (g.S.Store.view c.args.held.now.store) (g.S.Store.faults c.args.held.now.store) (g.S.Store.faults c.end.new.self.store) _
    (RefusesEnding ended_user_tree (g.S.Store.view c.args.held.now.store)) ⊥ ⊥ c.end.result (λ no. (_, _, no)) (λ no. no) (c.end.ensures.cause clean)
