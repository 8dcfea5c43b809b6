-- What is owed of `tell`.
use Rattle.std.proofs.Common.{◌≡◌, ◌+◌, ◌∷◌, [], ◌++◌, List, take, sym, ap, ◌∙◌, subst}
use Rattle.std.proofs.lemmas.List.{take_all, take_more}
use Rattle.explanation.proofs.Rows.{SoFar, ended, pushed}
use Rattle.explanation.proofs.told.tell.Goals as goal

pub loop-step-preserved : goal.loop-step-preserved
loop-step-preserved g c =
    let steps = c.args.steps.now in
    let i = c.loop-step.step-index in
    let step = c.step-item.result in
    let taken : take (i + 1) steps ≡ take i steps ++ step ∷ [] = take_more steps i step c.loop-step-test.true ∙ ap (λ x. take i steps ++ x ∷ []) (sym c.step-item.is) in
    rw (c.is_reached-reached.ensures, taken, c.in_ok-push.ensures.items, c.state_of-state.ensures)
    (pushed c.loop-step.reached c.is_failed-is_failed.result c.args.failed step (take i steps) c.loop-step.rows.items c.loop-step.invariant
    c.is_failed-is_failed.ensures)

pub returns : goal.returns
returns g c =
    ended c.loop-step.reached c.args.failed c.args.steps.now c.loop-step.rows.items
    (subst (λ xs. SoFar c.loop-step.reached c.args.failed xs c.loop-step.rows.items)
    (take_all c.loop-step.step-index c.args.steps.now c.loop-step-test.false) c.loop-step.invariant)
