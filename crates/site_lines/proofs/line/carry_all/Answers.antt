-- What is owed of `carry_all`.
use Rattle.std.proofs.Common.{◌++◌, ◌∷◌, [], subst, take}
use Rattle.std.proofs.lemmas.List.{take_more}
use Rattle.site_lines.specs.Batches.{Runs}
use Rattle.site_lines.proofs.Batched.{runs_on}
use Rattle.site_lines.proofs.Kept.{quiet_then}
use Rattle.site_lines.proofs.line.carry_all.Goals as goal

pub loop-one-preserved : goal.loop-one-preserved
loop-one-preserved g c =
    let i = c.loop-one.invariant in
    let one = c.one-item.result in
    let push = take_more c.args.arrived.now c.loop-one.one-index one c.loop-one-test.true in
    let ran = runs_on g.S.Store.view g.S.Store.faults c.args.now c.args.site.now c.loop-one.site c.answer_one-answered.new.site (take c.loop-one.one-index c.args.arrived.now)
    c.loop-one.answers.items one c.answer_one-answered.result i.ran c.answer_one-answered.ensures.told c.answer_one-answered.ensures.kept
    c.answer_one-answered.ensures.quiet.counts in
    let next = subst (λ x. Runs g.S.Store.view g.S.Store.faults c.args.now c.args.site.now (take c.loop-one.one-index c.args.arrived.now ++ x ∷ [])
    (c.loop-one.answers.items ++ c.answer_one-answered.result ∷ []) c.answer_one-answered.new.site) c.one-item.is ran in
    record {
      ran = rw (push, c.in_ok-push.ensures.items) next;
      quiet = quiet_then g.S.Store c.args.site.now.store c.loop-one.site.store c.answer_one-answered.new.site.store i.quiet c.answer_one-answered.ensures.quiet;
    }
