-- What is owed of `lines_of`.
use Rattle.std.proofs.Common.{◌++◌, ◌∷◌, [], subst, take, string_bytes}
use Rattle.std.proofs.lemmas.List.{take_more}
use Rattle.site_program.specs.Told.{AreLinesOf}
use Rattle.site_program.proofs.Told.{one_more}
use Rattle.site_program.proofs.telling.lines_of.Goals as goal

pub loop-answered-preserved : goal.loop-answered-preserved
loop-answered-preserved c =
    let one = c.answered-item.result in
    let push = take_more c.args.answers.now c.loop-answered.answered-index one c.loop-answered-test.true in
    let written = c.in_ok-write_answer.ensures.written in
    let told = one_more c.args.teller.now (take c.loop-answered.answered-index c.args.answers.now) one (string_bytes c.loop-answered.text)
    (string_bytes c.write_answer.new.out) written.0 written.1 c.loop-answered.invariant written.2 written.3 written.4 in
    rw push (subst (λ x. AreLinesOf c.args.teller.now (take c.loop-answered.answered-index c.args.answers.now ++ x ∷ [])
    (string_bytes c.write_answer.new.out)) c.answered-item.is told)
