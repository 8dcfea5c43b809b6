-- What is owed of `known_sign_in`.
use Rattle.site_lines.specs.Answers.{opens_sign_in}
use Rattle.site_lines.proofs.Caused.{begin_since, look_fails}
use Rattle.site_lines.proofs.Detailed.{begins_after}
use Rattle.site_lines.proofs.beginning.known_sign_in.Goals as goal

pub returns-in-Err-clause-refused : goal.returns-in-Err-clause-refused
returns-in-Err-clause-refused g c = c.in-Err.ensures.refused (opens_sign_in c.args.begin.now c.args.words)

pub returns-in-Ok-started_sign_in-clause-begun : goal.returns-in-Ok-started_sign_in-clause-begun
returns-in-Ok-started_sign_in-clause-begun g c =
    begins_after g.S.Store.view (opens_sign_in c.args.begin.now c.args.words) c.args.words c.args.now c.in-Ok-started_sign_in.begun c.args.site.now c.named.new.site c.started_sign_in.new.site c.in-Ok.ensures.same
    c.in-Ok-started_sign_in.ensures.quiet.clean c.in-Ok-started_sign_in.ensures.begun

pub returns-in-Err-clause-cause : goal.returns-in-Err-clause-cause
returns-in-Err-clause-cause g c = look_fails g.S.Store.view g.S.Store.faults c.args.site.now c.named.new.site _ _ c.in-Err.why c.in-Err.ensures.cause

pub returns-in-Err-started_sign_in-clause-cause : goal.returns-in-Err-started_sign_in-clause-cause
returns-in-Err-started_sign_in-clause-cause g c =
    begin_since g.S.Store.view g.S.Store.faults c.args.site.now c.named.new.site c.started_sign_in.new.site c.in-Err-started_sign_in.why c.in-Ok.ensures.same
    c.in-Err-started_sign_in.ensures.quiet.clean c.in-Ok.ensures.quiet.counts c.in-Err-started_sign_in.ensures.cause
