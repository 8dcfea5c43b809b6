-- What is owed of `known_registration`.
use Rattle.site_lines.specs.Answers.{opens_registration}
use Rattle.site_lines.proofs.Caused.{begin_since, look_fails}
use Rattle.site_lines.proofs.Detailed.{begins_after}
use Rattle.site_lines.proofs.beginning.known_registration.Goals as goal

pub returns-in-Err-clause-refused : goal.returns-in-Err-clause-refused
returns-in-Err-clause-refused g c = c.in-Err.ensures.refused (opens_registration c.args.begin.now c.args.words)

pub returns-in-Ok-started_registration-clause-begun : goal.returns-in-Ok-started_registration-clause-begun
returns-in-Ok-started_registration-clause-begun g c =
    begins_after g.S.Store.view (opens_registration c.args.begin.now c.args.words) c.args.words c.args.now c.in-Ok-started_registration.begun c.args.site.now c.named.new.site c.started_registration.new.site c.in-Ok.ensures.same
    c.in-Ok-started_registration.ensures.quiet.clean c.in-Ok-started_registration.ensures.begun

pub returns-in-Err-clause-cause : goal.returns-in-Err-clause-cause
returns-in-Err-clause-cause g c = look_fails g.S.Store.view g.S.Store.faults c.args.site.now c.named.new.site _ _ c.in-Err.why c.in-Err.ensures.cause

pub returns-in-Err-started_registration-clause-cause : goal.returns-in-Err-started_registration-clause-cause
returns-in-Err-started_registration-clause-cause g c =
    begin_since g.S.Store.view g.S.Store.faults c.args.site.now c.named.new.site c.started_registration.new.site c.in-Err-started_registration.why c.in-Ok.ensures.same
    c.in-Err-started_registration.ensures.quiet.clean c.in-Ok.ensures.quiet.counts c.in-Err-started_registration.ensures.cause
