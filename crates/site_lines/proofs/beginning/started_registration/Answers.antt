-- What is owed of `started_registration`.
use Rattle.std.proofs.Common.{ap}
use Rattle.site_seal.specs.Seal.{ordered}
use Rattle.site_lines.specs.Answers.{opens_registration}
use Rattle.site_lines.proofs.Kept.{begins_none, same_registration, session_begins}
use Rattle.site_lines.proofs.beginning.started_registration.Goals as goal

pub returns-clause-refused : goal.returns-clause-refused
returns-clause-refused g c =
    begins_none _ (opens_registration c.args.begin.now c.args.words) c.args.site.now c.begin_registration.new.self c.begin_registration.result
    (same_registration _ _ _ _ c.args.begin.now.user_verification c.args.words c.args.begin.now.asks c.as_slice.ensures.value (ap ordered c.as_slice-2.ensures.value))
    c.begin_registration.ensures.begins.refused

pub returns-clause-begun : goal.returns-clause-begun
returns-clause-begun g c =
    session_begins g.S.Store _ (opens_registration c.args.begin.now c.args.words) c.args.words c.args.now c.args.site.now c.begin_registration.new.self
    c.begin_registration.result
    (same_registration _ _ _ _ c.args.begin.now.user_verification c.args.words c.args.begin.now.asks c.as_slice.ensures.value (ap ordered c.as_slice-2.ensures.value))
    c.begin_registration.ensures.begins
