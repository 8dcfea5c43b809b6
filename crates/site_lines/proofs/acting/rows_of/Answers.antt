-- What is owed of `rows_of`.
use Rattle.site_lines.proofs.Caused.{damaged_on, fails_after}
use Rattle.site_lines.proofs.Detailed.{row_details_after}
use Rattle.site_lines.proofs.acting.rows_of.Goals as goal

pub returns-in-Ok-clause-details : goal.returns-in-Ok-clause-details
returns-in-Ok-clause-details g c =
    row_details_after g.S.Store.view c.in-Ok.rows c.args.site.now c.rows_of.new.self c.with_known.new.site c.with_known.result c.in-Ok.ensures.reads.same
    c.with_known.ensures.told

pub returns-in-Ok-clause-cause : goal.returns-in-Ok-clause-cause
returns-in-Ok-clause-cause g c =
    fails_after g.S.Store.view g.S.Store.faults c.args.site.now c.rows_of.new.self c.with_known.new.site _ _ _ _ c.with_known.result c.with_known.ensures.quiet.clean
    c.in-Ok.ensures.reads.quiet.counts (λ clean no. absurd no)
    (λ clean damage placed holds. absurd (damaged_on g.S.Store.view c.args.site.now c.rows_of.new.self c.in-Ok.ensures.reads.same clean damage placed holds))
    c.with_known.ensures.cause
