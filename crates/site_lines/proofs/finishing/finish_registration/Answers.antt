-- What is owed of `finish_registration`.
use Rattle.std.proofs.Common.{◌⊎◌, subst}
use Rattle.site_lines.specs.Causes.{FailsBy}
use Rattle.site_stored.specs.Causes.{AreUnknownEndings, IsDamaged, RefusesEnding, RefusesRegistered}
use Rattle.site_stored.specs.State.{ended_session_tree}
use Rattle.site_lines.specs.Details.{RegistersDetail}
use Rattle.site_lines.specs.Named.{named_response}
use Rattle.site_lines.proofs.finishing.finish_registration.Goals as goal

pub returns-in-Ok-clause-details : goal.returns-in-Ok-clause-details
returns-in-Ok-clause-details g c =
    subst (λ d. RegistersDetail g.S.Store.view d c.args.site.now c.finish_with.new.site c.finish_with.result) c.in-Ok.ensures c.finish_with.ensures.details

pub returns-in-Ok-clause-cause : goal.returns-in-Ok-clause-cause
returns-in-Ok-clause-cause g c =
    subst (λ d. FailsBy g.S.Store.view g.S.Store.faults c.args.site.now c.finish_with.new.site
    (RefusesRegistered (g.S.Store.view c.args.site.now.store) c.args.site.now (named_response c.args.finish) d
    ⊎ RefusesEnding ended_session_tree (g.S.Store.view c.args.site.now.store))
    (IsDamaged (g.S.Store.view c.args.site.now.store).trees ⊎ AreUnknownEndings (g.S.Store.view c.args.site.now.store).trees) c.finish_with.result) c.in-Ok.ensures c.finish_with.ensures.cause
