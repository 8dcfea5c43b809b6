-- What is owed of `abandon`.
use Rattle.std.proofs.Common.{refl}
use Rattle.site_lines.proofs.acting.abandon.Goals as goal

pub returns-in-Ok-clause-told : goal.returns-in-Ok-clause-told
returns-in-Ok-clause-told g c =
    ((c.in-Ok.ensures.one.0, c.in-Ok.ensures.one.2), λ clean placed held. (placed, refl, c.in-Ok.ensures.held clean placed held), c.in-Ok.ensures.told)
