-- What is owed of `changed`.
use Rattle.std.proofs.Common.{arith}
use Rattle.site_files.proofs.tables.changed.Goals as goal

pub returns-in-Ok-done-clause-clean : goal.returns-in-Ok-done-clause-clean
returns-in-Ok-done-clause-clean g c clean =
    let begun = c.rollback.ensures.quiet.clean in
    let over = c.in-Ok.ensures.clean in
    let done = c.in-Ok-done.ensures.clean in
    let ended = c.into_store-store.ensures.quiet.clean in
    omega (arith, begun, over, done, ended, clean)
