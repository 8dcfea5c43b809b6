-- What is owed of `read`.
use Rattle.std.proofs.Common.{◌≡◌}
use Rattle.std.proofs.lemmas.Result.{err_from_is_err_and}
use Rattle.authdata.specs.declared.error.Error.TheVariants as errors
use Rattle.authdata.specs.declared.profile.Profile.TheVariants.{Strict}
use Rattle.authdata.proofs.NoRefusal.{no_memory}
use Rattle.authdata.proofs.reading.read.Goals as goal

pub returns-in_err-view-clause-memory : goal.returns-in_err-view-clause-memory
returns-in_err-view-clause-memory c = λ m.
    let p = err_from_is_err_and c.from_residual.result c.from_residual.ensures.1 in
    let first = c.in_err-view.ensures.refused in
    let same : c.in_err-view.field-0.0 ≡ errors.Memory = cc in
    absurd (no_memory Strict c.args.bytes.now c.in_err-view.field-0.0 first same)
