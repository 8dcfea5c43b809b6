-- What is owed of `begin_registration`.
use Rattle.std.proofs.Common.{arith}
use Rattle.site_seal.specs.Seal.{ordered}
use Rattle.site_state.specs.Sessions.{OpensRegistration}
use Rattle.site_stored.specs.declared.failure.BeginFailure.{BeginFailure}
use Rattle.stored_runs.proofs.Bound.{begins, may_register}
use Rattle.stored_runs.proofs.making.begin_registration.Goals as goal

pub returns : goal.returns
returns g c =
    let begun = c.begin_registration.ensures.begins in
    begins g.S.Store.view c.args.site.now _ {E = BeginFailure} (OpensRegistration c.args.user.now (ordered c.args.algorithms.now) c.args.uv c.args.words.now c.args.asks) c.args.now
    c.begin_registration.result (λ i. omega (arith, c.fits-words i)) (may_register g.S.Store.view c.args.site.now c.args.site.now c.begin_registration.result c.args.user.now c.args.algorithms.now c.args.uv c.args.words.now c.args.asks c.told-words begun.input) begun.begun begun.next begun.given begun.held begun.beside begun.one
