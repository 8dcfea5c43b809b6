-- What is owed of `begin_sign_in`.
use Rattle.std.proofs.Common.{arith, map}
use Rattle.std.specs.Prelude.{option_map}
use Rattle.site_state.specs.Sessions.{OpensSignIn}
use Rattle.site_stored.specs.declared.failure.BeginFailure.{BeginFailure}
use Rattle.stored_runs.proofs.Bound.{begins, may_sign_in}
use Rattle.stored_runs.proofs.making.begin_sign_in.Goals as goal

pub returns : goal.returns
returns g c =
    let begun = c.begin_sign_in.ensures.begins in
    begins g.S.Store.view c.args.site.now _ {E = BeginFailure} (OpensSignIn (option_map (λ u. u.now) c.args.user) (map (λ id. id.now) c.args.allow.now) c.args.uv c.args.words.now) c.args.now
    c.begin_sign_in.result (λ i. omega (arith, c.fits-words i)) (may_sign_in g.S.Store.view c.args.site.now c.args.site.now c.begin_sign_in.result (option_map (λ u. u.now) c.args.user) (map (λ id. id.now) c.args.allow.now) c.args.uv c.args.words.now c.told-words begun.input) begun.begun begun.next begun.given begun.held begun.beside begun.one
