-- What is owed of `forget`.
use Rattle.std.proofs.Common.{refl}
use Rattle.authenticator.specs.Handed.{handed_key}
use Rattle.authenticator.specs.Steps.{Keys}
use Rattle.authenticator.specs.declared.keys.TheConstants.{NO_KEYS}
use Rattle.key_device.proofs.Handing.{forgets}
use Rattle.key_device.proofs.deciding.forget.Goals as goal

pub returns-in-Replied-clause-ok : goal.returns-in-Replied-clause-ok
returns-in-Replied-clause-ok c =
    let public : Keys = λ alg secret. handed_key NO_KEYS alg in
    forgets _ c.args.authenticator.now _ _ (rw c.in-Replied.is at (c.in_ok-begin.ensures.begun public (λ alg. refl)))

pub returns-clause-err : goal.returns-clause-err
returns-clause-err c =
    let public : Keys = λ alg secret. handed_key NO_KEYS alg in
    (rw c.in-Signs.is at (c.in_ok-begin.ensures.begun public (λ alg. refl))).0
