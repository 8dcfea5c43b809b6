-- What is owed of `residents`.
use Rattle.std.proofs.Common.{◌++◌, sym, ap, ◌∙◌, reverse}
use Rattle.std.specs.Prelude.{option_to_list}
use Rattle.authenticator.proofs.Store.{ids_found}
use Rattle.authenticator.proofs.credentials.residents.Goals as goal

pub returns-in-Some-last : goal.returns-in-Some-last
returns-in-Some-last c = ap (λ o. option_to_list o ++ reverse c.loop-credential.later.items) (sym c.in-Some-last.is)
    ∙ ids_found c.args.rp_id.now c.args.credentials.now c.loop-credential.credential-index c.loop-credential-test.false
    c.loop-credential.later.items c.loop-credential.last c.loop-credential.invariant.0

pub returns-in-None : goal.returns-in-None
returns-in-None c = ap reverse (sym (c.loop-credential.invariant.1 c.in-None.is))
    ∙ ap (λ o. option_to_list o ++ reverse c.loop-credential.later.items) (sym c.in-None.is)
    ∙ ids_found c.args.rp_id.now c.args.credentials.now c.loop-credential.credential-index c.loop-credential-test.false
    c.loop-credential.later.items c.loop-credential.last c.loop-credential.invariant.0
