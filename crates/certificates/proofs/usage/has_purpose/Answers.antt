-- What is owed of `has_purpose`.
use Rattle.std.proofs.Common.{arith}
use Rattle.certificates.proofs.Purposes.{usage_found, usage_none, no_usage}
use Rattle.certificates.proofs.usage.has_purpose.Goals as goal

pub returns-clause-found : goal.returns-clause-found
returns-clause-found c =
    let x = c.in_ok-content in
    usage_found c.args.value.now c.args.purpose.now x.content.now c.among.result (λ i. omega (arith, c.type_inv.value i)) x.ensures c.among.ensures.found

pub returns-clause-none : goal.returns-clause-none
returns-clause-none c =
    let x = c.in_ok-content in
    usage_none c.args.value.now c.args.purpose.now x.content.now c.among.result x.ensures c.among.ensures.none

pub returns-in_err-content-clause-none : goal.returns-in_err-content-clause-none
returns-in_err-content-clause-none c = λ err. no_usage c.args.value.now c.args.purpose.now c.in_err-content.field-0.0 c.in_err-content.ensures
