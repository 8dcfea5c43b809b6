-- What is owed of `among`.
use Rattle.std.proofs.Common.{arith}
use Rattle.certificates.proofs.Purposes.{among_begins, among_stops, among_shorter, among_goes_on, among_ends}
use Rattle.certificates.proofs.usage.among.Goals as goal

pub loop-rest-init : goal.loop-rest-init
loop-rest-init c = among_begins c.args.content.now c.args.purpose.now (λ i. omega (arith, c.type_inv.content i))

pub returns-in_err-identifier-clause-none : goal.returns-in_err-identifier-clause-none
returns-in_err-identifier-clause-none c = λ err.
    let l = c.loop-rest in
    among_stops c.args.content.now l.rest.now c.args.purpose.now l.found c.in_err-identifier.field-0.0 l.invariant c.loop-rest-test.true c.in_err-identifier.ensures

pub loop-rest-smaller : goal.loop-rest-smaller
loop-rest-smaller c =
    let l = c.loop-rest in
    let x = c.in_ok-identifier in
    among_shorter c.args.content.now l.rest.now c.args.purpose.now l.found x.identifier.now x.after.now l.invariant x.ensures

pub loop-rest-preserved : goal.loop-rest-preserved
loop-rest-preserved c =
    let l = c.loop-rest in
    let x = c.in_ok-identifier in
    among_goes_on c.args.content.now l.rest.now c.args.purpose.now l.found x.identifier.now x.after.now c.either-found.result l.invariant x.ensures c.either-found.ensures

pub returns-clause-found : goal.returns-clause-found
returns-clause-found c =
    let l = c.loop-rest in
    among_ends c.args.content.now l.rest.now c.args.purpose.now l.found l.invariant c.loop-rest-test.false
