-- What is owed of `check_distinct`.
use Rattle.std.proofs.Common.{refl, sym, ◌∙◌}
use Rattle.certificates.specs.Extensions.{extension_view}
use Rattle.certificates.proofs.Found.{distinct_stops, later_stops, repeated_of, distinct_shorter, distinct_goes_on_of, distinct_ends}
use Rattle.certificates.proofs.extension.check_distinct.Goals as goal

pub returns-in_err-extension-clause-none : goal.returns-in_err-extension-clause-none
returns-in_err-extension-clause-none c = λ err.
    let l = c.loop-rest in
    distinct_stops c.args.content.now l.rest.now c.in_err-extension.field-0.0 l.invariant c.loop-rest-test.true c.in_err-extension.ensures

pub returns-in_err-again-clause-none : goal.returns-in_err-again-clause-none
returns-in_err-again-clause-none c = λ err.
    let l = c.loop-rest in
    let x = c.in_ok-extension in
    later_stops c.args.content.now l.rest.now (extension_view x.extension) x.after.now l.invariant x.ensures (c.in_err-again.ensures.none refl)

pub returns-then-is_some-clause-none : goal.returns-then-is_some-clause-none
returns-then-is_some-clause-none c = λ err.
    let l = c.loop-rest in
    let x = c.in_ok-extension in
    repeated_of c.args.content.now l.rest.now (extension_view x.extension) x.after.now c.in_ok-again.again l.invariant x.ensures c.in_ok-again.ensures.found
    (sym c.is_some.ensures ∙ c.if-is_some.true)

pub loop-rest-smaller : goal.loop-rest-smaller
loop-rest-smaller c =
    let l = c.loop-rest in
    let x = c.in_ok-extension in
    distinct_shorter c.args.content.now l.rest.now (extension_view x.extension) x.after.now l.invariant x.ensures

pub loop-rest-preserved : goal.loop-rest-preserved
loop-rest-preserved c =
    let l = c.loop-rest in
    let x = c.in_ok-extension in
    distinct_goes_on_of c.args.content.now l.rest.now (extension_view x.extension) x.after.now c.in_ok-again.again l.invariant x.ensures c.in_ok-again.ensures.found
    (sym c.is_some.ensures ∙ c.if-is_some.false)

pub returns-clause-found : goal.returns-clause-found
returns-clause-found c = λ ok. let l = c.loop-rest in distinct_ends c.args.content.now l.rest.now l.invariant c.loop-rest-test.false
