-- What is owed of `first`.
use Rattle.std.specs.Prelude.{option_map}
use Rattle.certificates.specs.Extensions.{extension_view}
use Rattle.certificates.proofs.Found.{first_stops, first_shorter, first_goes_on}
use Rattle.certificates.proofs.extension.first.Goals as goal

pub returns-in_err-extension-clause-none : goal.returns-in_err-extension-clause-none
returns-in_err-extension-clause-none c = λ err.
    let l = c.loop-rest in
    first_stops c.args.content.now l.rest.now c.args.identifier.now (option_map extension_view l.found) c.in_err-extension.field-0.0 l.invariant
    c.loop-rest-test.true c.in_err-extension.ensures

pub loop-rest-smaller : goal.loop-rest-smaller
loop-rest-smaller c =
    let l = c.loop-rest in
    let x = c.in_ok-extension in
    first_shorter c.args.content.now l.rest.now c.args.identifier.now (option_map extension_view l.found) (extension_view x.extension) x.after.now
    l.invariant x.ensures

pub loop-rest-preserved : goal.loop-rest-preserved
loop-rest-preserved c =
    let l = c.loop-rest in
    let x = c.in_ok-extension in
    first_goes_on c.args.content.now l.rest.now c.args.identifier.now (option_map extension_view l.found) (extension_view x.extension) x.after.now
    (option_map extension_view c.kept-found.result) l.invariant x.ensures c.kept-found.ensures
