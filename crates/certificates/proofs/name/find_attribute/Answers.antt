-- What is owed of `find_attribute`.
use Rattle.std.proofs.Common.{arith, refl}
use Rattle.std.specs.Prelude.{option_map}
use Rattle.certificates.specs.Names.{attribute_view}
use Rattle.certificates.proofs.Named.{name_begins, name_stops, part_is_none, name_shorter, name_goes_on, name_ends}
use Rattle.certificates.proofs.name.find_attribute.Goals as goal

pub loop-rest-init : goal.loop-rest-init
loop-rest-init c = name_begins c.args.name.now c.args.identifier.now (λ i. omega (arith, c.type_inv.name i))

pub returns-in_err-part-clause-none : goal.returns-in_err-part-clause-none
returns-in_err-part-clause-none c = λ err.
    let l = c.loop-rest in
    name_stops c.args.name.now l.rest.now c.args.identifier.now (option_map attribute_view l.found) c.in_err-part.field-0.0 l.invariant
    c.loop-rest-test.true c.in_err-part.ensures

pub returns-in_err-here-clause-none : goal.returns-in_err-here-clause-none
returns-in_err-here-clause-none c = λ err.
    let l = c.loop-rest in
    let x = c.in_ok-part in
    part_is_none c.args.name.now l.rest.now c.args.identifier.now (option_map attribute_view l.found) x.part.now x.after.now l.invariant x.ensures
    (c.in_err-here.ensures.none refl)

pub loop-rest-smaller : goal.loop-rest-smaller
loop-rest-smaller c =
    let l = c.loop-rest in
    let x = c.in_ok-part in
    name_shorter c.args.name.now l.rest.now c.args.identifier.now (option_map attribute_view l.found) x.part.now x.after.now l.invariant x.ensures

pub loop-rest-preserved : goal.loop-rest-preserved
loop-rest-preserved c =
    let l = c.loop-rest in
    let x = c.in_ok-part in
    name_goes_on c.args.name.now l.rest.now c.args.identifier.now (option_map attribute_view l.found) x.part.now x.after.now
    (option_map attribute_view c.in_ok-here.here) (option_map attribute_view c.first_of-found.result) l.invariant x.ensures c.in_ok-here.ensures.found
    c.first_of-found.ensures

pub returns-clause-found : goal.returns-clause-found
returns-clause-found c =
    let l = c.loop-rest in
    name_ends c.args.name.now l.rest.now c.args.identifier.now (option_map attribute_view l.found) l.invariant c.loop-rest-test.false
