-- What is owed of `attribute_in`.
use Rattle.std.proofs.Common.{arith}
use Rattle.std.specs.Prelude.{option_map}
use Rattle.certificates.specs.Names.{attribute_view}
use Rattle.certificates.proofs.Named.{part_begins, part_stops, part_shorter, part_goes_on, part_ends}
use Rattle.certificates.proofs.name.attribute_in.Goals as goal

pub loop-rest-init : goal.loop-rest-init
loop-rest-init c = part_begins c.args.content.now c.args.identifier.now (λ i. omega (arith, c.type_inv.content i))

pub returns-in_err-attribute-clause-none : goal.returns-in_err-attribute-clause-none
returns-in_err-attribute-clause-none c = λ err.
    let l = c.loop-rest in
    part_stops c.args.content.now l.rest.now c.args.identifier.now (option_map attribute_view l.found) c.in_err-attribute.field-0.0 l.invariant
    c.loop-rest-test.true c.in_err-attribute.ensures

pub loop-rest-smaller : goal.loop-rest-smaller
loop-rest-smaller c =
    let l = c.loop-rest in
    let x = c.in_ok-attribute in
    part_shorter c.args.content.now l.rest.now c.args.identifier.now (option_map attribute_view l.found) (attribute_view x.attribute) x.after.now
    l.invariant x.ensures

pub loop-rest-preserved : goal.loop-rest-preserved
loop-rest-preserved c =
    let l = c.loop-rest in
    let x = c.in_ok-attribute in
    part_goes_on c.args.content.now l.rest.now c.args.identifier.now (option_map attribute_view l.found) (attribute_view x.attribute) x.after.now
    (option_map attribute_view c.kept_attribute-found.result) l.invariant x.ensures c.kept_attribute-found.ensures

pub returns-clause-found : goal.returns-clause-found
returns-clause-found c =
    let l = c.loop-rest in
    part_ends c.args.content.now l.rest.now c.args.identifier.now (option_map attribute_view l.found) l.invariant c.loop-rest-test.false
