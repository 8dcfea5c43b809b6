-- What is owed of `fixed`.
use Rattle.std.proofs.Common.{ap, ◌∙◌, length, arith}
use Rattle.std.proofs.lemmas.List.{length-take}
use Rattle.authdata.proofs.Joins.{after_37, fixed_parts}
use Rattle.authdata.proofs.reading.fixed.Goals as goal

pub returns-clause-rest : goal.returns-clause-rest
returns-clause-rest c =
    after_37 c.args.bytes.now c.in_ok-hash.rest.now c.in_ok-flags.rest.now c.in_ok-count.rest.now c.in_ok-flags.flags.now
    c.in_ok-hash.ensures.cases.1 c.in_ok-flags.ensures.cases.0 c.in_ok-count.ensures.cases.1

pub returns-clause-parts : goal.returns-clause-parts
returns-clause-parts c =
    let a = c.in_ok-hash.ensures.cases in
    let d = c.in_ok-count.ensures.cases in
    fixed_parts c.args.bytes.now c.in_ok-hash.hash.now c.in_ok-hash.rest.now c.in_ok-flags.rest.now c.in_ok-count.count.now c.in_ok-count.rest.now
    c.in_ok-flags.flags.now c.from_be_bytes.result
    (λ i. omega (arith, c.type_inv.bytes i)) d.2 a.0 a.1 c.in_ok-flags.ensures.cases.0 d.0 d.1 c.from_be_bytes.ensures

pub returns-clause-hash : goal.returns-clause-hash
returns-clause-hash c = ap length c.in_ok-hash.ensures.cases.0 ∙ omega (arith, length-take 32 c.args.bytes.now, c.in_ok-hash.ensures.cases.2)
