-- What is owed of `read_key`.
use Rattle.std.proofs.Common.{arith}
use Rattle.certificates.specs.Keys.{key_view}
use Rattle.certificates.proofs.Known.{key_found, key_other, info_found, no_info}
use Rattle.certificates.proofs.key.read_key.Goals as goal

pub returns-clause-found : goal.returns-clause-found
returns-clause-found c =
    let i = c.in_ok-algorithm in
    key_found c.args.info.now i.algorithm.now i.bits.now (key_view c.key_in.result) (λ k. omega (arith, c.type_inv.info k)) i.ensures c.key_in.ensures

pub returns-clause-other : goal.returns-clause-other
returns-clause-other c =
    let i = c.in_ok-algorithm in
    key_other c.args.info.now i.algorithm.now i.bits.now (key_view c.key_in.result) i.ensures c.key_in.ensures

pub returns-clause-info : goal.returns-clause-info
returns-clause-info c =
    let i = c.in_ok-algorithm in
    info_found c.args.info.now i.algorithm.now i.bits.now (λ k. omega (arith, c.type_inv.info k)) i.ensures

pub returns-in_err-algorithm-clause-none : goal.returns-in_err-algorithm-clause-none
returns-in_err-algorithm-clause-none c = λ err. no_info c.args.info.now c.in_err-algorithm.field-0.0 c.in_err-algorithm.ensures
