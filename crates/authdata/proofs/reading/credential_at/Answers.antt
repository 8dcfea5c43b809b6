-- What is owed of `credential_at`.
use Rattle.std.proofs.Common.{◌≡◌, ◌+◌, ◌-◌, take, drop, ap, sym, ◌∙◌, arith}
use Rattle.authdata.proofs.Joins.{credential_parts, to_the_end}
use Rattle.authdata.proofs.reading.credential_at.Goals as goal

pub returns-in-Ok-clause-found : goal.returns-in-Ok-clause-found
returns-in-Ok-clause-found c =
    let n : 55 + c.id_len-len.result - 55 ≡ c.id_len-len.result = omega arith in
    credential_parts c.args.bytes.now c.copy_from_slice.new.self _ _ c.in-Ok.rest.now c.id_len-len.result (λ i. omega (arith, c.type_inv.bytes i))
    (omega (arith, c.requires, c.id_len-len.ensures)) c.id_len-len.ensures
    c.copy_from_slice.ensures.after (ap (λ k. take k (drop 55 c.args.bytes.now)) n) (sym (to_the_end (55 + c.id_len-len.result) c.args.bytes.now)
    ∙ c.in-Ok.ensures.found.1)
