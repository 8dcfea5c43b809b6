-- What is owed of `check_self`.
use Rattle.std.proofs.Common.{refl, subst, sym}
use Rattle.refusal_order.proofs.Laws.{first_at}
use Rattle.attestation.proofs.packed.check_self.Goals as goal

pub returns-then-not-is_algorithm_of-clause-refused : goal.returns-then-not-is_algorithm_of-clause-refused
returns-then-not-is_algorithm_of-clause-refused g c =
    first_at 0 refl tt (λ same. let yes = c.is_algorithm_of.ensures.1 same in let not = c.if-not-is_algorithm_of.true in absurd cc)

pub returns-then-not-verify-clause-refused : goal.returns-then-not-verify-clause-refused
returns-then-not-verify-clause-refused g c =
    first_at 1 refl (c.is_algorithm_of.ensures.0 c.if-not-is_algorithm_of.false, tt)
    (λ valid. let yes = c.verify.ensures.1 (subst (g.V.SignatureVerifier.valid c.args.verifier.now) (sym c.self_signature.ensures) valid) in
    let not = c.if-not-verify.true in absurd cc)
