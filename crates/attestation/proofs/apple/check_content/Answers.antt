-- What is owed of `check_content`.
use Rattle.std.proofs.Common.{List, ℕ, refl, sym, subst}
use Rattle.std.specs.Prelude.{option_map}
use Rattle.refusal_order.proofs.Laws.{first_at}
use Rattle.attestation.specs.Apple.{HasNonce}
use Rattle.attestation.proofs.apple.check_content.Goals as goal

pub returns-then-not-has_nonce-clause-refused : goal.returns-then-not-has_nonce-clause-refused
returns-then-not-has_nonce-clause-refused c =
    first_at 1 refl (tt, tt)
    (λ passes. let yes = c.has_nonce.ensures.1 (subst (λ (n : List ℕ). HasNonce (option_map (λ b. b.now) c.args.content.now.extensions) n) (sym c.nonce_of.ensures) passes) in
    let not = c.if-not-has_nonce.true in absurd cc)

pub returns-then-not-has_key_of-clause-refused : goal.returns-then-not-has_key_of-clause-refused
returns-then-not-has_key_of-clause-refused c =
    let nonce = subst (λ (n : List ℕ). HasNonce (option_map (λ b. b.now) c.args.content.now.extensions) n) c.nonce_of.ensures (c.has_nonce.ensures.0 c.if-not-has_nonce.false) in
    first_at 2 refl (tt, (nonce, tt)) (λ passes. let yes = c.has_key_of.ensures.1 passes in let not = c.if-not-has_key_of.true in absurd cc)

pub returns-clause-passes : goal.returns-clause-passes
returns-clause-passes c =
    let nonce = subst (λ (n : List ℕ). HasNonce (option_map (λ b. b.now) c.args.content.now.extensions) n) c.nonce_of.ensures (c.has_nonce.ensures.0 c.if-not-has_nonce.false) in
    (tt, (nonce, (c.has_key_of.ensures.0 c.if-not-has_key_of.false, tt)))
