-- What is owed of `key_with`.
use Rattle.attestation.specs.Algorithms.{WorksWith}
use Rattle.attestation.specs.Signed.{signing_view}
use Rattle.attestation.proofs.Signing.{not_key}
use Rattle.attestation.proofs.key.key_with.Goals as goal

pub returns-else-works_with : goal.returns-else-works_with
returns-else-works_with c = λ h.
    not_key (WorksWith c.args.algorithm) (signing_view c.in_ok-key.key) c.args.info.now c.in_ok-key.ensures
    (λ works. let yes = c.works_with.ensures.1 works in let not = c.if-works_with.false in absurd cc) h.0 h.1 h.2
