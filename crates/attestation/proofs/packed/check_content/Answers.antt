-- What is owed of `check_content`.
use Rattle.std.proofs.Common.{refl}
use Rattle.refusal_order.proofs.Laws.{first_at}
use Rattle.attestation.specs.Asked.{asked_view}
use Rattle.attestation.proofs.Signing.{has_key, same_message, signed_by, unsigned}
use Rattle.attestation.proofs.packed.check_content.Goals as goal

pub returns-in_default-clause-refused : goal.returns-in_default-clause-refused
returns-in_default-clause-refused g c = first_at 1 refl (tt, tt) c.in_default.ensures

pub returns-then-not-verify-clause-refused : goal.returns-then-not-verify-clause-refused
returns-then-not-verify-clause-refused g c =
    let s = asked_view c.in-Some.asked in
    let by = same_message c.args.content.now.key.now c.args.algorithm c.args.signature.now _ _ s c.response.ensures c.in-Some.ensures in
    let key = has_key c.args.content.now.key.now c.args.algorithm c.args.signature.now _ s by in
    first_at 2 refl (tt, (key, tt))
    (unsigned c.args.content.now.key.now c.args.algorithm c.args.signature.now (g.V.SignatureVerifier.valid c.args.verifier.now) _ s by
    (λ valid. let yes = c.verify.ensures.1 valid in let not = c.if-not-verify.true in absurd cc))

pub returns-then-not-is_version_3-clause-refused : goal.returns-then-not-is_version_3-clause-refused
returns-then-not-is_version_3-clause-refused g c =
    let s = asked_view c.in-Some.asked in
    let by = same_message c.args.content.now.key.now c.args.algorithm c.args.signature.now _ _ s c.response.ensures c.in-Some.ensures in
    let key = has_key c.args.content.now.key.now c.args.algorithm c.args.signature.now _ s by in
    let signed = signed_by c.args.content.now.key.now c.args.algorithm c.args.signature.now (g.V.SignatureVerifier.valid c.args.verifier.now) _ s by
    (c.verify.ensures.0 c.if-not-verify.false) in
    first_at 3 refl (tt, (key, (signed, tt)))
    (λ passes. let yes = c.is_version_3.ensures.1 passes in let not = c.if-not-is_version_3.true in absurd cc)

pub returns-then-not-is_attestation_subject-clause-refused : goal.returns-then-not-is_attestation_subject-clause-refused
returns-then-not-is_attestation_subject-clause-refused g c =
    let s = asked_view c.in-Some.asked in
    let by = same_message c.args.content.now.key.now c.args.algorithm c.args.signature.now _ _ s c.response.ensures c.in-Some.ensures in
    let key = has_key c.args.content.now.key.now c.args.algorithm c.args.signature.now _ s by in
    let signed = signed_by c.args.content.now.key.now c.args.algorithm c.args.signature.now (g.V.SignatureVerifier.valid c.args.verifier.now) _ s by
    (c.verify.ensures.0 c.if-not-verify.false) in
    first_at 4 refl (tt, (key, (signed, (c.is_version_3.ensures.0 c.if-not-is_version_3.false, tt))))
    (λ passes. let yes = c.is_attestation_subject.ensures.1 passes in let not = c.if-not-is_attestation_subject.true in absurd cc)

pub returns-then-not-has_end_entity-clause-refused : goal.returns-then-not-has_end_entity-clause-refused
returns-then-not-has_end_entity-clause-refused g c =
    let s = asked_view c.in-Some.asked in
    let by = same_message c.args.content.now.key.now c.args.algorithm c.args.signature.now _ _ s c.response.ensures c.in-Some.ensures in
    let key = has_key c.args.content.now.key.now c.args.algorithm c.args.signature.now _ s by in
    let signed = signed_by c.args.content.now.key.now c.args.algorithm c.args.signature.now (g.V.SignatureVerifier.valid c.args.verifier.now) _ s by
    (c.verify.ensures.0 c.if-not-verify.false) in
    first_at 5 refl (tt, (key, (signed, (c.is_version_3.ensures.0 c.if-not-is_version_3.false, (c.is_attestation_subject.ensures.0 c.if-not-is_attestation_subject.false, tt)))))
    (λ passes. let yes = c.has_end_entity.ensures.1 passes in let not = c.if-not-has_end_entity.true in absurd cc)

pub returns-then-not-has_uncritical_aaguid-clause-refused : goal.returns-then-not-has_uncritical_aaguid-clause-refused
returns-then-not-has_uncritical_aaguid-clause-refused g c =
    let s = asked_view c.in-Some.asked in
    let by = same_message c.args.content.now.key.now c.args.algorithm c.args.signature.now _ _ s c.response.ensures c.in-Some.ensures in
    let key = has_key c.args.content.now.key.now c.args.algorithm c.args.signature.now _ s by in
    let signed = signed_by c.args.content.now.key.now c.args.algorithm c.args.signature.now (g.V.SignatureVerifier.valid c.args.verifier.now) _ s by
    (c.verify.ensures.0 c.if-not-verify.false) in
    first_at 6 refl (tt, (key, (signed, (c.is_version_3.ensures.0 c.if-not-is_version_3.false, (c.is_attestation_subject.ensures.0 c.if-not-is_attestation_subject.false, (c.has_end_entity.ensures.0 c.if-not-has_end_entity.false, tt))))))
    (λ passes. let yes = c.has_uncritical_aaguid.ensures.1 passes in let not = c.if-not-has_uncritical_aaguid.true in absurd cc)

pub returns-then-not-has_aaguid-clause-refused : goal.returns-then-not-has_aaguid-clause-refused
returns-then-not-has_aaguid-clause-refused g c =
    let s = asked_view c.in-Some.asked in
    let by = same_message c.args.content.now.key.now c.args.algorithm c.args.signature.now _ _ s c.response.ensures c.in-Some.ensures in
    let key = has_key c.args.content.now.key.now c.args.algorithm c.args.signature.now _ s by in
    let signed = signed_by c.args.content.now.key.now c.args.algorithm c.args.signature.now (g.V.SignatureVerifier.valid c.args.verifier.now) _ s by
    (c.verify.ensures.0 c.if-not-verify.false) in
    first_at 7 refl (tt, (key, (signed, (c.is_version_3.ensures.0 c.if-not-is_version_3.false, (c.is_attestation_subject.ensures.0 c.if-not-is_attestation_subject.false, (c.has_end_entity.ensures.0 c.if-not-has_end_entity.false, (c.has_uncritical_aaguid.ensures.0 c.if-not-has_uncritical_aaguid.false, tt)))))))
    (λ passes. let yes = c.has_aaguid.ensures.1 passes in let not = c.if-not-has_aaguid.true in absurd cc)

pub returns-clause-passes : goal.returns-clause-passes
returns-clause-passes g c =
    let s = asked_view c.in-Some.asked in
    let by = same_message c.args.content.now.key.now c.args.algorithm c.args.signature.now _ _ s c.response.ensures c.in-Some.ensures in
    let key = has_key c.args.content.now.key.now c.args.algorithm c.args.signature.now _ s by in
    let signed = signed_by c.args.content.now.key.now c.args.algorithm c.args.signature.now (g.V.SignatureVerifier.valid c.args.verifier.now) _ s by
    (c.verify.ensures.0 c.if-not-verify.false) in
    (tt, (key, (signed, (c.is_version_3.ensures.0 c.if-not-is_version_3.false, (c.is_attestation_subject.ensures.0 c.if-not-is_attestation_subject.false, (c.has_end_entity.ensures.0 c.if-not-has_end_entity.false, (c.has_uncritical_aaguid.ensures.0 c.if-not-has_uncritical_aaguid.false, (c.has_aaguid.ensures.0 c.if-not-has_aaguid.false, tt))))))))
