-- What is asked of the host, and what it answers.
use Rattle.std.specs.Prelude.{◌≡◌, ◌⊎◌, List, [], ◌∷◌}
use Rattle.attestation.specs.declared.signature.AskedSignature.{AskedSignature}
use Rattle.attestation.specs.declared.verifier.VerifiedSignature.{VerifiedSignature}
use Rattle.attestation.specs.Signed.{Signed, signing_view}
use Rattle.attestation.specs.Messages.{message_bytes}

abbrev pub asked_view : AskedSignature → Signed
asked_view a = record { key = signing_view a.key; algorithm = a.algorithm; message = message_bytes a.message; signature = a.signature.now }

abbrev pub verified_view : VerifiedSignature → Signed
verified_view v = record { key = signing_view v.key; algorithm = v.algorithm; message = v.message.now; signature = v.signature.now }

-- the signature is one of those that the host verified
abbrev pub IsVerified : List VerifiedSignature → Signed → Type 0
IsVerified [] s = ⊥
IsVerified (v ∷ vs) s = (verified_view v ≡ s) ⊎ IsVerified vs s
