-- The steps by which a statement is verified, in the standard's order: WebAuthn Level 2, section 8; which signature is asked for; and what
-- a statement that passes attests.
use Rattle.std.specs.Prelude.{◌≡◌, ℕ, List, []}
use Rattle.attestation.specs.declared.refusal.AttestationRefusal.{AttestationRefusal}
use Rattle.attestation.specs.declared.judging.Attestation.{Attestation}
use Rattle.attestation.specs.declared.judging.AttestationType.{AttestationType}
use Rattle.attestation.specs.declared.judging.AttestationType.TheVariants as types
use Rattle.attestation.specs.Certified.{Certified, leaf_of}
use Rattle.attestation.specs.Inputs.{Inputs}
use Rattle.attestation.specs.Messages.{response_message}
use Rattle.attestation.specs.Signed.{Signed, Validity, IsBy}
use Rattle.attestation.specs.Statements.{StatementForm, no_attestation, self_attestation, packed, fido_u2f, apple, format_of, certificates_view}
use Rattle.attestation.specs.Packed.{PassesPacked, packed_steps, PassesSelf, self_steps, self_signed}
use Rattle.attestation.specs.Apple.{PassesApple, apple_steps}
use Rattle.attestation.specs.FidoU2f.{PassesFidoU2f, fido_u2f_steps, IsU2fSigned}

-- the statement passes a step
abbrev pub Passes : Validity → StatementForm → Inputs → AttestationRefusal → Type 0
Passes valid no_attestation i s = ⊥
Passes valid (self_attestation a sig) i s = PassesSelf valid a sig i s
Passes valid (packed a sig cs) i s = Certified (λ t. PassesPacked valid a sig i t s) (leaf_of cs)
Passes valid (fido_u2f sig cs) i s = PassesFidoU2f valid sig cs i s
Passes valid (apple a cs) i s = Certified (λ t. PassesApple i t s) (leaf_of cs)

-- the steps after the syntax; an empty statement has none (8.7)
abbrev pub steps_of : StatementForm → List AttestationRefusal
steps_of no_attestation = []
steps_of (self_attestation a sig) = self_steps
steps_of (packed a sig cs) = packed_steps
steps_of (fido_u2f sig cs) = fido_u2f_steps
steps_of (apple a cs) = apple_steps

-- the statement is shown by this signature
abbrev pub Asks : StatementForm → Inputs → Signed → Type 0
Asks no_attestation i s = ⊥
Asks (self_attestation a sig) i s = s ≡ self_signed a sig i
Asks (packed a sig cs) i s = Certified (λ t. IsBy t.key a (response_message i.auth_data i.hash) sig s) (leaf_of cs)
Asks (fido_u2f sig cs) i s = Certified (λ t. IsU2fSigned t.key sig i s) (leaf_of cs)
Asks (apple a cs) i s = ⊥

-- the attestation type: 6.5.3
abbrev pub type_of : StatementForm → AttestationType
type_of no_attestation = types.None
type_of (self_attestation a sig) = types.SelfSigned
type_of (packed a sig cs) = types.BasicOrAttCa
type_of (fido_u2f sig cs) = types.BasicOrAttCa
type_of (apple a cs) = types.AnonCa

-- the certificates that are handed out
abbrev pub path_of : StatementForm → List (List ℕ)
path_of no_attestation = []
path_of (self_attestation a sig) = []
path_of (packed a sig cs) = cs
path_of (fido_u2f sig cs) = cs
path_of (apple a cs) = cs

-- this is what the statement attests
pub record Tells (f : StatementForm) (a : Attestation) : Type 0 where
  pub format : a.format ≡ format_of f
  pub attestation_type : a.attestation_type ≡ type_of f
  pub certificates : certificates_view a.certificates ≡ path_of f
