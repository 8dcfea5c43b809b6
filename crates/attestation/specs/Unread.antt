-- Why bytes are no statement that is judged: WebAuthn Level 2, section 8.
use Rattle.std.specs.Prelude.{◌≡◌, ◌≢◌, ℕ, List, codes}
use Rattle.attestation.specs.declared.refusal.AttestationRefusal.{AttestationRefusal}
use Rattle.attestation.specs.declared.refusal.AttestationRefusal.TheVariants as step
use Rattle.attestation.specs.declared.statement.Format.{Format}
use Rattle.attestation.specs.Statements.{StatementForm, StatementOf, format_name, format_of}

abbrev pub IsUnread : List ℕ → List ℕ → AttestationRefusal → Type 0
-- 8.5
IsUnread name bs step.EndedFormat = name ≡ codes "android-safetynet"
-- no format has this identifier
IsUnread name bs step.UnknownFormat = (name ≢ codes "android-safetynet") × ((f : Format) → name ≢ format_name f)
-- one has it, and the bytes are no statement of it
IsUnread name bs step.BadStatement =
    (f : Format) × (name ≡ format_name f) × ((s : StatementForm) → format_of s ≡ f → StatementOf s bs → ⊥)
IsUnread name bs _ = ⊥
