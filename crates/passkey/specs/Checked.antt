-- What `passkey check` answers: limited verification (WebAuthn Level 2, section 5.8.1.2) against the decoded words.
use Rattle.std.specs.Prelude.{◌↔◌, ℕ, List, Bool, IsTrue, Some, None}
use Rattle.clientdata.specs.Serialised.{client_data_front}
use Rattle.clientdata.specs.Verified.{IsVerified}
use Rattle.clientdata.specs.declared.record.CeremonyType.{CeremonyType}
use Rattle.passkey.specs.HexText.{IsRead}
use Rattle.passkey.specs.declared.check.CheckFault.{CheckFault}
use Rattle.passkey.specs.declared.check.CheckFault.TheVariants.{BadHex, Memory}

-- the digits are hex, and the verdict is that of the limited verification against the challenge that they spell
abbrev pub IsChecked : List ℕ → CeremonyType → List ℕ → List ℕ → Bool → Bool → Type 0
IsChecked bytes kind digits origin cross_origin verified =
    (challenge : List ℕ) × IsRead digits (Some challenge)
    × (IsTrue verified ↔ IsVerified bytes (client_data_front kind challenge origin cross_origin))

-- why nothing is checked; running out of memory says nothing
abbrev pub IsUnchecked : List ℕ → CheckFault → Type 0
IsUnchecked digits BadHex = IsRead digits None
IsUnchecked digits Memory = Unit {0}
