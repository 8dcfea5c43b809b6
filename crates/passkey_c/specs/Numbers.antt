-- The answers as numbers: 0 accepted, 1 to 19 the step that refuses, 100 and up a member that is out of its limits,
-- 127 no memory.
use Rattle.std.specs.Prelude.{◌≡◌, ◌⊎◌, ℕ}
use Rattle.passkey_c.specs.declared.answers.Limit.{Limit}
use Rattle.passkey_c.specs.declared.answers.Limit.TheVariants as limits
use Rattle.passkey_c.specs.declared.answers.InputFault.{InputFault}
use Rattle.passkey_c.specs.declared.answers.InputFault.TheVariants as faults
use Rattle.passkey_c.specs.declared.asked.AskError.{AskError}
use Rattle.passkey_c.specs.declared.asked.AskError.TheVariants as errors

abbrev pub limit_number : Limit → ℕ
limit_number limits.RpId = 101
limit_number limits.Origin = 102
limit_number limits.Challenge = 103
limit_number limits.KeyAlgorithm = 104
limit_number limits.KeyX = 105
limit_number limits.KeyY = 106
limit_number limits.VerifiedAlgorithm = 107
limit_number limits.VerifiedX = 108
limit_number limits.VerifiedY = 109
limit_number limits.MessageRoom = 110
limit_number limits.SignatureRoom = 111
limit_number limits.Profile = 112
limit_number limits.TopOrigin = 113

abbrev pub fault_number : InputFault → ℕ
fault_number (faults.Limit limit) = limit_number limit
fault_number faults.Memory = 127

-- a signature that is asked can't be answered: 7 where a registration attests nothing
abbrev pub ask_number : AskError → ℕ
ask_number errors.Unreadable = 7
ask_number (errors.Limit limit) = limit_number limit

-- the numbers that are answered to who asks for a signature
abbrev pub IsAskAnswer : ℕ → Type 0
IsAskAnswer n = (n ≡ 0) ⊎ ((error : AskError) × (n ≡ ask_number error))
