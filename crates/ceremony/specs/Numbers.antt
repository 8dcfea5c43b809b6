-- The product's numbers of refusals.
use Rattle.std.specs.Prelude.{ℕ, Option, Some, None}
use Rattle.ctap_encoding.specs.Numbers as reply
use Rattle.ceremony.specs.declared.error.Error.{Error}
use Rattle.ceremony.specs.declared.error.Error.TheVariants as errors

abbrev pub refusal_number : {W : Type 0} → Error W → Option ℕ
refusal_number errors.Incomplete = Some 24
refusal_number (errors.Dead index kind) = Some 25
refusal_number (errors.DeviceError code) = Some 26
refusal_number (errors.Reply e) = reply.refusal_number e
refusal_number (errors.Refused w) = None
refusal_number errors.Memory = None
