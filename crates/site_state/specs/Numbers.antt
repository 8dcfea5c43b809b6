-- The product's numbers of refusals.
use Rattle.std.specs.Prelude.{ℕ, Option, Some, None}
use Rattle.site_state.specs.declared.error.BeginError.{BeginError}
use Rattle.site_state.specs.declared.error.BeginError.TheVariants as errors

abbrev pub refusal_number : BeginError → Option ℕ
refusal_number errors.SessionsFull = Some 21
refusal_number errors.Exhausted = Some 22
refusal_number errors.BadInput = Some 27
refusal_number errors.Memory = None
