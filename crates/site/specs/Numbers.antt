-- The product's numbers of refusals.
use Rattle.std.specs.Prelude.{ℕ, Option, Some, None}
use Rattle.site.specs.declared.error.Error.{Error}
use Rattle.site.specs.declared.error.Error.TheVariants as errors

abbrev pub refusal_number : Error → Option ℕ
refusal_number errors.BadTable = Some 23
refusal_number errors.BadInput = Some 27
refusal_number errors.Memory = None
