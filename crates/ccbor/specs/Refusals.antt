-- The numbers of this product's refusals. Running out of memory has none.
use Rattle.std.specs.Prelude.{ℕ, Option, Some, None}
use Rattle.ccbor.specs.declared.error.Error.{Error}
use Rattle.ccbor.specs.declared.error.Error.TheVariants as errors

abbrev pub refusal_number : Error → Option ℕ
refusal_number errors.Unfit = Some 1
refusal_number errors.NotCanonical = Some 2
refusal_number errors.Trailing = Some 3
refusal_number errors.Memory = None
