-- The numbers of the refusals, which are the product's own.
use Rattle.std.specs.Prelude.{ℕ, Option, Some, None}
use Rattle.authdata.specs.declared.error.Error.{Error}
use Rattle.authdata.specs.declared.error.Error.TheVariants as errors

abbrev pub refusal_number : Error → Option ℕ
refusal_number errors.Memory = None
refusal_number errors.Unfit = Some 1
refusal_number errors.NotCanonical = Some 2
refusal_number errors.Short = Some 8
refusal_number errors.Extensions = Some 9
refusal_number errors.BadId = Some 10
refusal_number errors.BadKey = Some 11
refusal_number errors.ExtraBytes = Some 12
refusal_number errors.Shape = Some 13
refusal_number errors.UnknownFormat = Some 14
refusal_number errors.BadStatement = Some 15
refusal_number errors.BadBackup = Some 28
refusal_number errors.BadExtensions = Some 29
