-- The numbers of this product's refusals. Running out of memory has none, and a request's status is a byte of CTAP.
use Rattle.std.specs.Prelude.{◌≡◌, ◌⊎◌, ℕ, Option, Some, None}
use Rattle.ctap_encoding.specs.declared.error.Error.{Error}
use Rattle.ctap_encoding.specs.declared.error.Error.TheVariants as errors
use Rattle.ctap_encoding.specs.declared.map_error.MapError.{MapError}
use Rattle.ctap_encoding.specs.declared.map_error.MapError.TheVariants as refusals

abbrev pub refusal_number : Error → Option ℕ
refusal_number errors.Memory = None
refusal_number errors.Unfit = Some 1
refusal_number errors.NotCanonical = Some 2
refusal_number errors.Shape = Some 13
refusal_number errors.Empty = Some 17
refusal_number (errors.Refused s) = Some 18
refusal_number (errors.Status s) = None

-- why a map is not read
abbrev pub of_map : MapError → Error
of_map refusals.Memory = errors.Memory
of_map refusals.Shape = errors.Shape

-- why a message is not written
abbrev pub IsWritingError : Error → Type 0
IsWritingError e = (e ≡ errors.Unfit) ⊎ (e ≡ errors.Memory)
