-- The numbers of this crate's refusals.
use Rattle.std.specs.Prelude.{ℕ, Option, Some, None}
use Rattle.authenticator.specs.declared.error.LoadError.{LoadError}
use Rattle.authenticator.specs.declared.error.LoadError.TheVariants as errors

-- running out of memory has none
abbrev pub refusal_number : LoadError → Option ℕ
refusal_number errors.BadAuthenticator = Some 30
refusal_number errors.Memory = None
