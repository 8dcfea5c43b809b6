-- The numbers of the refusals.
use Rattle.std.specs.Prelude.{ℕ, Option, Some, None}
use Rattle.clientdata.specs.declared.error.Error.{Error}
use Rattle.clientdata.specs.declared.error.Error.TheVariants.{Unreadable, Memory}

-- a refusal's number; running out of memory has none
abbrev pub refusal_number : Error → Option ℕ
refusal_number Unreadable = Some 16
refusal_number Memory = None
