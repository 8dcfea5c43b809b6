-- The product's numbers of refusals.
use Rattle.std.specs.Prelude.{ℕ, Option, Some, None}
use Rattle.security_key.specs.declared.serving.ServeError.{ServeError}
use Rattle.security_key.specs.declared.serving.ServeError.TheVariants as serves

abbrev pub serve_number : ServeError → Option ℕ
serve_number serves.NotWorking = Some 6
serve_number serves.Memory = None
