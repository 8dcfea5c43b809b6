-- What the private functions over extensions are proved against; no public clause cites it.
use Rattle.std.specs.Prelude.{ℕ, List, Option, Some, None, if◌then◌else◌}
use Rattle.std.specs.Str.{bytes_eq}
use Rattle.certificates.specs.Extensions.{ExtensionForm}

-- what was found, or the extension if it has this identifier
abbrev pub kept : List ℕ → Option ExtensionForm → ExtensionForm → Option ExtensionForm
kept identifier None e = if bytes_eq e.identifier identifier then Some e else None
kept identifier (Some x) e = Some x
