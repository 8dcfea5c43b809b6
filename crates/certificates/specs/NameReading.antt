-- Reading an attribute of a name from left to right.
use Rattle.std.specs.Prelude.{ℕ, List, length, Option, Some, None, Result, Ok, Err, ◌==◌, if◌then◌else◌}
use Rattle.std.specs.Str.{bytes_eq}
use Rattle.der.specs.declared.error.Error.TheVariants as faults
use Rattle.der.specs.declared.tag.Tag.{Tag}
use Rattle.der.specs.Reading.{element_at}
use Rattle.certificates.specs.declared.error.Error.{Error}
use Rattle.certificates.specs.declared.error.Error.TheVariants as errors
use Rattle.certificates.specs.Tags.{SEQUENCE}
use Rattle.certificates.specs.Names.{AttributeForm}
use Rattle.certificates.specs.ExtensionReading.{identifier_field_at}
use Rattle.certificates.specs.Steps.{Read, ◌>>=◌, lifted, field_at}

-- an element of whatever tag, which the whole is
unfoldable pub any_at : List ℕ → Result (Tag × List ℕ) Error
any_at bs = do
  x ← lifted (element_at bs)
  if length x.1 == 0 then Ok x.0 else Err (errors.Encoding faults.Trailing)

unfoldable pub attribute_from : List ℕ → Result AttributeForm Error
attribute_from bs = do
  identifier ← identifier_field_at bs
  value ← any_at identifier.1
  Ok (record { identifier = identifier.0; tag = value.0; value = value.1 })

unfoldable pub attribute_at : List ℕ → Read AttributeForm
attribute_at bs = do
  content ← field_at SEQUENCE bs
  attribute ← attribute_from content.0
  Ok (attribute, content.1)

-- what was found, or the attribute if it is of this type
abbrev pub kept_attribute : List ℕ → Option AttributeForm → AttributeForm → Option AttributeForm
kept_attribute identifier None a = if bytes_eq a.identifier identifier then Some a else None
kept_attribute identifier (Some x) a = Some x
