-- Reading an extension from left to right, with the first fault that is met.
use Rattle.std.specs.Prelude.{ℕ, List, Bool, true, false, Option, Some, None, Result, Ok, Err, if◌then◌else◌}
use Rattle.der.specs.Reading.{boolean_in, object_identifier_in}
use Rattle.certificates.specs.declared.error.Error.{Error}
use Rattle.certificates.specs.declared.error.Error.TheVariants as errors
use Rattle.certificates.specs.Tags.{BOOLEAN, OBJECT_IDENTIFIER, OCTET_STRING, SEQUENCE}
use Rattle.certificates.specs.Extensions.{ExtensionForm}
use Rattle.certificates.specs.Steps.{Read, ◌>>=◌, lifted, field_at, optional_field_at, whole_field_at}

abbrev pub after_flag : Option (List ℕ) → List ℕ → Read Bool
after_flag None rest = Ok (false, rest)
after_flag (Some flag) rest = do
  critical ← lifted (boolean_in flag)
  if critical then Ok (true, rest) else Err errors.Default

unfoldable pub critical_at : List ℕ → Read Bool
critical_at bs = do
  flag ← optional_field_at BOOLEAN bs
  after_flag flag.0 flag.1

-- the content of an object identifier
unfoldable pub identifier_field_at : List ℕ → Read (List ℕ)
identifier_field_at bs = do
  content ← field_at OBJECT_IDENTIFIER bs
  _ ← lifted (object_identifier_in content.0)
  Ok content

unfoldable pub extension_in : List ℕ → Result ExtensionForm Error
extension_in bs = do
  identifier ← identifier_field_at bs
  critical ← critical_at identifier.1
  value ← whole_field_at OCTET_STRING critical.1
  Ok (record { identifier = identifier.0; critical = critical.0; value = value })

unfoldable pub extension_at : List ℕ → Read ExtensionForm
extension_at bs = do
  content ← field_at SEQUENCE bs
  extension ← extension_in content.0
  Ok (extension, content.1)
