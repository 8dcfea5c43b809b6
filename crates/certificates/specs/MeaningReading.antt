-- Reading what an extension says from left to right.
use Rattle.std.specs.Prelude.{ℕ, Bool, true, List, length, Option, Some, None, Result, Ok, Err, ◌==◌, if◌then◌else◌}
use Rattle.der.specs.Reading.{unsigned_in}
use Rattle.certificates.specs.declared.error.Error.{Error}
use Rattle.certificates.specs.declared.error.Error.TheVariants as errors
use Rattle.certificates.specs.Tags.{context, INTEGER, OCTET_STRING, SEQUENCE}
use Rattle.certificates.specs.ExtensionReading.{critical_at}
use Rattle.certificates.specs.Steps.{◌>>=◌, lifted, whole_field_at}

abbrev pub sized : ℕ → List ℕ → Result (List ℕ) Error
sized size octets = if length octets == size then Ok octets else Err errors.Size

unfoldable pub aaguid_in : List ℕ → Result (List ℕ) Error
aaguid_in bs = do
  octets ← whole_field_at OCTET_STRING bs
  sized 16 octets

unfoldable pub nonce_in : List ℕ → Result (List ℕ) Error
nonce_in bs = do
  outer ← whole_field_at SEQUENCE bs
  inner ← whole_field_at (context true 1) outer
  octets ← whole_field_at OCTET_STRING inner
  sized 32 octets

unfoldable pub path_in : List ℕ → Result (Option (List ℕ)) Error
path_in bs =
    if length bs == 0 then Ok None else (do
      number ← whole_field_at INTEGER bs
      digits ← lifted (unsigned_in number)
      Ok (Some digits))

unfoldable pub constraints_in : List ℕ → Result (Bool × Option (List ℕ)) Error
constraints_in bs = do
  content ← whole_field_at SEQUENCE bs
  authority ← critical_at content
  path ← path_in authority.1
  Ok (authority.0, path)
