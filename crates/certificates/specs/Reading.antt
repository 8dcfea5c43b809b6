-- Reading a certificate from left to right, with the first fault that is met.
use Rattle.std.specs.Prelude.{ℕ, ◌-◌, List, [], ◌∷◌, length, take, Bool, true, false, Option, Some, None, Result, Ok, Err, ◌==◌, ◌&&◌, ◌||◌, not, is_some, if◌then◌else◌}
use Rattle.std.specs.Str.{bytes_eq}
use Rattle.der.specs.declared.error.Error.TheVariants as faults
use Rattle.der.specs.Reading.{bit_string_in}
use Rattle.certificates.specs.declared.certificate.Version.{Version}
use Rattle.certificates.specs.declared.certificate.Version.TheVariants as versions
use Rattle.certificates.specs.declared.error.Error.{Error}
use Rattle.certificates.specs.declared.error.Error.TheVariants as errors
use Rattle.certificates.specs.Tags.{context, INTEGER, BIT_STRING, SEQUENCE, UTC_TIME, GENERALIZED_TIME}
use Rattle.certificates.specs.Form.{TimeForm, ValidityForm, TbsForm, Form}
use Rattle.certificates.specs.Steps.{Read, ◌>>=◌, lifted, field_at, optional_field_at, whole_field_at, integer_field_at}

-- ---- validity

abbrev pub after_utc : Option (List ℕ) → List ℕ → Read TimeForm
after_utc None rest = do
  general ← field_at GENERALIZED_TIME rest
  Ok (record { generalized = true; octets = general.0 }, general.1)
after_utc (Some utc) rest = Ok (record { generalized = false; octets = utc }, rest)

unfoldable pub time_at : List ℕ → Read TimeForm
time_at bs = do
  utc ← optional_field_at UTC_TIME bs
  after_utc utc.0 utc.1

unfoldable pub validity_at : List ℕ → Result ValidityForm Error
validity_at bs = do
  before ← time_at bs
  after ← time_at before.1
  if length after.1 == 0 then Ok (record { not_before = before.0; not_after = after.0 }) else Err (errors.Encoding faults.Trailing)

-- ---- what is signed

unfoldable pub version_in : List ℕ → Result Version Error
version_in [] = Err errors.Version
version_in (b ∷ []) = if b == 1 then Ok versions.V2 else if b == 2 then Ok versions.V3 else Err errors.Version
version_in (b ∷ c ∷ bs) = Err errors.Version

abbrev pub after_version : Option (List ℕ) → List ℕ → Read Version
after_version None rest = Ok (versions.V1, rest)
after_version (Some explicit) rest = do
  number ← whole_field_at INTEGER explicit
  version ← version_in number
  Ok (version, rest)

unfoldable pub version_at : List ℕ → Read Version
version_at bs = do
  explicit ← optional_field_at (context true 0) bs
  after_version explicit.0 explicit.1

unfoldable pub head_at : List ℕ → Result (Version × List ℕ × List ℕ × List ℕ) Error
head_at bs = do
  version ← version_at bs
  serial ← integer_field_at version.1
  algorithm ← field_at SEQUENCE serial.1
  Ok (version.0, serial.0, algorithm.0, algorithm.1)

unfoldable pub middle_at : List ℕ → Result (List ℕ × ValidityForm × List ℕ × List ℕ × List ℕ) Error
middle_at bs = do
  issuer ← field_at SEQUENCE bs
  times ← field_at SEQUENCE issuer.1
  validity ← validity_at times.0
  subject ← field_at SEQUENCE times.1
  key ← field_at SEQUENCE subject.1
  Ok (issuer.0, validity, subject.0, key.0, key.1)

abbrev pub within : Option (List ℕ) → Result (Option (List ℕ)) Error
within None = Ok None
within (Some explicit) = do
  extensions ← whole_field_at SEQUENCE explicit
  Ok (Some extensions)

unfoldable pub extensions_at : List ℕ → Result (Option (List ℕ)) Error
extensions_at bs = do
  explicit ← optional_field_at (context true 3) bs
  if length explicit.1 == 0 then within explicit.0 else Err (errors.Encoding faults.Trailing)

abbrev pub allows : Version → Bool → Bool → Bool
allows versions.V1 has_id has_extensions = not has_id && not has_extensions
allows versions.V2 has_id has_extensions = not has_extensions
allows versions.V3 has_id has_extensions = true

unfoldable pub last_at : Version → List ℕ → Result (Option (List ℕ) × Option (List ℕ) × Option (List ℕ)) Error
last_at version bs = do
  issuer_id ← optional_field_at (context false 1) bs
  subject_id ← optional_field_at (context false 2) issuer_id.1
  extensions ← extensions_at subject_id.1
  if allows version (is_some issuer_id.0 || is_some subject_id.0) (is_some extensions) then Ok (issuer_id.0, subject_id.0, extensions) else Err errors.Field

unfoldable pub tbs_at : List ℕ → Result TbsForm Error
tbs_at bs = do
  head ← head_at bs
  middle ← middle_at head.3
  last ← last_at head.0 middle.4
  Ok (record {
    version = head.0;
    serial = head.1;
    algorithm = head.2;
    issuer = middle.0;
    validity = middle.1;
    subject = middle.2;
    key = middle.3;
    issuer_id = last.0;
    subject_id = last.1;
    extensions = last.2;
  })

-- ---- certificates

unfoldable pub signature_in : List ℕ → Result (List ℕ) Error
signature_in content = do
  bits ← lifted (bit_string_in content)
  if bits.0 == 0 then Ok bits.1 else Err errors.Signature

-- what is signed, and the certificate
unfoldable pub certificate_at : List ℕ → Result (List ℕ × Form) Error
certificate_at bs = do
  body ← whole_field_at SEQUENCE bs
  content ← field_at SEQUENCE body
  algorithm ← field_at SEQUENCE content.1
  bits ← whole_field_at BIT_STRING algorithm.1
  signature ← signature_in bits
  tbs ← tbs_at content.0
  if bytes_eq tbs.algorithm algorithm.0 then Ok (take (length body - length content.1) body, record { tbs = tbs; signature = signature }) else Err errors.Algorithms
