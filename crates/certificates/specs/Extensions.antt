-- The extensions of a certificate and their one encoding: RFC 5280, sections 4.1 and 4.2, in DER.
use Rattle.std.specs.Prelude.{◌≡◌, ℕ, ◌^◌, ◌<◌, Bool, true, false, List, [], ◌∷◌, ◌++◌, length, Option, Some, None, if◌then◌else◌}
use Rattle.std.specs.List.{AllByRecursion}
use Rattle.std.specs.Str.{bytes_eq}
use Rattle.der.specs.Encoding.{element, boolean_octets, IsObjectIdentifier}
use Rattle.certificates.specs.declared.extension.Extension.{Extension}
use Rattle.certificates.specs.Tags.{BOOLEAN, OBJECT_IDENTIFIER, OCTET_STRING, SEQUENCE}

-- an extension, without where it lies in memory
pub record ExtensionForm : Type 0 where
  pub identifier : List ℕ
  pub critical : Bool
  pub value : List ℕ

abbrev pub extension_view : Extension → ExtensionForm
extension_view e = record { identifier = e.identifier.now; critical = e.critical; value = e.value.now }

-- false is left out, as a default is (X.690, 11.5)
abbrev pub critical_octets : Bool → List ℕ
critical_octets false = []
critical_octets true = element BOOLEAN (boolean_octets true)

abbrev pub extension_content : ExtensionForm → List ℕ
extension_content e = element OBJECT_IDENTIFIER e.identifier ++ (critical_octets e.critical ++ element OCTET_STRING e.value)

abbrev pub extensions_content : List ExtensionForm → List ℕ
extensions_content [] = []
extensions_content (e ∷ es) = element SEQUENCE (extension_content e) ++ extensions_content es

pub record IsExtension (e : ExtensionForm) : Type 0 where
  pub identifier : IsObjectIdentifier e.identifier
  pub size : length (extension_content e) < 2 ^ 32

-- the content is these extensions, one after the other
pub record AreListed (es : List ExtensionForm) (content : List ℕ) : Type 0 where
  pub parts : content ≡ extensions_content es
  pub are : AllByRecursion IsExtension es

-- the first with this identifier
abbrev pub found_in : List ℕ → List ExtensionForm → Option ExtensionForm
found_in identifier [] = None
found_in identifier (e ∷ es) = if bytes_eq e.identifier identifier then Some e else found_in identifier es

-- 4.2: none stands there twice
abbrev pub Distinct : List ExtensionForm → Type 0
Distinct [] = Unit {0}
Distinct (e ∷ es) = (found_in e.identifier es ≡ None) × Distinct es

pub record AreExtensions (es : List ExtensionForm) (content : List ℕ) : Type 0 where
  pub listed : AreListed es content
  pub distinct : Distinct es
