-- A certificate and its one encoding: RFC 5280, section 4.1, in DER.
use Rattle.std.specs.Prelude.{◌≡◌, ◌≢◌, ℕ, ◌^◌, ◌<◌, Bool, true, false, List, [], ◌∷◌, ◌++◌, length, Option, Some, None, option_map, if◌then◌else◌}
use Rattle.der.specs.Encoding.{element, IsInteger}
use Rattle.certificates.specs.declared.certificate.Version.{Version}
use Rattle.certificates.specs.declared.certificate.Version.TheVariants as versions
use Rattle.certificates.specs.declared.certificate.TbsCertificate.{TbsCertificate}
use Rattle.certificates.specs.declared.certificate.Certificate.{Certificate}
use Rattle.certificates.specs.declared.validity.Time.{Time}
use Rattle.certificates.specs.declared.validity.Validity.{Validity}
use Rattle.der.specs.declared.tag.Tag.{Tag}
use Rattle.certificates.specs.Tags.{context, INTEGER, BIT_STRING, SEQUENCE, UTC_TIME, GENERALIZED_TIME}

-- ---- certificates, without where they lie in memory

pub record TimeForm : Type 0 where
  pub generalized : Bool
  pub octets : List ℕ

pub record ValidityForm : Type 0 where
  pub not_before : TimeForm
  pub not_after : TimeForm

-- each field but the version and the validity by the content of its element
pub record TbsForm : Type 0 where
  pub version : Version
  pub serial : List ℕ
  pub algorithm : List ℕ
  pub issuer : List ℕ
  pub validity : ValidityForm
  pub subject : List ℕ
  pub key : List ℕ
  pub issuer_id : Option (List ℕ)
  pub subject_id : Option (List ℕ)
  pub extensions : Option (List ℕ)

pub record Form : Type 0 where
  pub tbs : TbsForm
  pub signature : List ℕ

abbrev pub time_view : Time → TimeForm
time_view t = record { generalized = t.generalized; octets = t.octets.now }

abbrev pub validity_view : Validity → ValidityForm
validity_view v = record { not_before = time_view v.not_before; not_after = time_view v.not_after }

abbrev pub tbs_view : TbsCertificate → TbsForm
tbs_view t = record {
  version = t.version;
  serial = t.serial.now;
  algorithm = t.algorithm.now;
  issuer = t.issuer.now;
  validity = validity_view t.validity;
  subject = t.subject.now;
  key = t.key.now;
  issuer_id = option_map (λ c. c.now) t.issuer_id;
  subject_id = option_map (λ c. c.now) t.subject_id;
  extensions = option_map (λ c. c.now) t.extensions;
}

abbrev pub certificate_view : Certificate → Form
certificate_view c = record { tbs = tbs_view c.tbs; signature = c.signature.now }

-- ---- the encoding

-- 4.1.2.1: version 1 is left out, as a default is (X.690, 11.5)
abbrev pub version_octets : Version → List ℕ
version_octets versions.V1 = []
version_octets versions.V2 = element (context true 0) (element INTEGER (1 ∷ []))
version_octets versions.V3 = element (context true 0) (element INTEGER (2 ∷ []))

-- 4.1.2.5
abbrev pub time_octets : TimeForm → List ℕ
time_octets t = element (if t.generalized then GENERALIZED_TIME else UTC_TIME) t.octets

abbrev pub validity_octets : ValidityForm → List ℕ
validity_octets v = time_octets v.not_before ++ time_octets v.not_after

-- what is not there is left out
abbrev pub optional_octets : Tag → Option (List ℕ) → List ℕ
optional_octets t None = []
optional_octets t (Some content) = element t content

-- 4.1.2.9: [3] EXPLICIT, a sequence of extensions
abbrev pub extensions_octets : Option (List ℕ) → List ℕ
extensions_octets None = []
extensions_octets (Some content) = element (context true 3) (element SEQUENCE content)

-- 4.1.2
abbrev pub tbs_octets : TbsForm → List ℕ
tbs_octets t =
    version_octets t.version
    ++ (element INTEGER t.serial
    ++ (element SEQUENCE t.algorithm
    ++ (element SEQUENCE t.issuer
    ++ (element SEQUENCE (validity_octets t.validity)
    ++ (element SEQUENCE t.subject
    ++ (element SEQUENCE t.key
    ++ (optional_octets (context false 1) t.issuer_id
    ++ (optional_octets (context false 2) t.subject_id
    ++ extensions_octets t.extensions))))))))

-- 4.1.1: what is signed, the algorithm again, and the signature, which is of whole octets
abbrev pub certificate_content : Form → List ℕ
certificate_content c = element SEQUENCE (tbs_octets c.tbs) ++ (element SEQUENCE c.tbs.algorithm ++ element BIT_STRING (0 ∷ c.signature))

abbrev pub certificate_octets : Form → List ℕ
certificate_octets c = element SEQUENCE (certificate_content c)

-- which certificates are read here
pub record IsCertificate (c : Form) : Type 0 where
  -- 4.1.2.2
  pub negative : Bool
  pub serial : IsInteger negative c.tbs.serial
  -- 4.1.2.8: version 1 has no unique identifiers
  pub issuer_id : c.tbs.version ≡ versions.V1 → c.tbs.issuer_id ≡ None
  pub subject_id : c.tbs.version ≡ versions.V1 → c.tbs.subject_id ≡ None
  -- 4.1.2.9: version 3 alone has extensions
  pub extensions : c.tbs.version ≢ versions.V3 → c.tbs.extensions ≡ None
  pub size : length (certificate_content c) < 2 ^ 32
