-- What a leaf certificate has: the certificate whose key a statement is signed with, or that names the credential's key.
use Rattle.std.specs.Prelude.{◌≡◌, ℕ, List, [], ◌∷◌, Option, Some, None}
use Rattle.certificates.specs.Form.{Form, TbsForm, IsCertificate, certificate_octets}
use Rattle.certificates.specs.Extensions.{ExtensionForm, AreExtensions, found_in}

-- the first of the certificates
abbrev pub leaf_of : List (List ℕ) → List ℕ
leaf_of [] = []
leaf_of (c ∷ cs) = c

-- the bytes are this certificate
pub record CertificateOf (c : Form) (bs : List ℕ) : Type 0 where
  pub is : IsCertificate c
  pub octets : bs ≡ certificate_octets c

-- the bytes are a certificate, of whose content this holds
abbrev pub Certified : (TbsForm → Type 0) → List ℕ → Type 0
Certified P bs = (c : Form) × CertificateOf c bs × P c.tbs

-- what a certificate has at an extension's identifier; its extensions are well formed
abbrev pub HasExtension : Option (List ℕ) → List ℕ → Option ExtensionForm → Type 0
HasExtension None identifier found = found ≡ None
HasExtension (Some content) identifier found = (es : List ExtensionForm) × AreExtensions es content × (found ≡ found_in identifier es)

-- and of that this holds
abbrev pub Extends : Option (List ℕ) → List ℕ → (Option ExtensionForm → Type 0) → Type 0
Extends extensions identifier P = (found : Option ExtensionForm) × HasExtension extensions identifier found × P found
