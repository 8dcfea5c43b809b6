-- What is required of attestation certificates: WebAuthn Level 2, section 8.2.1.
use Rattle.std.specs.Prelude.{◌≡◌, ◌⊎◌, ℕ, List, [], ◌∷◌, Option, false, IfSome, IsSome, IsSomeAnd, codes}
use Rattle.der.specs.declared.tag.Tag.{Tag}
use Rattle.certificates.specs.Tags.{universal}
use Rattle.certificates.specs.Names.{AttributeForm, IsName, attribute_of}
use Rattle.certificates.specs.Extensions.{ExtensionForm}
use Rattle.certificates.specs.Meanings.{IsAaguid, IsConstraints}
use Rattle.attestation.specs.Certified.{Extends}

-- ---- names

-- countryName, organizationName, organizationalUnitName and commonName: 2.5.4.6, .10, .11 and .3 (RFC 5280, appendix A)
abbrev pub country_name : List ℕ
country_name = 0x55 ∷ 0x04 ∷ 0x06 ∷ []

abbrev pub organization_name : List ℕ
organization_name = 0x55 ∷ 0x04 ∷ 0x0a ∷ []

abbrev pub unit_name : List ℕ
unit_name = 0x55 ∷ 0x04 ∷ 0x0b ∷ []

abbrev pub common_name : List ℕ
common_name = 0x55 ∷ 0x04 ∷ 0x03 ∷ []

-- a UTF8String or a PrintableString (X.680, 8.6), in both of which these letters are these octets
abbrev pub IsTextTag : Tag → Type 0
IsTextTag t = (t ≡ universal false 12) ⊎ (t ≡ universal false 19)

abbrev pub IsUnit : AttributeForm → Type 0
IsUnit a = IsTextTag a.tag × (a.value ≡ codes "Authenticator Attestation")

-- what a name has as its first attribute of a type: of that this holds
abbrev pub Names : List ℕ → List ℕ → (Option AttributeForm → Type 0) → Type 0
Names name identifier P = (parts : List (List AttributeForm)) × IsName parts name × P (attribute_of identifier parts)

abbrev pub HasAttribute : List ℕ → List ℕ → Type 0
HasAttribute name identifier = Names name identifier IsSome

abbrev pub HasUnit : List ℕ → Type 0
HasUnit name = Names name unit_name (λ found. IsSomeAnd found IsUnit)

-- C, O, OU "Authenticator Attestation" and CN are there
abbrev pub IsAttestationSubject : List ℕ → Type 0
IsAttestationSubject name = HasAttribute name country_name × HasAttribute name organization_name × HasUnit name × HasAttribute name common_name

-- ---- extensions

-- basicConstraints, 2.5.29.19 (RFC 5280, 4.2.1.9)
abbrev pub basic_constraints : List ℕ
basic_constraints = 0x55 ∷ 0x1d ∷ 0x13 ∷ []

-- they are there, and the CA component is false
abbrev pub IsEndEntity : Option ExtensionForm → Type 0
IsEndEntity found = IsSomeAnd found (λ e. (path : Option (List ℕ)) × IsConstraints false path e.value)

abbrev pub HasEndEntity : Option (List ℕ) → Type 0
HasEndEntity extensions = Extends extensions basic_constraints IsEndEntity

-- id-fido-gen-ce-aaguid, 1.3.6.1.4.1.45724.1.1.4
abbrev pub fido_aaguid : List ℕ
fido_aaguid = 0x2b ∷ 0x06 ∷ 0x01 ∷ 0x04 ∷ 0x01 ∷ 0x82 ∷ 0xe5 ∷ 0x1c ∷ 0x01 ∷ 0x01 ∷ 0x04 ∷ []

abbrev pub IsUncritical : Option ExtensionForm → Type 0
IsUncritical found = IfSome found (λ e. e.critical ≡ false)

-- where it is there, it is not critical
abbrev pub HasUncriticalAaguid : Option (List ℕ) → Type 0
HasUncriticalAaguid extensions = Extends extensions fido_aaguid IsUncritical

abbrev pub IsAaguidOf : List ℕ → Option ExtensionForm → Type 0
IsAaguidOf aaguid found = IfSome found (λ e. IsAaguid aaguid e.value)

-- 8.2, verification: where it is there, it is that of the authenticator data
abbrev pub HasAaguid : Option (List ℕ) → List ℕ → Type 0
HasAaguid extensions aaguid = Extends extensions fido_aaguid (IsAaguidOf aaguid)
