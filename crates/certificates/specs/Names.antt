-- Names and their one encoding: RFC 5280, 4.1.2.4, in DER.
use Rattle.std.specs.Prelude.{◌≡◌, ℕ, ◌^◌, ◌<◌, List, [], ◌∷◌, ◌++◌, length, map, Option, Some, None, if◌then◌else◌}
use Rattle.std.specs.List.{AllByRecursion}
use Rattle.std.specs.Str.{bytes_eq}
use Rattle.der.specs.declared.tag.Tag.{Tag}
use Rattle.der.specs.Encoding.{element, IsElement, IsObjectIdentifier}
use Rattle.certificates.specs.declared.name.Attribute.{Attribute}
use Rattle.certificates.specs.Items.{joined}
use Rattle.certificates.specs.Tags.{OBJECT_IDENTIFIER, SEQUENCE, SET}

-- an attribute, without where it lies in memory: its type, and the tag and the content of its value
pub record AttributeForm : Type 0 where
  pub identifier : List ℕ
  pub tag : Tag
  pub value : List ℕ

abbrev pub attribute_view : Attribute → AttributeForm
attribute_view a = record { identifier = a.identifier.now; tag = a.tag; value = a.value.now }

abbrev pub attribute_content : AttributeForm → List ℕ
attribute_content a = element OBJECT_IDENTIFIER a.identifier ++ element a.tag a.value

abbrev pub attribute_octets : AttributeForm → List ℕ
attribute_octets a = element SEQUENCE (attribute_content a)

pub record IsAttribute (a : AttributeForm) : Type 0 where
  pub identifier : IsObjectIdentifier a.identifier
  pub value : IsElement a.tag a.value
  pub size : length (attribute_content a) < 2 ^ 32

-- the content is these attributes, one after the other
pub record AreAttributes (attributes : List AttributeForm) (content : List ℕ) : Type 0 where
  pub parts : content ≡ joined attribute_octets attributes
  pub are : AllByRecursion IsAttribute attributes

-- a part of a name, which is a set of attributes (RelativeDistinguishedName)
pub record IsPart (attributes : List AttributeForm) : Type 0 where
  pub are : AllByRecursion IsAttribute attributes
  pub size : length (joined attribute_octets attributes) < 2 ^ 32

-- the content is these parts, one after the other (RDNSequence)
pub record IsName (parts : List (List AttributeForm)) (content : List ℕ) : Type 0 where
  pub octets : content ≡ joined (element SET) (map (joined attribute_octets) parts)
  pub are : AllByRecursion IsPart parts

-- the first attribute of this type
abbrev pub first_of : Option AttributeForm → Option AttributeForm → Option AttributeForm
first_of (Some a) other = Some a
first_of None other = other

abbrev pub attribute_in : List ℕ → List AttributeForm → Option AttributeForm
attribute_in identifier [] = None
attribute_in identifier (a ∷ xs) = if bytes_eq a.identifier identifier then Some a else attribute_in identifier xs

abbrev pub attribute_of : List ℕ → List (List AttributeForm) → Option AttributeForm
attribute_of identifier [] = None
attribute_of identifier (part ∷ parts) = first_of (attribute_in identifier part) (attribute_of identifier parts)
