-- The extended key usage, and its one encoding: RFC 5280, 4.2.1.12, in DER.
use Rattle.std.specs.Prelude.{◌≡◌, ℕ, ◌^◌, ◌<◌, Bool, false, List, [], ◌∷◌, length, ◌||◌}
use Rattle.std.specs.List.{AllByRecursion}
use Rattle.std.specs.Str.{bytes_eq}
use Rattle.der.specs.Encoding.{element, IsObjectIdentifier}
use Rattle.certificates.specs.Items.{joined}
use Rattle.certificates.specs.Tags.{OBJECT_IDENTIFIER, SEQUENCE}

-- a purpose is named by an object identifier
pub record IsPurpose (purpose : List ℕ) : Type 0 where
  pub identifier : IsObjectIdentifier purpose
  pub size : length purpose < 2 ^ 32

-- the content is these purposes, one after the other
pub record ArePurposes (purposes : List (List ℕ)) (content : List ℕ) : Type 0 where
  pub parts : content ≡ joined (element OBJECT_IDENTIFIER) purposes
  pub are : AllByRecursion IsPurpose purposes

-- the value is a sequence of them
pub record IsUsage (purposes : List (List ℕ)) (value : List ℕ) : Type 0 where
  pub are : AllByRecursion IsPurpose purposes
  pub size : length (joined (element OBJECT_IDENTIFIER) purposes) < 2 ^ 32
  pub parts : value ≡ element SEQUENCE (joined (element OBJECT_IDENTIFIER) purposes)

abbrev pub is_among : List ℕ → List (List ℕ) → Bool
is_among purpose [] = false
is_among purpose (p ∷ ps) = bytes_eq p purpose || is_among purpose ps
