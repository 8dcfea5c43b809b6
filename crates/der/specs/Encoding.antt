-- DER, the distinguished encoding rules (X.690, sections 8, 10 and 11): the one encoding of each thing.
use Rattle.std.specs.Prelude.{◌≡◌, ℕ, zero, suc, ◌+◌, ◌*◌, ◌-◌, ◌/◌, ◌%◌, ◌^◌, ◌<◌, Bool, true, false, List, [], ◌∷◌, ◌++◌, length, map, slice_index, nat_lt, ◌==◌, IsTrue, if◌then◌else◌}
use Rattle.std.specs.List.{AllByRecursion}
use Rattle.der.specs.declared.tag.Class.{Class}
use Rattle.der.specs.declared.tag.Class.TheVariants as classes
use Rattle.der.specs.declared.tag.Tag.{Tag}

-- ---- identifier octets: 8.1.2

abbrev pub class_number : Class → ℕ
class_number classes.Universal = 0
class_number classes.Application = 1
class_number classes.ContextSpecific = 2
class_number classes.Private = 3

-- 8.1.2.2: the class in the two high bits, then whether the content is made of elements, then the number
abbrev pub identifier : Tag → ℕ
identifier t = 64 * class_number t.class + (if t.constructed then 32 else 0) + t.number

-- ---- lengths: 8.1.3, in the fewest octets of 10.1

-- the number in this many octets, highest first
abbrev pub octets : ℕ → ℕ → List ℕ
octets zero n = []
octets (suc k) n = octets k (n / 256) ++ (n % 256) ∷ []

-- 8.1.3.4: below 128 the number itself; 8.1.3.5: otherwise how many octets follow, and the number in them
unfoldable pub length_octets : ℕ → List ℕ
length_octets n =
    if nat_lt n 0x80 then n ∷ []
    else if nat_lt n (2 ^ 8) then 0x81 ∷ octets 1 n
    else if nat_lt n (2 ^ 16) then 0x82 ∷ octets 2 n
    else if nat_lt n (2 ^ 24) then 0x83 ∷ octets 3 n
    else 0x84 ∷ octets 4 n

-- ---- elements: 8.1.1

unfoldable pub element : Tag → List ℕ → List ℕ
element t content = identifier t ∷ (length_octets (length content) ++ content)

-- which elements are encoded here: of a number that the identifier octet has room for (8.1.2.4), and with a length
-- of at most four octets
pub record IsElement (t : Tag) (content : List ℕ) : Type 0 where
  pub number : t.number < 31
  pub size : length content < 2 ^ 32

-- the first octet is that of the tag
abbrev pub begins_with : Tag → List ℕ → Bool
begins_with t [] = false
begins_with t (b ∷ bs) = b == identifier t

-- ---- booleans: 8.2 and 11.1

abbrev pub boolean_octets : Bool → List ℕ
boolean_octets b = (if b then 0xff else 0) ∷ []

-- ---- integers: 8.3

-- the first digit is not 0
abbrev pub leads : List ℕ → Bool
leads [] = true
leads (d ∷ ds) = nat_lt 0 d

-- a number's digits to the base 256, highest first; none for 0
pub record IsDigits (ds : List ℕ) : Type 0 where
  pub below : AllByRecursion (λ d. d < 256) ds
  pub first : IsTrue (leads ds)

-- a number that is not negative: its first bit is 0, in the fewest octets
abbrev pub unsigned_octets : List ℕ → List ℕ
unsigned_octets [] = 0 ∷ []
unsigned_octets (d ∷ ds) = if nat_lt d 0x80 then d ∷ ds else 0 ∷ d ∷ ds

-- The two's complement of the number n with these digits; of -1 - n, where it is negative: each bit of n's is turned.
abbrev pub integer_octets : Bool → List ℕ → List ℕ
integer_octets negative ds = if negative then map (λ d. 255 - d) (unsigned_octets ds) else unsigned_octets ds

pub record IsInteger (negative : Bool) (content : List ℕ) : Type 0 where
  pub digits : List ℕ
  pub are : IsDigits digits
  pub octets : content ≡ integer_octets negative digits

-- ---- bit strings: 8.6 and 11.2.1

-- no octet, and none of its bits unused; or as many low bits of the last octet are 0
abbrev pub is_padded : ℕ → List ℕ → Bool
is_padded unused bs = if length bs == 0 then unused == 0 else slice_index bs (length bs - 1) % 2 ^ unused == 0

-- 8.6.2.2: how many bits of the last octet are unused, and then the octets
pub record IsBitString (unused : ℕ) (bs content : List ℕ) : Type 0 where
  pub octets : content ≡ unused ∷ bs
  pub unused_limit : unused < 8
  pub padded : IsTrue (is_padded unused bs)

-- ---- object identifiers: 8.19

-- a subidentifier by its digits to the base 128, highest first: each but the last with its high bit set
abbrev pub subidentifier : List ℕ → List ℕ
subidentifier [] = []
subidentifier (d ∷ []) = d ∷ []
subidentifier (d ∷ e ∷ ds) = (128 + d) ∷ subidentifier (e ∷ ds)

-- 8.19.2: it has a digit, and its first is 0 only where it is the only one
abbrev pub is_shortest : List ℕ → Bool
is_shortest [] = false
is_shortest (d ∷ []) = true
is_shortest (d ∷ e ∷ ds) = nat_lt 0 d

pub record IsSubidentifier (ds : List ℕ) : Type 0 where
  pub below : AllByRecursion (λ d. d < 128) ds
  pub shortest : IsTrue (is_shortest ds)

abbrev pub subidentifiers : List (List ℕ) → List ℕ
subidentifiers [] = []
subidentifiers (ds ∷ others) = subidentifier ds ++ subidentifiers others

-- one or more subidentifiers, one after the other
pub record IsObjectIdentifier (content : List ℕ) : Type 0 where
  pub first : List ℕ
  pub others : List (List ℕ)
  pub are : AllByRecursion IsSubidentifier (first ∷ others)
  pub octets : content ≡ subidentifiers (first ∷ others)
