-- Why bytes begin with no element's encoding.
use Rattle.std.specs.Prelude.{◌≡◌, ◌≢◌, ℕ, ◌%◌, ◌^◌, ◌<◌, ◌≤◌, ◌⊎◌, List, [], ◌∷◌, ◌++◌, length}
use Rattle.der.specs.declared.error.Error.{Error}
use Rattle.der.specs.declared.error.Error.TheVariants as errors
use Rattle.der.specs.declared.tag.Tag.{Tag}
use Rattle.der.specs.Encoding.{identifier, length_octets, element, IsElement}

-- With more bytes after them, these are the length and the content of an element.
pub record IsCut (bs : List ℕ) : Type 0 where
  pub content : List ℕ
  pub more : List ℕ
  pub some : 0 < length more
  pub size : length content < 2 ^ 32
  pub whole : bs ++ more ≡ length_octets (length content) ++ content

-- 8.1.3.6, not allowed by 10.1: the content's end is marked
pub record IsIndefinite (bs : List ℕ) : Type 0 where
  pub rest : List ℕ
  pub parts : bs ≡ 0x80 ∷ rest

-- 8.1.3.5: more than four octets follow the first
pub record IsLong (bs : List ℕ) : Type 0 where
  pub first : ℕ
  pub rest : List ℕ
  pub parts : bs ≡ first ∷ rest
  pub above : 0x84 < first

-- 10.1: one octet follows, and its number has the short form; or up to four, the first of them 0
pub record IsNotShortest (bs : List ℕ) : Type 0 where
  pub first : ℕ
  pub second : ℕ
  pub rest : List ℕ
  pub parts : bs ≡ first ∷ second ∷ rest
  pub longer : ((first ≡ 0x81) × (second < 0x80)) ⊎ ((0x81 < first) × (first ≤ 0x84) × (second ≡ 0))

-- why no length and content stand here, after an identifier octet
abbrev pub NoContent : Error → List ℕ → Type 0
NoContent errors.Cut bs = IsCut bs
NoContent errors.BadLength bs = IsIndefinite bs
NoContent errors.TooLong bs = IsLong bs
NoContent errors.NotShortest bs = IsNotShortest bs
NoContent _ bs = ⊥

-- why no element begins with this octet and these bytes
abbrev pub NoElement : Error → ℕ → List ℕ → Type 0
NoElement errors.LongTag b bs = b % 32 ≡ 31
NoElement e b bs = (b % 32 ≢ 31) × NoContent e bs

-- why no element is at the front
abbrev pub Refused : Error → List ℕ → Type 0
Refused e [] = e ≡ errors.Cut
Refused e (b ∷ bs) = NoElement e b bs

-- why none of this tag is
abbrev pub NoneTagged : Tag → Error → ℕ → List ℕ → Type 0
NoneTagged t errors.OtherTag b bs = b ≢ identifier t
NoneTagged t e b bs = (b ≡ identifier t) × NoContent e bs

abbrev pub RefusedAs : Tag → Error → List ℕ → Type 0
RefusedAs t e [] = e ≡ errors.Cut
RefusedAs t e (b ∷ bs) = NoneTagged t e b bs

-- an element of this tag is at the front, and bytes follow it
pub record BeginsWith (t : Tag) (bs : List ℕ) : Type 0 where
  pub content : List ℕ
  pub rest : List ℕ
  pub some : 0 < length rest
  pub fits : IsElement t content
  pub parts : bs ≡ element t content ++ rest
