-- Reading from left to right, with the first fault that is met. Each function reads from the front of a list: what it
-- read and the bytes after it; or it reads a whole content.
use Rattle.std.specs.Prelude.{◌≡◌, ℕ, ◌+◌, ◌*◌, ◌/◌, ◌%◌, List, [], ◌∷◌, length, take, drop, true, false, Option, Some, None}
use Rattle.std.specs.Prelude.{Result, Ok, Err, nat_lt, ◌==◌, ◌&&◌, Bool, if◌then◌else◌}
use Rattle.der.specs.declared.error.Error.{Error}
use Rattle.der.specs.declared.error.Error.TheVariants as errors
use Rattle.der.specs.declared.tag.Class.{Class}
use Rattle.der.specs.declared.tag.Class.TheVariants as classes
use Rattle.der.specs.declared.tag.Tag.{Tag}
use Rattle.der.specs.Encoding.{identifier, is_padded}

abbrev pub Read : Type 0 → Type 0
Read A = Result (A × List ℕ) Error

infixl 10 ◌>>=◌
abbrev pub ◌>>=◌ : {A B : Type 0} → Result A Error → (A → Result B Error) → Result B Error
(Ok x) >>= f = f x
(Err e) >>= f = Err e

-- what a function answers, seen by view, is what reading gives
abbrev pub Gives : {X Y : Type 0} → (X → Y) → Result X Error → Result Y Error → Type 0
Gives view (Ok x) read = read ≡ Ok (view x)
Gives view (Err e) read = read ≡ Err e

abbrev pub octet_at : List ℕ → Read ℕ
octet_at [] = Err errors.Cut
octet_at (b ∷ bs) = Ok (b, bs)

-- ---- lengths

unfoldable pub octets_1_at : List ℕ → Read ℕ
octets_1_at bs = do
  n ← octet_at bs
  if nat_lt n.0 0x80 then Err errors.NotShortest else Ok n

unfoldable pub octets_2_at : List ℕ → Read ℕ
octets_2_at bs = do
  high ← octet_at bs
  if high.0 == 0 then Err errors.NotShortest else (do
    low ← octet_at high.1
    Ok (256 * high.0 + low.0, low.1))

unfoldable pub octets_3_at : List ℕ → Read ℕ
octets_3_at bs = do
  high ← octets_2_at bs
  low ← octet_at high.1
  Ok (256 * high.0 + low.0, low.1)

unfoldable pub octets_4_at : List ℕ → Read ℕ
octets_4_at bs = do
  high ← octets_3_at bs
  low ← octet_at high.1
  Ok (256 * high.0 + low.0, low.1)

abbrev pub long_at : ℕ → List ℕ → Read ℕ
long_at first bs =
    if first == 0x80 then Err errors.BadLength
    else if first == 0x81 then octets_1_at bs
    else if first == 0x82 then octets_2_at bs
    else if first == 0x83 then octets_3_at bs
    else if first == 0x84 then octets_4_at bs
    else Err errors.TooLong

unfoldable pub length_at : List ℕ → Read ℕ
length_at bs = do
  first ← octet_at bs
  if nat_lt first.0 0x80 then Ok first else long_at first.0 first.1

-- ---- elements

unfoldable pub content_at : List ℕ → Read (List ℕ)
content_at bs = do
  n ← length_at bs
  if nat_lt (length n.1) n.0 then Err errors.Cut else Ok (take n.0 n.1, drop n.0 n.1)

abbrev pub class_of : ℕ → Class
class_of n = if n == 0 then classes.Universal else if n == 1 then classes.Application else if n == 2 then classes.ContextSpecific else classes.Private

-- the tag of an identifier octet
abbrev pub tag_of : ℕ → Tag
tag_of b = record { class = class_of (b / 64); constructed = b / 32 % 2 == 1; number = b % 32 }

unfoldable pub element_at : List ℕ → Read (Tag × List ℕ)
element_at bs = do
  first ← octet_at bs
  if first.0 % 32 == 31 then Err errors.LongTag else (do
    c ← content_at first.1
    Ok ((tag_of first.0, c.0), c.1))

unfoldable pub tagged_at : Tag → List ℕ → Read (List ℕ)
tagged_at t bs = do
  first ← octet_at bs
  if first.0 == identifier t then content_at first.1 else Err errors.OtherTag

unfoldable pub optional_at : Tag → List ℕ → Read (Option (List ℕ))
optional_at t [] = Ok (None, [])
optional_at t (b ∷ bs) =
    if b == identifier t then (do
      c ← tagged_at t (b ∷ bs)
      Ok (Some c.0, c.1))
    else Ok (None, b ∷ bs)

unfoldable pub whole_at : Tag → List ℕ → Result (List ℕ) Error
whole_at t bs = do
  c ← tagged_at t bs
  if length c.1 == 0 then Ok c.0 else Err errors.Trailing

-- ---- contents

unfoldable pub boolean_in : List ℕ → Result Bool Error
boolean_in [] = Err errors.NotBoolean
boolean_in (b ∷ []) = if b == 0 then Ok false else if b == 0xff then Ok true else Err errors.NotBoolean
boolean_in (b ∷ c ∷ bs) = Err errors.NotBoolean

-- whether the integer is negative
unfoldable pub integer_in : List ℕ → Result Bool Error
integer_in [] = Err errors.Empty
integer_in (b ∷ []) = Ok (nat_lt 0x7f b)
integer_in (b ∷ c ∷ bs) =
    if b == 0 && nat_lt c 0x80 then Err errors.NotShortest
    else if b == 0xff && nat_lt 0x7f c then Err errors.NotShortest
    else Ok (nat_lt 0x7f b)

-- the digits
unfoldable pub unsigned_in : List ℕ → Result (List ℕ) Error
unsigned_in [] = Err errors.Empty
unsigned_in (b ∷ []) = if nat_lt 0x7f b then Err errors.Negative else if b == 0 then Ok [] else Ok (b ∷ [])
unsigned_in (b ∷ c ∷ bs) =
    if nat_lt 0x7f b then Err errors.Negative
    else if b == 0 then (if nat_lt c 0x80 then Err errors.NotShortest else Ok (c ∷ bs))
    else Ok (b ∷ c ∷ bs)

-- how many bits are unused, and the octets
unfoldable pub bit_string_in : List ℕ → Result (ℕ × List ℕ) Error
bit_string_in [] = Err errors.Empty
bit_string_in (u ∷ bs) =
    if nat_lt 7 u then Err errors.BadUnused
    else if is_padded u bs then Ok (u, bs)
    else if length bs == 0 then Err errors.BadUnused
    else Err errors.BadPadding

-- whether subidentifiers end here, as one begins or within one
unfoldable pub subidentifiers_in : Bool → List ℕ → Result Bool Error
subidentifiers_in begins [] = if begins then Ok true else Err errors.Cut
subidentifiers_in begins (b ∷ bs) =
    if begins && b == 0x80 then Err errors.NotShortest else subidentifiers_in (nat_lt b 0x80) bs

unfoldable pub object_identifier_in : List ℕ → Result (List ℕ) Error
object_identifier_in bs =
    if length bs == 0 then Err errors.Empty else (do
      b ← subidentifiers_in true bs
      Ok bs)
