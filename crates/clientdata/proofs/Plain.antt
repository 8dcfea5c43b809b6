-- Texts in which each byte stands for itself between quotation marks; the texts of challenges are.
use Rattle.std.proofs.Common.{◌≡◌, ◌<◌, ◌&&◌, ◌+◌, ◌*◌, ◌/◌, ◌%◌, Bool, true, false, not, ℕ, zero, suc, List, [], ◌∷◌, ◌++◌, refl, append-nil, arith}
use Rattle.std.proofs.Common.{slice_index}
use Rattle.std.specs.List.{AllByRecursion}
use Rattle.std.specs.Prelude.{IsAscii, codes, flat_map, nat_lt, ◌==◌}
use Rattle.std.proofs.lemmas.Bool.{and_parts, eqb-false, ltb-true, ne_eqb, le-ltb}
use Rattle.std.proofs.lemmas.Str.{chars-IsAscii, encode_ascii}
use Rattle.base64.specs.Engines.{url_safe_no_pad}
use Rattle.base64.specs.GeneralPurpose.{IsBytes, engine_symbols}
use Rattle.base64.specs.Rfc4648.{encode_symbols}
use Rattle.clientdata.specs.Expected.{ArePlain, IsPlain}
use Rattle.clientdata.specs.Quoted.{escaped, quoted}
use Rattle.clientdata.specs.Serialised.{challenge_text_of, type_of}
use Rattle.clientdata.specs.declared.record.CeremonyType.{CeremonyType}
use Rattle.clientdata.specs.declared.record.CeremonyType.TheVariants.{Create, Get}

escaped_plain : (byte : ℕ) → IsPlain byte → escaped byte ≡ byte ∷ []
escaped_plain byte is = rw (ne_eqb byte 34 is.2, ne_eqb byte 92 is.3, le-ltb byte 0x20 is.0) (encode_ascii byte is.1)

behind_first : (byte : ℕ) (bytes : List ℕ) → ArePlain (byte ∷ bytes) → ArePlain bytes
behind_first byte bytes are = λ i lt. are (suc i) (omega (arith, lt))

escaped_all : (bytes : List ℕ) → ArePlain bytes → flat_map escaped bytes ≡ bytes
escaped_all [] are = refl
escaped_all (byte ∷ bytes) are =
    let first = escaped_plain byte (are 0 (omega arith)) in
    let rest = escaped_all bytes (behind_first byte bytes are) in
    rw (first, rest) refl

ascii : (bytes : List ℕ) → ArePlain bytes → IsAscii bytes
ascii [] are i = omega arith
ascii (byte ∷ bytes) are zero = (are 0 (omega arith)).1
ascii (byte ∷ bytes) are (suc i) = ascii bytes (behind_first byte bytes are) i

pub quoted_plain : (bytes : List ℕ) → ArePlain bytes → quoted bytes ≡ codes "\"" ++ (bytes ++ codes "\"")
unfolding quoted
quoted_plain bytes are = rw (chars-IsAscii bytes (ascii bytes are), escaped_all bytes are) refl

-- ---- the texts of challenges

abbrev is_plain : ℕ → Bool
is_plain byte = nat_lt 31 byte && nat_lt byte 128 && not (byte == 34) && not (byte == 92)

plain_from : (byte : ℕ) → is_plain byte ≡ true → IsPlain byte
plain_from byte e =
    let p = and_parts (nat_lt 31 byte && nat_lt byte 128 && not (byte == 34)) (not (byte == 92)) e in
    let q = and_parts (nat_lt 31 byte && nat_lt byte 128) (not (byte == 34)) p.0 in
    let r = and_parts (nat_lt 31 byte) (nat_lt byte 128) q.0 in
    (ltb-true 31 byte r.0, ltb-true byte 128 r.1, eqb-false byte 34 (not-true _ q.1), eqb-false byte 92 (not-true _ p.1))
  where
    not-true : (b : Bool) → not b ≡ true → b ≡ false
    not-true true e = absurd (cc)
    not-true false e = refl

index : (bytes : List ℕ) → AllByRecursion IsPlain bytes → ArePlain bytes
index [] all i h = absurd (omega (arith, h))
index (byte ∷ bytes) all zero h = all.0
index (byte ∷ bytes) all (suc i) h = index bytes all.1 i (omega (arith, h))

-- texts that can be computed
abbrev are_plain : List ℕ → Bool
are_plain [] = true
are_plain (byte ∷ bytes) = is_plain byte && are_plain bytes

all_here : (bytes : List ℕ) → are_plain bytes ≡ true → AllByRecursion IsPlain bytes
all_here [] e = tt
all_here (byte ∷ bytes) e = let p = and_parts (is_plain byte) (are_plain bytes) e in (plain_from byte p.0, all_here bytes p.1)

pub type_plain : (kind : CeremonyType) → ArePlain (type_of kind)
type_plain Create = index (type_of Create) (all_here (type_of Create) refl)
type_plain Get = index (type_of Get) (all_here (type_of Get) refl)

abbrev table : List ℕ
table = engine_symbols url_safe_no_pad

symbol : (i : ℕ) → i < 64 → IsPlain (slice_index table i)
symbol i h = index table (all_here table refl) i (omega (arith, h))

symbols : (m : List ℕ) → IsBytes m → AllByRecursion IsPlain (encode_symbols table m)
unfolding encode_symbols
symbols [] are = tt
symbols (a ∷ []) are =
    let x : a < 256 = are 0 in
    (symbol (a / 4) (omega arith), (symbol (a % 4 * 16) (omega arith), tt))
symbols (a ∷ b ∷ []) are =
    let x : a < 256 = are 0 in
    let y : b < 256 = are 1 in
    (symbol (a / 4) (omega arith), (symbol (a % 4 * 16 + b / 16) (omega arith), (symbol (b % 16 * 4) (omega arith), tt)))
symbols (a ∷ b ∷ c ∷ rest) are =
    let x : a < 256 = are 0 in
    let y : b < 256 = are 1 in
    let z : c < 256 = are 2 in
    let last : AllByRecursion IsPlain (slice_index table (c % 64) ∷ encode_symbols table rest) =
    (symbol (c % 64) (omega arith), symbols rest (λ i. are (suc (suc (suc i))))) in
    (symbol (a / 4) (omega arith), (symbol (a % 4 * 16 + b / 16) (omega arith), (symbol (b % 16 * 4 + c / 64) (omega arith), last)))

pub challenge_plain : (challenge : List ℕ) → IsBytes challenge → ArePlain (challenge_text_of challenge)
unfolding challenge_text_of
challenge_plain challenge are = rw (append-nil (encode_symbols table challenge)) (index (encode_symbols table challenge) (symbols challenge are))
