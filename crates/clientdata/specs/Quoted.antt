-- Texts as they stand in serialised client data (CCDToString of WebAuthn Level 2, section 5.8.1.1).
use Rattle.std.specs.Prelude.{ℕ, ◌/◌, ◌%◌, ◌==◌, nat_lt, List, [], ◌∷◌, ◌++◌, codes, if◌then◌else◌, encode_utf8, flat_map, chars}
use Rattle.std.specs.Char.{digit_char}

-- four lower-case hex digits
abbrev pub four_hex_digits : ℕ → List ℕ
four_hex_digits n = digit_char (n / 4096 % 16) ∷ digit_char (n / 256 % 16) ∷ digit_char (n / 16 % 16) ∷ digit_char (n % 16) ∷ []

-- a code point: a quotation mark or a backslash after a backslash, one below U+0020 as `\u` and its
-- hex digits, every other one in UTF-8
abbrev pub escaped : ℕ → List ℕ
escaped c = if c == 34 then codes "\\\"" else (if c == 92 then codes "\\\\" else (if nat_lt c 0x20 then codes "\\u" ++ four_hex_digits c else encode_utf8 c))

-- a text's code points between quotation marks
unfoldable pub quoted : List ℕ → List ℕ
quoted text = codes "\"" ++ flat_map escaped (chars text) ++ codes "\""
