-- Bytes that the program takes in hex (RFC 4648, section 8, in either case).
use Rattle.std.specs.Prelude.{◌≡◌, ℕ, List, not, ◌==◌, ◌||◌, filter, Option, Some, None, Ok}
use Rattle.hex.specs.Hex.{decode_of}

-- the text without spaces, tabs, carriage returns and line feeds
abbrev pub digits_of : List ℕ → List ℕ
digits_of text = filter (λ b. not (b == 32 || b == 9 || b == 13 || b == 10)) text

-- the bytes that hex states for them; none where it states none
abbrev pub IsRead : List ℕ → Option (List ℕ) → Type 0
IsRead text (Some bytes) = decode_of (digits_of text) ≡ Ok bytes
IsRead text None = (bytes : List ℕ) → decode_of (digits_of text) ≡ Ok bytes → ⊥
