-- PINs: CTAP 2.1, section 6.5.1.
use Rattle.std.specs.Prelude.{ℕ, ◌-◌, List, ◌++◌, length, take, replicate, count_by, Bool, false, ◌||◌, nat_lt, nat_le, Option, Some, None, if◌then◌else◌, ◌==◌, slice_get}
use Rattle.sha2.specs.Sha256.{sha256}
use Rattle.pin_protocols.specs.declared.pin.PinFault.{PinFault}
use Rattle.pin_protocols.specs.declared.pin.PinFault.TheVariants as faults

-- how many code points a text has: the bytes of its UTF-8 that are not 0x80 to 0xbf, which go on with one (RFC 3629,
-- section 3)
abbrev pub code_points : List ℕ → ℕ
code_points pin = count_by (λ b. nat_lt b 0x80 || nat_le 0xc0 b) pin

abbrev pub is_zero : Option ℕ → Bool
is_zero (Some b) = b == 0
is_zero None = false

abbrev pub ends_in_zero : List ℕ → Bool
ends_in_zero pin = is_zero (slice_get pin (length pin - 1))

-- why it can't be a new PIN where the key wants so many code points, the first that applies
abbrev pub pin_fault : ℕ → List ℕ → Option PinFault
pin_fault min pin =
    if nat_lt (code_points pin) min then Some faults.TooShort
    else if nat_lt 63 (length pin) then Some faults.TooLong
    else if ends_in_zero pin then Some faults.EndsInZero
    else None

-- LEFT(SHA-256(PIN), 16) (6.5.5.6, 6.5.5.7)
abbrev pub pin_hash : List ℕ → List ℕ
pin_hash pin = take 16 (sha256 pin)

-- a new PIN, padded on the right with zeros to 64 bytes (6.5.5.5)
abbrev pub padded : List ℕ → List ℕ
padded pin = take 64 (pin ++ replicate 64 0)
