-- A new PIN as it comes, and the hash that is kept of it: CTAP 2.1, sections 6.5.1, 6.5.5.5 and 6.5.5.6.
use Rattle.std.specs.Prelude.{ℕ, zero, ◌==◌, ◌+◌, List, [], ◌∷◌, length, Bool, ◌&&◌, nat_le, Result, Ok, Err, if◌then◌else◌}
use Rattle.pin_protocols.specs.declared.protocol.Protocol.{Protocol}
use Rattle.pin_protocols.specs.declared.protocol.Protocol.TheVariants as protocols
use Rattle.pin_protocols.specs.Asks.{Asked}
use Rattle.pin_protocols.specs.Pins.{code_points, pin_hash}
use Rattle.pin_protocols.specs.Protocols.{SharedSecret}
use Rattle.key_pin.specs.Host.{Ending, refused, ◌>>=◌, decrypted}

-- how many bytes the ciphertext of so many has: by protocol two an IV of 16 stands in front
abbrev pub sealed_size : Protocol → ℕ → ℕ
sealed_size protocols.One n = n
sealed_size protocols.Two n = n + 16

abbrev pub without_zero : ℕ → List ℕ → List ℕ
without_zero zero [] = []
without_zero b rest = b ∷ rest

-- without the zeros at its end, by which a PIN is padded
abbrev pub unpadded : List ℕ → List ℕ
unpadded [] = []
unpadded (b ∷ bs) = without_zero b (unpadded bs)

-- a PIN has at least 4 code points, and at most 63 bytes
abbrev pub is_allowed : List ℕ → Bool
is_allowed pin = nat_le 4 (code_points pin) && nat_le (length pin) 63

abbrev pub kept_hash : List ℕ → Result (List ℕ) Ending
kept_hash pin = if is_allowed pin then Ok (pin_hash pin) else Err (refused 0x37)

-- what is kept of newPinEnc: 0x02 where it does not decrypt to 64 bytes, 0x37 where the PIN in them is not allowed
unfoldable pub new_hash : List (Asked × List ℕ) → Protocol → SharedSecret → List ℕ → Result (List ℕ) Ending
new_hash es protocol s sealed =
    if length sealed == sealed_size protocol 64
    then (do
      padded ← decrypted es protocol s sealed
      kept_hash (unpadded padded))
    else Err (refused 0x02)
