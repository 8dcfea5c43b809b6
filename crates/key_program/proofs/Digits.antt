-- Hex text of a known size.
use Rattle.std.proofs.Common.{◌≡◌, ◌∙◌, ℕ, List, Ok, sym}
use Rattle.hex.specs.Hex.{decode_of, decode_sized}
use Rattle.hex.proofs.HexLemmas.{decode_sized-ok, decode_sized-twice}

pub of_size : (word bytes : List ℕ) (n : ℕ) → decode_sized word n ≡ Ok bytes → decode_of word ≡ Ok bytes
of_size word bytes n h = sym (decode_sized-twice word n (decode_sized-ok word n bytes h)) ∙ h
