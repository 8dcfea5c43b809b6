-- The pieces of serialised client data around the challenge, and texts that are written as they are. Private functions
-- are proved against these.
use Rattle.std.specs.Prelude.{◌≡◌, ◌≢◌, ◌≤◌, ◌<◌, ℕ, Bool, List, ◌++◌, codes, length, slice_index}
use Rattle.clientdata.specs.declared.record.CeremonyType.{CeremonyType}
use Rattle.clientdata.specs.Quoted.{quoted}
use Rattle.clientdata.specs.Serialised.{truth_of, type_of}

-- up to the challenge's first character
unfoldable pub before_challenge : CeremonyType → List ℕ
before_challenge kind = codes "{\"type\":" ++ quoted (type_of kind) ++ codes ",\"challenge\":\""

-- from the end of the challenge to before the last member's value
unfoldable pub after_challenge : List ℕ → List ℕ
after_challenge origin = codes "\",\"origin\":" ++ quoted origin ++ codes ",\"crossOrigin\":"

-- what stands after the challenge
abbrev pub IsAfterChallenge : List ℕ → Bool → List ℕ → Type 0
IsAfterChallenge origin cross rest = rest ≡ after_challenge origin ++ (truth_of cross ++ codes "}")

-- a byte that is an ASCII character and stands for itself between quotation marks
abbrev pub IsPlain : ℕ → Type 0
IsPlain byte = (0x20 ≤ byte) × (byte < 0x80) × (byte ≢ 34) × (byte ≢ 92)

abbrev pub ArePlain : List ℕ → Type 0
ArePlain bytes = (i : ℕ) → i < length bytes → IsPlain (slice_index bytes i)
