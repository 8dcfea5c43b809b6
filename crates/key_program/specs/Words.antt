-- What a line says, by its words: docs/KEY.md has the lines.
use Rattle.std.specs.Prelude.{◌≡◌, ◌==◌, ◌⊎◌, ℕ, List, [], ◌∷◌, Bool, true, false, codes, Ok}
use Rattle.std.specs.List.{slice_split}
use Rattle.hex.specs.Hex.{decode_of}
use Rattle.authenticator.specs.declared.consent.Consent.{Consent}
use Rattle.authenticator.specs.declared.consent.Words.{Words}
use Rattle.authenticator.specs.declared.keys.HandedKeys.{HandedKeys}
use Rattle.key_pin.specs.declared.words.PinWords.{PinWords}
use Rattle.key_program.specs.declared.command.LineCommand.{LineCommand}
use Rattle.key_program.specs.declared.command.LineCommand.TheVariants as lines

-- the words of a line, with a space between each two
abbrev pub words_of : List ℕ → List (List ℕ)
words_of line = slice_split (λ b. b == 32) line

-- bytes in hex
abbrev pub IsHex : List ℕ → List ℕ → Type 0
IsHex bytes word = decode_of word ≡ Ok bytes

-- or none as -
abbrev pub IsHexOrNone : List ℕ → List ℕ → Type 0
IsHexOrNone bytes word = ((word ≡ codes "-") × (bytes ≡ [])) ⊎ IsHex bytes word

-- 1 for yes, 0 for no
abbrev pub IsFlag : Bool → List ℕ → Type 0
IsFlag true word = word ≡ codes "1"
IsFlag false word = word ≡ codes "0"

abbrev pub IsConsent : Consent → List ℕ → List ℕ → Type 0
IsConsent c present verified = IsFlag c.present present × IsFlag c.verified verified

abbrev pub IsRandom : Words → List ℕ → List ℕ → Type 0
IsRandom w id secret = IsHex w.id id × IsHex w.secret secret

abbrev pub AreKeys : HandedKeys → List ℕ → List ℕ → List ℕ → Type 0
AreKeys k es256_x es256_y eddsa_x = IsHex k.es256_x es256_x × IsHex k.es256_y es256_y × IsHex k.eddsa_x eddsa_x

abbrev pub AreWords : PinWords → List ℕ → List ℕ → List ℕ → List ℕ → Type 0
AreWords w secret x y token = IsHex w.secret secret × IsHex w.x x × IsHex w.y y × IsHex w.token token

-- a name, and what follows it
abbrev pub Says : LineCommand → List (List ℕ) → Type 0
Says (lines.Packet p) (name ∷ packet ∷ []) = (name ≡ codes "packet") × IsHex p.0 packet
Says (lines.Decide consent words keys) (name ∷ present ∷ verified ∷ id ∷ secret ∷ es256_x ∷ es256_y ∷ eddsa_x ∷ []) =
    (name ≡ codes "decide") × IsConsent consent present verified × IsRandom words id secret × AreKeys keys es256_x es256_y eddsa_x
Says lines.Wait (name ∷ []) = name ≡ codes "wait"
Says lines.Expire (name ∷ []) = name ≡ codes "expire"
Says (lines.Compute words) (name ∷ secret ∷ x ∷ y ∷ token ∷ []) = (name ≡ codes "compute") × AreWords words secret x y token
Says (lines.Answer answer) (name ∷ bytes ∷ []) = (name ≡ codes "answer") × IsHexOrNone answer.items bytes
Says (lines.Signature signature) (name ∷ bytes ∷ []) = (name ≡ codes "signature") × IsHex signature.items bytes
Says lines.Save (name ∷ []) = name ≡ codes "save"
Says (lines.Load bytes) (name ∷ word ∷ []) = (name ≡ codes "load") × IsHex bytes.items word
Says (lines.LoadPin bytes) (name ∷ word ∷ []) = (name ≡ codes "load-pin") × IsHex bytes.items word
Says lines.Power (name ∷ []) = name ≡ codes "power"
Says lines.Over (name ∷ []) = name ≡ codes "over"
Says _ _ = ⊥

-- the lines that only a key reads which takes PINs
abbrev pub is_of_pin : LineCommand → Bool
is_of_pin (lines.Compute words) = true
is_of_pin (lines.Answer answer) = true
is_of_pin (lines.LoadPin bytes) = true
is_of_pin lines.Power = true
is_of_pin lines.Over = true
is_of_pin _ = false
