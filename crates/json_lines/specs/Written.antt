-- Lines that are written.
use Rattle.std.specs.Prelude.{◌≡◌, ℕ, List, Option, Some, None}
use Rattle.base64.specs.GeneralPurpose.{encode_of}
use Rattle.base64.specs.Engines.{url_safe_no_pad}
use Rattle.json.specs.Lex.{tokens}
use Rattle.json.specs.Print.{print}
use Rattle.serde_json.specs.Data.{Data, null, number, string, unsigned}
use Rattle.serde_json.specs.Read.{read}

-- bytes, as a text in base64url without padding (RFC 4648, section 5)
abbrev pub base64url : List ℕ → Data
base64url bytes = string (encode_of url_safe_no_pad bytes)

abbrev pub natural : ℕ → Data
natural n = number (unsigned n)

-- a number, as that of a line; null where there is none
abbrev pub number_or_null : Option ℕ → Data
number_or_null None = null
number_or_null (Some n) = natural n

-- a text is this value's, with no space
abbrev pub IsTextOf : Data → List ℕ → Type 0
IsTextOf d text = (read text ≡ Some d) × (print (tokens text) ≡ text)
