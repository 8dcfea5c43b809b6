-- Members of a JSON object, over the reading of JSON that `serde_json` states.
use Rattle.std.specs.Prelude.{◌≡◌, ◌⊎◌, ℕ, Bool, List, [], map, Option, Some, None, option_and_then}
use Rattle.base64.specs.GeneralPurpose.{encode_of}
use Rattle.base64.specs.Engines.{url_safe_no_pad}
use Rattle.serde_json.specs.Data.{Data, array, boolean, null, number, object, string}
use Rattle.serde_json.specs.Find.{as_array, as_bool, as_number, as_str, as_u64, get}
use Rattle.serde_json.specs.View.{items_of}

abbrev pub not_null : Data → Option Data
not_null null = None
not_null (boolean b) = Some (boolean b)
not_null (number n) = Some (number n)
not_null (string s) = Some (string s)
not_null (array ds) = Some (array ds)
not_null (object ms) = Some (object ms)

-- the member of a name; none where it is absent or null
abbrev pub member : List ℕ → Data → Option Data
member name d = option_and_then not_null (get name d)

abbrev pub HasText : List ℕ → Data → List ℕ → Type 0
HasText name d text = option_and_then as_str (member name d) ≡ Some text

abbrev pub MayHaveText : List ℕ → Data → Option (List ℕ) → Type 0
MayHaveText name d None = member name d ≡ None
MayHaveText name d (Some text) = HasText name d text

abbrev pub HasNumber : List ℕ → Data → ℕ → Type 0
HasNumber name d n = option_and_then as_u64 (option_and_then as_number (member name d)) ≡ Some n

-- bytes, as a text in base64url without padding (RFC 4648, section 5)
abbrev pub IsBase64url : Data → List ℕ → Type 0
IsBase64url d bytes = as_str d ≡ Some (encode_of url_safe_no_pad bytes)

abbrev pub HasBytes : List ℕ → Data → List ℕ → Type 0
HasBytes name d bytes = (m : Data) × (member name d ≡ Some m) × IsBase64url m bytes

abbrev pub MayHaveBytes : List ℕ → Data → Option (List ℕ) → Type 0
MayHaveBytes name d None = member name d ≡ None
MayHaveBytes name d (Some bytes) = HasBytes name d bytes

-- true or false, which it is where it is absent
abbrev pub HasFlag : List ℕ → Data → Bool → Bool → Type 0
HasFlag name d absent flag = (option_and_then as_bool (member name d) ≡ Some flag) ⊎ ((member name d ≡ None) × (flag ≡ absent))

-- each value is the bytes beside it
abbrev pub AreBase64url : List Data → List (List ℕ) → Type 0
AreBase64url ds list = map as_str ds ≡ map (λ bytes. Some (encode_of url_safe_no_pad bytes)) list

-- a list of bytes, which is empty where it is absent
abbrev pub HasList : List ℕ → Data → List (List ℕ) → Type 0
HasList name d list =
    ((ds : List Data) × (option_and_then as_array (member name d) ≡ Some (items_of ds)) × AreBase64url ds list)
    ⊎ ((member name d ≡ None) × (list ≡ []))
