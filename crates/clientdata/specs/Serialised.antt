-- The text of client data (WebAuthn Level 2, section 5.8.1.1), and its hash.
use Rattle.std.specs.Prelude.{◌≡◌, ℕ, Bool, false, List, ◌++◌, codes, if◌then◌else◌, string_bytes}
use Rattle.base64.specs.GeneralPurpose.{encode_of}
use Rattle.base64.specs.Engines.{url_safe_no_pad}
use Rattle.sha2.specs.Sha256.{sha256}
use Rattle.clientdata.specs.declared.record.CeremonyType.{CeremonyType}
use Rattle.clientdata.specs.declared.record.CeremonyType.TheVariants.{Create, Get}
use Rattle.clientdata.specs.declared.record.ClientData.{ClientData}
use Rattle.clientdata.specs.Quoted.{quoted}

-- the member `type` (section 5.8.1)
abbrev pub type_of : CeremonyType → List ℕ
type_of Create = codes "webauthn.create"
type_of Get = codes "webauthn.get"

-- bytes in base64url without padding (RFC 4648, sections 3.2 and 5)
unfoldable pub challenge_text_of : List ℕ → List ℕ
challenge_text_of = encode_of url_safe_no_pad

-- a truth value as JSON writes it (RFC 8259, section 3)
abbrev pub truth_of : Bool → List ℕ
truth_of value = if value then codes "true" else codes "false"

-- the text of a ceremony, a challenge, an origin and whether it is cross-origin, without the brace at its end
unfoldable pub client_data_front : CeremonyType → List ℕ → List ℕ → Bool → List ℕ
client_data_front kind challenge origin cross_origin =
    codes "{\"type\":" ++ quoted (type_of kind)
    ++ codes ",\"challenge\":" ++ quoted (challenge_text_of challenge)
    ++ codes ",\"origin\":" ++ quoted origin
    ++ codes ",\"crossOrigin\":" ++ truth_of cross_origin

-- the whole text
abbrev pub client_data_text : CeremonyType → List ℕ → List ℕ → Bool → List ℕ
client_data_text kind challenge origin cross_origin = client_data_front kind challenge origin cross_origin ++ codes "}"

-- a text that says `crossOrigin` is taken, or only one that says that it is not
abbrev pub MayCross : Bool → Bool → Type 0
MayCross taken cross = taken ≡ false → cross ≡ false

-- the same for a record: the text without its last brace, and whole
abbrev pub front_of : ClientData → List ℕ
front_of r = client_data_front r.kind r.challenge.items (string_bytes r.origin) r.cross_origin

abbrev pub text_of : ClientData → List ℕ
text_of r = client_data_text r.kind r.challenge.items (string_bytes r.origin) r.cross_origin

-- the hash of the serialized client data: SHA-256 (section 5.8.1; FIPS 180-4)
abbrev pub hash_of : List ℕ → List ℕ
hash_of = sha256
