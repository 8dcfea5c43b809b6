-- The texts of the client data, and the hashes that tell them apart; so too of rp ids and of secrets.
use Rattle.std.proofs.Common.{◌≡◌, ◌≢◌, ℕ, List, codes, replicate, refl, sym, ◌∙◌, ap, arith}
use Rattle.std.specs.Prelude.{slice_index}
use Rattle.std.specs.Str.{chars}
use lib.Utf8.{encode}
use Rattle.sha2.specs.Sha256.{compress, digest_bytes, first_words, hash_after, rounds, schedule, sha256}
use Rattle.base64.proofs.OnLiterals.{base64_on_literals}
use Rattle.clientdata.specs.Quoted.{quoted}
use Rattle.clientdata.specs.Serialised.{challenge_text_of, client_data_front}
use Rattle.site_state.specs.Sessions.{challenge_of}
use Rattle.shown_runs.proofs.Accepting.{getting_text}
use Rattle.shown_runs.proofs.Values.{com_id, com_page, filled, org_id, org_page}

abbrev pub random : List ℕ
random = replicate 24 0

-- the client data of a sign-in in a session
abbrev pub get_text : List ℕ → ℕ → List ℕ
get_text page session = getting_text page (challenge_of session random)

-- what the hash of a text begins with
abbrev Begins : List ℕ → ℕ → Type 0
Begins text byte = slice_index (sha256 text) 0 ≡ byte

apart : (x y : List ℕ) (a b : ℕ) → Begins x a → Begins y b → a ≢ b → sha256 x ≢ sha256 y
apart x y a b begins also other same = other (sym begins ∙ ap (λ (h : List ℕ). slice_index h 0) same ∙ also)

-- ---- client data

abbrev first_text : List ℕ
first_text = codes "{\"type\":\"webauthn.get\",\"challenge\":\"AAAAAAAAAAMAAAAAAAAAAAAAAAAAAAAAAAAAAAAAAAA\",\"origin\":\"https://example.com\",\"crossOrigin\":false}"

first_is : get_text com_page 3 ≡ first_text
unfolding client_data_front challenge_text_of quoted chars encode base64_on_literals
first_is = refl

first_hash : Begins first_text 0xFE
unfolding first_words schedule rounds compress hash_after digest_bytes sha256
first_hash = refl

first_begins : Begins (get_text com_page 3) 0xFE
first_begins = ap (λ (t : List ℕ). slice_index (sha256 t) 0) first_is ∙ first_hash

abbrev second_text : List ℕ
second_text = codes "{\"type\":\"webauthn.get\",\"challenge\":\"AAAAAAAAAAQAAAAAAAAAAAAAAAAAAAAAAAAAAAAAAAA\",\"origin\":\"https://example.com\",\"crossOrigin\":false}"

second_is : get_text com_page 4 ≡ second_text
unfolding client_data_front challenge_text_of quoted chars encode base64_on_literals
second_is = refl

second_hash : Begins second_text 0x98
unfolding first_words schedule rounds compress hash_after digest_bytes sha256
second_hash = refl

second_begins : Begins (get_text com_page 4) 0x98
second_begins = ap (λ (t : List ℕ). slice_index (sha256 t) 0) second_is ∙ second_hash

abbrev third_text : List ℕ
third_text = codes "{\"type\":\"webauthn.get\",\"challenge\":\"AAAAAAAAAAIAAAAAAAAAAAAAAAAAAAAAAAAAAAAAAAA\",\"origin\":\"https://example.org\",\"crossOrigin\":false}"

third_is : get_text org_page 2 ≡ third_text
unfolding client_data_front challenge_text_of quoted chars encode base64_on_literals
third_is = refl

third_hash : Begins third_text 0x06
unfolding first_words schedule rounds compress hash_after digest_bytes sha256
third_hash = refl

third_begins : Begins (get_text org_page 2) 0x06
third_begins = ap (λ (t : List ℕ). slice_index (sha256 t) 0) third_is ∙ third_hash

pub two_texts : sha256 (get_text com_page 3) ≢ sha256 (get_text com_page 4)
two_texts = apart (get_text com_page 3) (get_text com_page 4) 0xFE 0x98 first_begins second_begins (omega arith)

pub texts_elsewhere : sha256 (get_text com_page 4) ≢ sha256 (get_text org_page 2)
texts_elsewhere = apart (get_text com_page 4) (get_text org_page 2) 0x98 0x06 second_begins third_begins (omega arith)

-- ---- relying parties and keys

com_begins : Begins (codes "example.com") 0xA3
unfolding first_words schedule rounds compress hash_after digest_bytes sha256
com_begins = refl

org_begins : Begins (codes "example.org") 0xBF
unfolding first_words schedule rounds compress hash_after digest_bytes sha256
org_begins = refl

one_begins : Begins (replicate 32 1) 0x72
unfolding first_words schedule rounds compress hash_after digest_bytes sha256
one_begins = refl

three_begins : Begins (replicate 32 3) 0x64
unfolding first_words schedule rounds compress hash_after digest_bytes sha256
three_begins = refl

pub two_parties : sha256 com_id ≢ sha256 org_id
two_parties = apart com_id org_id 0xA3 0xBF com_begins org_begins (omega arith)

pub two_secrets : sha256 (filled 1) ≢ sha256 (filled 3)
two_secrets = apart (filled 1) (filled 3) 0x72 0x64 one_begins three_begins (omega arith)
