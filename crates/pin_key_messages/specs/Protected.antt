-- What a makeCredential or getAssertion says of the user's verification, and the same request without it: CTAP 2.1, sections
-- 6.1 and 6.2. Members that are not listed may be there.
use Rattle.std.specs.Prelude.{◌≡◌, ◌⊎◌, ℕ, List, [], ◌∷◌, Bool, true, false, ◌||◌, Option, Some, None, option_map, codes, if◌then◌else◌}
use Rattle.ccbor.specs.Item as of
use Rattle.ccbor.specs.Item.{Item, Pairs, no_pairs, pair}
use Rattle.ccbor.specs.Access.{is_same_key}
use Rattle.ccbor.specs.Canon.{Canon}
use Rattle.ctap_encoding.specs.Table.{Members, no_more, listed, a_truth, some_bytes, unsigned, record_of}
use Rattle.ctap_encoding.specs.Content.{Contents}
use Rattle.ctap_requests.specs.Entities.{CreationFlags, AssertionFlags}
use Rattle.ctap_requests.specs.Requests.{RequestMessage, make_credential, get_assertion, get_next_assertion, get_info, reset}
use Rattle.ctap_requests.specs.Status as requests
use Rattle.ctap_encoding.specs.declared.error.Error.{Error}
use Rattle.ctap_encoding.specs.declared.error.Error.TheVariants as errors
use Rattle.ctap_open_replies.specs.Telling.{Tells}
use Rattle.pin_key_messages.specs.Asking.{Says, Untold}

-- ---- pinUvAuthParam

pub record Flags : Type 0 where
  pub up : Option Bool
  pub uv : Option Bool

pub record Protection : Type 0 where
  pub options : Option Flags
  pub param : Option (List ℕ)
  pub protocol : Option ℕ

abbrev pub flag_members : Members
flag_members =
    listed (of.text (codes "up")) false a_truth (
    listed (of.text (codes "uv")) false a_truth no_more)

abbrev pub flag_content : Flags → Contents flag_members
flag_content f = (f.up, (f.uv, tt))

-- options, pinUvAuthParam and pinUvAuthProtocol by their numbers
abbrev pub protection_members : ℕ → ℕ → ℕ → Members
protection_members options param protocol =
    listed (of.uint options) false (record_of flag_members) (
    listed (of.uint param) false some_bytes (
    listed (of.uint protocol) false (unsigned 0) no_more))

abbrev pub protection_content : (options param protocol : ℕ) → Protection → Contents (protection_members options param protocol)
protection_content options param protocol q = (option_map flag_content q.options, (q.param, (q.protocol, tt)))

abbrev pub TellsProtection : ℕ → ℕ → ℕ → Protection → Item → Type 0
TellsProtection options param protocol q v = Tells (record_of (protection_members options param protocol)) (protection_content options param protocol q) v

abbrev pub SaysProtection : Protection → List ℕ → Type 0
SaysProtection q bs = Says 1 (TellsProtection 7 8 9) q bs ⊎ Says 2 (TellsProtection 5 6 7) q bs

-- this, and nothing else
pub record IsProtection (q : Protection) (bs : List ℕ) : Type 0 where
  pub spelled : SaysProtection q bs
  pub only : (r : Protection) → SaysProtection r bs → r ≡ q

-- another command (0x01); else no canonical value, or one that isn't of the table
abbrev pub RefusedProtection : List ℕ → Error → Type 0
RefusedProtection bs (errors.Status s) =
    ((s ≡ 0x01) × ((command : ℕ) (rest : List ℕ) → bs ≡ command ∷ rest → (command ≡ 1) ⊎ (command ≡ 2) → ⊥))
    ⊎ (Untold 1 (protection_members 7 8 9) bs s ⊎ Untold 2 (protection_members 5 6 7) bs s)
RefusedProtection bs _ = ⊥

-- ---- the request without these two members

abbrev pub without : ℕ → ℕ → Pairs → Pairs
without m n no_pairs = no_pairs
without m n (pair k v ps) =
    if is_same_key k (of.uint m) || is_same_key k (of.uint n) then without m n ps else pair k v (without m n ps)

-- the same command byte, and the canonical encoding of the map without its members m and n
abbrev pub IsWithout : ℕ → ℕ → ℕ → List ℕ → List ℕ → Type 0
IsWithout command m n bs bare =
    (rest more : List ℕ) × (ps : Pairs) × (bs ≡ command ∷ rest) × Canon (of.map ps) rest
    × (bare ≡ command ∷ more) × Canon (of.map (without m n ps)) more

abbrev pub IsUnprotected : List ℕ → List ℕ → Type 0
IsUnprotected bs bare = IsWithout 1 8 9 bs bare ⊎ IsWithout 2 6 7 bs bare

-- the status that answers anything but such a request
abbrev pub RefusedPart : List ℕ → Error → Type 0
RefusedPart bs errors.Memory = Unit {0}
RefusedPart bs errors.Unfit = Unit {0}
RefusedPart bs (errors.Status s) =
    (s ≡ 0x01) ⊎ ((s ≡ 0x12) ⊎ ((s ≡ 0x11) ⊎ ((bare : List ℕ) × IsUnprotected bs bare × requests.Refused bare (errors.Status s))))
RefusedPart bs _ = ⊥

-- ---- with option uv true

abbrev pub creation_flags : Option CreationFlags → CreationFlags
creation_flags None = record { rk = None; up = None; uv = None }
creation_flags (Some f) = f

abbrev pub assertion_flags : Option AssertionFlags → AssertionFlags
assertion_flags None = record { up = None; uv = None }
assertion_flags (Some f) = f

abbrev pub verified : RequestMessage → RequestMessage
verified (make_credential q) = make_credential (record q { options = Some (record (creation_flags q.options) { uv = Some true }) })
verified (get_assertion q) = get_assertion (record q { options = Some (record (assertion_flags q.options) { uv = Some true }) })
verified get_next_assertion = get_next_assertion
verified get_info = get_info
verified reset = reset

-- ---- what a token is asked to grant

-- 1, mc, or 2, ga (section 6.5.5.7)
abbrev pub permission : RequestMessage → ℕ
permission (make_credential q) = 1
permission _ = 2

abbrev pub rp_id : RequestMessage → List ℕ
rp_id (make_credential q) = q.rp.id
rp_id (get_assertion q) = q.rp_id
rp_id _ = []

abbrev pub client_data_hash : RequestMessage → List ℕ
client_data_hash (make_credential q) = q.client_data_hash
client_data_hash (get_assertion q) = q.client_data_hash
client_data_hash _ = []
