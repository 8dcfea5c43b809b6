-- Requests of authenticatorClientPIN: CTAP 2.1, section 6.5.5. Members that are not listed may be there.
use Rattle.std.specs.Prelude.{◌≡◌, ◌⊎◌, ℕ, List, ◌∷◌, false, Option, Some, None, option_map}
use Rattle.ccbor.specs.Item as of
use Rattle.ccbor.specs.Item.{Item}
use Rattle.ccbor.specs.Canon.{Canon}
use Rattle.ctap_encoding.specs.Table.{Members, no_more, listed, a_text, some_bytes, unsigned, record_of}
use Rattle.ctap_encoding.specs.Content.{Contents}
use Rattle.ctap_encoding.specs.declared.error.Error.{Error}
use Rattle.ctap_encoding.specs.declared.error.Error.TheVariants as errors
use Rattle.ctap_open_replies.specs.Telling.{Tells}
use Rattle.pin_client_messages.specs.Commands.{key_members}
use Rattle.pin_client_messages.specs.Replies.{ToldKey, key_content}

-- ---- what a message says: a command byte, and the canonical encoding of a value that tells this

abbrev pub Says : {Q : Type 0} → ℕ → (Q → Item → Type 0) → Q → List ℕ → Type 0
Says command tells q bs = (rest : List ℕ) × (bs ≡ command ∷ rest) × (v : Item) × Canon v rest × tells q v

-- and nothing else of its kind
pub record IsSaid {Q : Type 0} (command : ℕ) (tells : Q → Item → Type 0) (q : Q) (bs : List ℕ) : Type 0 where
  pub spelled : Says command tells q bs
  pub only : (r : Q) → Says command tells r bs → r ≡ q

-- ---- the request's map

pub record Asking : Type 0 where
  pub protocol : Option ℕ
  pub subcommand : ℕ
  pub key : Option ToldKey
  pub param : Option (List ℕ)
  pub new_pin : Option (List ℕ)
  pub pin_hash : Option (List ℕ)
  pub permissions : Option ℕ
  pub rp_id : Option (List ℕ)

abbrev pub asked_members : Members
asked_members =
    listed (of.uint 1) false (unsigned 0) (
    listed (of.uint 2) false (unsigned 0) (
    listed (of.uint 3) false (record_of key_members) (
    listed (of.uint 4) false some_bytes (
    listed (of.uint 5) false some_bytes (
    listed (of.uint 6) false some_bytes (
    listed (of.uint 9) false (unsigned 0) (
    listed (of.uint 10) false a_text no_more)))))))

abbrev pub asked_content : Option ℕ → Asking → Contents asked_members
asked_content subcommand q = (
  q.protocol,
  (
    subcommand,
    (option_map key_content q.key, (q.param, (q.new_pin, (q.pin_hash, (q.permissions, (q.rp_id, tt)))))),
  ),
)

abbrev pub TellsAsking : Asking → Item → Type 0
TellsAsking q v = Tells (record_of asked_members) (asked_content (Some q.subcommand) q) v

-- ---- the status that answers bytes that are no such request (section 8.2)

-- after the command byte there is no canonical value (0x12), or one that isn't of the table (0x11)
abbrev pub Untold : ℕ → Members → List ℕ → ℕ → Type 0
Untold command ms bs s =
    ((s ≡ 0x12) × ((rest : List ℕ) × (bs ≡ command ∷ rest) × ((v : Item) → Canon v rest → ⊥)))
    ⊎ ((s ≡ 0x11)
    × ((rest : List ℕ) × (bs ≡ command ∷ rest) × (v : Item) × Canon v rest × ((c : Contents ms) → Tells (record_of ms) c v → ⊥)))

-- another command (0x01); then that; no subcommand (0x14)
abbrev pub Refused : List ℕ → Error → Type 0
Refused bs (errors.Status s) =
    ((s ≡ 0x01) × ((rest : List ℕ) → bs ≡ 6 ∷ rest → ⊥))
    ⊎ (Untold 6 asked_members bs s
    ⊎ ((s ≡ 0x14) × ((q : Asking) × Says 6 (λ r v. Tells (record_of asked_members) (asked_content None r) v) q bs)))
Refused bs _ = ⊥
