-- Replies to authenticatorClientPIN as they are written: CTAP 2.1, section 6.5.5, in the message encoding of section 8.
use Rattle.std.specs.Prelude.{◌≡◌, ℕ, List, ◌∷◌}
use Rattle.ccbor.specs.Canon.{Canon}
use Rattle.ctap_encoding.specs.Table.{record_of}
use Rattle.ctap_encoding.specs.Content.{item_of}
use Rattle.pin_client_messages.specs.Replies.{Told, reply_content, reply_members}

-- status 0, and the canonical encoding of the map of the members that are answered
abbrev pub PinReplyBytes : Told → List ℕ → Type 0
PinReplyBytes q bs = (rest : List ℕ) × (bs ≡ 0 ∷ rest) × Canon (item_of (record_of reply_members) (reply_content q)) rest
