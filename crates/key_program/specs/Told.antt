-- What is answered of an act, line by line: docs/KEY.md has the lines.
use Rattle.std.specs.Prelude.{ℕ, List, [], ◌∷◌, ◌++◌, codes, map, Option, Some, None}
use Rattle.std.specs.Int.{to_be_bytes, w32}
use Rattle.std.specs.List.{concat}
use Rattle.hex.specs.Hex.{encode_lower}
use Rattle.cose.specs.declared.key.SigningAlg.{SigningAlg}
use Rattle.cose.specs.declared.key.SigningAlg.TheVariants as algs
use Rattle.hidframe.specs.declared.Packet.{Packet}
use Rattle.hidlink.specs.declared.transaction.DeviceEvent.{DeviceEvent}
use Rattle.hidlink.specs.declared.transaction.DeviceEvent.TheVariants as events
use Rattle.authenticator.specs.Signing.{message_of}
use Rattle.authenticator.specs.declared.pending.Pending.{Pending}
use Rattle.pin_protocols.specs.Asks.{operation_name}
use Rattle.pin_protocols.specs.declared.ask.Ask.{Ask}
use Rattle.key_device.specs.declared.stage.Told.{Told}
use Rattle.key_device.specs.declared.stage.Told.TheVariants as told

-- bytes in hex after a word, in a line
abbrev pub line_of : List ℕ → List ℕ → List ℕ
line_of word bytes = word ++ (encode_lower bytes ++ codes "\n")

abbrev pub channel_line : List ℕ → ℕ → List ℕ
channel_line word cid = line_of word (to_be_bytes w32 cid)

-- the packets to send
abbrev pub packet_line : Packet → List ℕ
packet_line p = line_of (codes "out ") p.0

abbrev pub packet_lines : List Packet → List ℕ
packet_lines packets = concat (map packet_line packets)

-- what the device told
abbrev pub event_line : DeviceEvent → List ℕ
event_line events.Quiet = []
event_line (events.Request cid) = channel_line (codes "waits ") cid
event_line events.Cancelled = codes "cancelled\n"
event_line events.Aborted = codes "aborted\n"

-- what is to be signed
abbrev pub alg_word : SigningAlg → List ℕ
alg_word algs.Es256 = codes "-7 "
alg_word algs.EdDsa = codes "-8 "

abbrev pub sign_line : Pending → List ℕ
sign_line p = codes "sign " ++ (alg_word p.alg ++ (encode_lower p.secret ++ (codes " " ++ (encode_lower (message_of p) ++ codes "\n"))))

-- bytes in hex, or none as -
abbrev pub hex_or_none : List ℕ → List ℕ
hex_or_none [] = codes "-"
hex_or_none (b ∷ bytes) = encode_lower (b ∷ bytes)

abbrev pub spaced : List ℕ → List ℕ
spaced bytes = codes " " ++ hex_or_none bytes

-- what is to be computed
abbrev pub ask_line : Ask → List ℕ
ask_line a = codes "ask " ++ (operation_name a.operation ++ (spaced a.key.items ++ (spaced a.iv.items ++ (spaced a.text.items ++ codes "\n"))))

-- what an act came to, of a key that asks for this, and of which this waits for its signature
abbrev pub ask_lines : Option Ask → List ℕ
ask_lines None = []
ask_lines (Some a) = ask_line a

abbrev pub sign_lines : Option Pending → List ℕ
sign_lines None = []
sign_lines (Some p) = sign_line p

abbrev pub act_lines : Told → Option Ask → Option Pending → List ℕ
act_lines (told.Event event) ask pending = event_line event
act_lines (told.Computes cid) ask pending = channel_line (codes "computes ") cid
act_lines told.Asks ask pending = ask_lines ask
act_lines told.Signs ask pending = sign_lines pending
