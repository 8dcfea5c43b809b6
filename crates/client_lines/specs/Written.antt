-- What the text of an answer says: a JSON object with the number of the line, the packets to send, the state, and what stands
-- beside it, each member whole.
use Rattle.std.specs.Prelude.{◌≡◌, ℕ, List, [], Option, Some, None, Result, Ok, Err, codes, map, string_bytes}
use Rattle.hidframe.specs.declared.Packet.{Packet}
use Rattle.json_lines.specs.Written.{IsTextOf, base64url, natural, number_or_null}
use Rattle.client_ceremony.specs.Names.{refusal_name}
use Rattle.client_ceremony.specs.declared.refusal.Refusal.TheVariants as key
use Rattle.pin_protocols.specs.Asks.{operation_name}
use Rattle.pin_protocols.specs.declared.ask.Ask.{Ask}
use Rattle.serde_json.specs.Data.{Data, Members, array, boolean, no_members, object, put, string}
use Rattle.serde_json.specs.View.{items_of, members_view, view}
use Rattle.client_lines.specs.declared.answer.Answer.{Answer}
use Rattle.client_lines.specs.declared.answer.Answer.TheVariants as answers
use Rattle.client_lines.specs.declared.answer.Told.{Told}
use Rattle.client_lines.specs.declared.fault.Fault.{Fault}
use Rattle.client_lines.specs.declared.machine.Client.{Client}
use Rattle.client_lines.specs.declared.ceremony.Ceremony.{Ceremony}
use Rattle.client_lines.specs.declared.refused.Refused.{Refused}
use Rattle.client_lines.specs.declared.refused.Refused.TheVariants as refusals
use Rattle.client_lines.specs.declared.stepping.Awaits.{Awaits}
use Rattle.client_lines.specs.declared.stepping.Awaits.TheVariants as awaits

-- ---- names

abbrev pub state_name : Answer → List ℕ
state_name answers.Waits = codes "waits"
state_name answers.Works = codes "waits"
state_name answers.Touch = codes "touch"
state_name (answers.NeedsPin retries wrong) = codes "needs_pin"
state_name answers.Asks = codes "asks"
state_name (answers.Chooses told) = codes "choose"
state_name (answers.Registered told) = codes "registered"
state_name (answers.SignedIn told) = codes "signed_in"
state_name (answers.Informs told) = codes "information"
state_name answers.PinIsSet = codes "pin_set"
state_name (answers.Refused why) = codes "refused"

abbrev pub refused_name : Refused → List ℕ
refused_name refusals.BadOrigin = codes "bad_origin"
refused_name refusals.RpIdNotOfOrigin = codes "rp_id_not_of_origin"
refused_name refusals.Unfit = codes "unfit"
refused_name refusals.Cancelled = codes "cancelled"
refused_name (refusals.DeviceError code) = codes "device_error"
refused_name refusals.ChannelDead = codes "channel_dead"
refused_name (refusals.Client why) = refusal_name why

-- ---- what stands beside the state

-- the status of a request that was cancelled (CTAP 2.1, section 8.2), and one that has no name
abbrev pub status_of : Refused → Option ℕ
status_of refusals.Cancelled = Some 45
status_of (refusals.Client (key.Status status)) = Some status
status_of _ = None

-- the code of an error of CTAPHID
abbrev pub code_of : Refused → Option ℕ
code_of (refusals.DeviceError code) = Some code
code_of _ = None

-- a number, where it is there
abbrev pub with_number : List ℕ → Option ℕ → Members → Members
with_number name None ms = ms
with_number name (Some n) ms = put name (natural n) ms

abbrev pub refused_members : Refused → List ℕ → Members
refused_members why text =
    with_number (codes "code") (code_of why) (with_number (codes "status") (status_of why)
    (put (codes "text") (string text) (put (codes "name") (string (refused_name why)) no_members)))

abbrev pub ask_members : Ask → Members
ask_members a =
    put (codes "text") (base64url a.text.items) (put (codes "iv") (base64url a.iv.items) (put (codes "key") (base64url a.key.items)
    (put (codes "operation") (string (operation_name a.operation)) no_members)))

-- what the host is asked for, where it is asked
abbrev pub asked_members : Option Ask → Members
asked_members None = no_members
asked_members (Some a) = ask_members a

-- what stands beside an answer's state; of a text that says why, some text
abbrev pub Beside : Option Ask → Answer → Members → Type 0
Beside asked answers.Waits ms = ms ≡ no_members
Beside asked answers.Works ms = ms ≡ put (codes "keepalive") (string (codes "processing")) no_members
Beside asked answers.Touch ms = ms ≡ no_members
Beside asked (answers.NeedsPin retries wrong) ms =
    ms ≡ put (codes "wrong") (boolean wrong) (put (codes "retries") (number_or_null retries) no_members)
Beside asked answers.Asks ms = ms ≡ asked_members asked
Beside asked (answers.Chooses told) ms = ms ≡ put (codes "credentials") (view told.value) no_members
Beside asked (answers.Registered told) ms = ms ≡ put (codes "response") (view told.value) no_members
Beside asked (answers.SignedIn told) ms = ms ≡ put (codes "response") (view told.value) no_members
Beside asked (answers.Informs told) ms = ms ≡ members_view told.members.entries
Beside asked answers.PinIsSet ms = ms ≡ no_members
Beside asked (answers.Refused why) ms = (text : List ℕ) × (ms ≡ refused_members why text)

-- ---- lines out

abbrev pub packet_list : List Packet → Data
packet_list ps = array (items_of (map (λ p. base64url p.0) ps))

abbrev pub answered : Option ℕ → List Packet → List ℕ → Members → Data
answered id ps state ms =
    object (put (codes "id") (number_or_null id) (put (codes "send") (packet_list ps) (put (codes "state") (string state) ms)))

-- what is written of an answer, or of why a line has no effect
abbrev pub Writes : Option Ask → Option ℕ → Result Told Fault → Data → Type 0
Writes asked id (Ok told) d = (ms : Members) × Beside asked told.answer ms × (d ≡ answered id told.send.items (state_name told.answer) ms)
Writes asked id (Err fault) d = (text : List ℕ) × (d ≡ answered id [] (codes "error") (put (codes "text") (string text) no_members))

-- what the host is asked to compute by the act that is under way
abbrev pub awaited : Awaits → Option Ask
awaited (awaits.Computed ask) = Some ask
awaited _ = None

abbrev pub asked_in : Option Ceremony → Option Ask
asked_in None = None
asked_in (Some ceremony) = awaited ceremony.awaits
