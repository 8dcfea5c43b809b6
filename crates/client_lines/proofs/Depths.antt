-- How deep answers nest.
use Rattle.std.proofs.Common.{◌≡◌, ◌≤◌, ℕ, Bool, List, [], ◌∷◌, ◌++◌, codes, map, Option, Some, None, Ok, Err, Result, subst, sym, arith}
use Rattle.hidframe.specs.declared.Packet.{Packet}
use Rattle.json_lines.proofs.Depths.{put_within}
use Rattle.json_lines.specs.Written.{base64url, number_or_null}
use Rattle.pin_protocols.specs.declared.ask.Ask.{Ask}
use Rattle.serde_json.specs.Data.{Data, Members, boolean, depth, items_depth, members_depth, no_members, put, string}
use Rattle.serde_json.specs.Read.{max_depth}
use Rattle.serde_json.specs.View.{items_of, items_view, view}
use Rattle.serde_json.specs.declared.value.Value.{Value}
use Rattle.client_lines.specs.Shallow.{AreFlat, IsFlat}
use Rattle.pin_protocols.specs.Asks.{operation_name}
use Rattle.client_lines.specs.Written.{Beside, Writes, answered, asked_members, code_of, packet_list, refused_name, refused_members, state_name, status_of, with_number}
use Rattle.client_lines.specs.declared.answer.Answer.{Answer}
use Rattle.client_lines.specs.declared.answer.Answer.TheVariants as answers
use Rattle.client_lines.specs.declared.answer.Told.{Told}
use Rattle.client_lines.specs.declared.fault.Fault.{Fault}

pub put_flat : (k : List ℕ) (d : Data) (ms : Members) → IsFlat d → AreFlat ms → AreFlat (put k d ms)
put_flat k d ms p q = put_within k d ms 2 p q

pub put_plain : (k : List ℕ) (d : Data) (ms : Members) → depth d ≤ 0 → members_depth ms ≤ 0 → members_depth (put k d ms) ≤ 0
put_plain k d ms p q = put_within k d ms 0 p q

pub items_more : (vs : List Value) (v : Value) (n : ℕ) → items_depth (items_view vs) ≤ n → depth (view v) ≤ n → items_depth (items_view (vs ++ v ∷ [])) ≤ n
items_more [] v n p q = omega (arith, q)
items_more (x ∷ vs) v n p q = omega (arith, p, items_more vs v n (omega (arith, p)) q)

-- ---- what stands beside the state

number_flat : (o : Option ℕ) → depth (number_or_null o) ≤ 0
number_flat None = omega arith
number_flat (Some n) = omega arith

text_in : (k t : List ℕ) (ms : Members) → members_depth ms ≤ 8 → members_depth (put k (string t) ms) ≤ 8
text_in k t ms h = put_within k (string t) ms 8 (omega arith) h

bytes_in : (k bs : List ℕ) (ms : Members) → members_depth ms ≤ 8 → members_depth (put k (base64url bs) ms) ≤ 8
bytes_in k bs ms h = put_within k (base64url bs) ms 8 (omega arith) h

number_in : (k : List ℕ) (o : Option ℕ) (ms : Members) → members_depth ms ≤ 8 → members_depth (put k (number_or_null o) ms) ≤ 8
number_in k o ms h = put_within k (number_or_null o) ms 8 (omega (arith, number_flat o)) h

boolean_in : (k : List ℕ) (b : Bool) (ms : Members) → members_depth ms ≤ 8 → members_depth (put k (boolean b) ms) ≤ 8
boolean_in k b ms h = put_within k (boolean b) ms 8 (omega arith) h

value_in : (k : List ℕ) (d : Data) → depth d ≤ 8 → members_depth (put k d no_members) ≤ 8
value_in k d h = put_within k d no_members 8 h (omega arith)

empty : members_depth no_members ≤ 8
empty = omega arith

with_within : (k : List ℕ) (o : Option ℕ) (ms : Members) → members_depth ms ≤ 8 → members_depth (with_number k o ms) ≤ 8
with_within k None ms h = h
with_within k (Some n) ms h = number_in k (Some n) ms h

asked_within : (o : Option Ask) → members_depth (asked_members o) ≤ 8
asked_within None = omega arith
asked_within (Some a) =
    let m = put (codes "operation") (string (operation_name a.operation)) no_members in
    let n = put (codes "key") (base64url a.key.items) m in
    bytes_in (codes "text") a.text.items (put (codes "iv") (base64url a.iv.items) n) (bytes_in (codes "iv") a.iv.items n
    (bytes_in (codes "key") a.key.items m (text_in (codes "operation") (operation_name a.operation) no_members empty)))

one : (ms ns : Members) → ms ≡ ns → members_depth ns ≤ 8 → members_depth ms ≤ 8
one ms ns is h = subst (λ x. members_depth x ≤ 8) (sym is) h

beside : (asked : Option Ask) (a : Answer) (ms : Members) → Beside asked a ms → members_depth ms ≤ 8
beside asked answers.Waits ms h = one ms no_members h empty
beside asked answers.Works ms h = one ms _ h (text_in (codes "keepalive") (codes "processing") no_members empty)
beside asked answers.Touch ms h = one ms no_members h empty
beside asked (answers.NeedsPin retries wrong) ms h =
    one ms _ h (boolean_in (codes "wrong") wrong (put (codes "retries") (number_or_null retries) no_members) (number_in (codes "retries") retries no_members empty))
beside asked answers.Asks ms h = one ms _ h (asked_within asked)
beside asked (answers.Chooses told) ms h = one ms _ h (value_in (codes "credentials") (view told.value) told.bound)
beside asked (answers.Registered told) ms h = one ms _ h (value_in (codes "response") (view told.value) told.bound)
beside asked (answers.SignedIn told) ms h = one ms _ h (value_in (codes "response") (view told.value) told.bound)
beside asked (answers.Informs told) ms h = one ms _ h told.bound
beside asked answers.PinIsSet ms h = one ms no_members h empty
beside asked (answers.Refused why) ms h =
    let m = put (codes "name") (string (refused_name why)) no_members in
    let n = put (codes "text") (string h.0) m in
    one ms (refused_members why h.0) h.1 (with_within (codes "code") (code_of why) (with_number (codes "status") (status_of why) n)
    (with_within (codes "status") (status_of why) n (text_in (codes "text") h.0 m (text_in (codes "name") (refused_name why) no_members empty))))

-- ---- lines out

packets_flat : (ps : List Packet) → items_depth (items_of (map (λ p. base64url p.0) ps)) ≤ 0
packets_flat [] = omega arith
packets_flat (p ∷ ps) = omega (arith, packets_flat ps)

packets_in : (ps : List Packet) (ms : Members) → members_depth ms ≤ 8 → members_depth (put (codes "send") (packet_list ps) ms) ≤ 8
packets_in ps ms h = put_within (codes "send") (packet_list ps) ms 8 (omega (arith, packets_flat ps)) h

answered_within : (id : Option ℕ) (ps : List Packet) (state : List ℕ) (ms : Members) → members_depth ms ≤ 8 → depth (answered id ps state ms) ≤ max_depth
answered_within id ps state ms h =
    let m = put (codes "state") (string state) ms in
    let within = number_in (codes "id") id (put (codes "send") (packet_list ps) m) (packets_in ps m (text_in (codes "state") state ms h)) in
    omega (arith, within)

pub writes_shallow : (asked : Option Ask) (id : Option ℕ) (told : Result Told Fault) (d : Data) → Writes asked id told d → depth d ≤ max_depth
writes_shallow asked id (Ok told) d w = subst (λ x. depth x ≤ max_depth) (sym w.2) (answered_within id told.send.items (state_name told.answer) w.0 (beside asked told.answer w.0 w.1))
writes_shallow asked id (Err fault) d w =
    subst (λ x. depth x ≤ max_depth) (sym w.1) (answered_within id [] (codes "error") (put (codes "text") (string w.0) no_members) (text_in (codes "text") w.0 no_members empty))
