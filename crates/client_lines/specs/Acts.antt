-- What a line does to the act that is under way.
use Rattle.std.specs.Prelude.{◌≡◌, ◌⊎◌, ℕ, List, [], ◌∷◌, ◌++◌, None, Option, Some, Result, Ok, Err, string_bytes}
use Rattle.hidframe.specs.Frames.{TheZeroFrames}
use Rattle.hidframe.specs.Pieces.{frame_list}
use Rattle.hidframe.specs.declared.Packet.{Packet}
use Rattle.hidframe.specs.declared.ctaphid.TheConstants.{CTAPHID_BROADCAST_CID, CTAPHID_CANCEL, CTAPHID_CBOR, CTAPHID_INIT}
use Rattle.hidlink.specs.Wire.{Carries, Got}
use Rattle.client_ceremony.specs.Facts.{Facts}
use Rattle.pin_protocols.specs.Asks.{ask_view}
use Rattle.client_lines.specs.Knowing.{forgotten, knowledge_facts}
use Rattle.client_acts.specs.Faults.{IsRefused}
use Rattle.client_acts.specs.Lines.{Reads}
use Rattle.client_lines.specs.Written.{Writes, asked_in}
use Rattle.json_lines.specs.Written.{IsTextOf}
use Rattle.serde_json.specs.Data.{Data}
use Rattle.client_lines.specs.Purposes.{IsPurposeOf}
use Rattle.client_lines.specs.Steps.{IsDone, IsNextOf}
use Rattle.client_acts.specs.declared.act.Act.{Act}
use Rattle.client_acts.specs.declared.act.Act.TheVariants as acts
use Rattle.client_acts.specs.declared.act.Begin.{Begin}
use Rattle.client_acts.specs.declared.act.Further.{Further}
use Rattle.client_acts.specs.declared.act.Further.TheVariants as furthers
use Rattle.client_lines.specs.declared.answer.Told.{Told}
use Rattle.client_lines.specs.declared.ceremony.Ceremony.{Ceremony}
use Rattle.client_lines.specs.declared.ceremony.Link.{Link}
use Rattle.client_lines.specs.declared.ceremony.Link.TheVariants.{Opening, Open}
use Rattle.client_lines.specs.declared.fault.Fault.{Fault}
use Rattle.client_lines.specs.declared.fault.Fault.TheVariants as faults
use Rattle.client_lines.specs.declared.knowing.Knowledge.{Knowledge}
use Rattle.client_lines.specs.declared.machine.Client.{Client}
use Rattle.client_lines.specs.declared.stepping.Awaits.{Awaits}
use Rattle.client_lines.specs.declared.stepping.Awaits.TheVariants as awaits
use Rattle.client_lines.specs.declared.stepping.Next.{Next}

-- This is known; or the key refused the PIN, and it is forgotten.
abbrev pub Knows : Facts → Knowledge → Type 0
Knows f k = (knowledge_facts k ≡ f) ⊎ (knowledge_facts k ≡ forgotten f)

-- The packets ps on the channel c, the last of which came now, give no reply, or the one more that they carry.
abbrev pub Receives : ℕ → List Packet → Facts → Knowledge → Type 0
Receives c ps f new = (knowledge_facts new ≡ f)
    ⊎ ((m : List ℕ) × Carries c ps CTAPHID_CBOR m × Knows (record f { replies = f.replies ++ m ∷ [] }) new)

-- the same for a packet that came while a channel is asked for, or on the channel
abbrev pub ReceivesBy : Link → Packet → Facts → Knowledge → Type 0
ReceivesBy (Opening opener) p f new = Knows f new
ReceivesBy (Open channel) p f new = (ps : List Packet) → Got channel.cid ps channel.shown → Receives channel.cid (ps ++ p ∷ []) f new

-- an answer of the host to what was asked; running out of memory may leave it out
abbrev pub Adds : Awaits → List ℕ → Facts → Knowledge → Type 0
Adds (awaits.Computed ask) bytes f new =
    (knowledge_facts new ≡ f) ⊎ Knows (record f { answers = f.answers ++ ((ask_view ask, bytes) ∷ []) }) new
Adds _ bytes f new = ⊥

-- what is known, after this took the act further: a reply only by the packets that carry it
abbrev pub Learns : Ceremony → Further → Facts → Knowledge → Type 0
Learns old (furthers.Packet p) f new = ReceivesBy old.link p f new
Learns old (furthers.Pin pin) f new = Knows (record f { pin = Some (string_bytes pin) }) new
Learns old (furthers.Computed bytes) f new = Adds old.awaits bytes.items f new
Learns old (furthers.Choose number) f new = Knows (record f { chosen = Some number }) new
Learns old furthers.Cancel f new = knowledge_facts new ≡ f

-- Nothing is sent; or what the next step of the client's machine says, in frames on the channel; or a cancel (CTAP 2.1,
-- section 11.2.9.1.5).
abbrev pub SendsOn : ℕ → Knowledge → Told → Type 0
SendsOn c k told = (told.send.items ≡ [])
    ⊎ (((n : Next) × (awaited : Awaits) × IsNextOf k n × IsDone c n told awaited) ⊎ TheZeroFrames c CTAPHID_CANCEL [] told.send.items)

abbrev pub SendsBy : Link → Knowledge → Told → Type 0
SendsBy (Opening opener) k told = told.send.items ≡ []
SendsBy (Open channel) k told = SendsOn channel.cid k told

-- what took the act further, what is answered, and the act from then on
pub record TakesFurther (old : Ceremony) (further : Further) (told : Told) (new : Ceremony) : Type 0 where
  pub purpose : new.knowledge.purpose ≡ old.knowledge.purpose
  pub facts : Learns old further (knowledge_facts old.knowledge) new.knowledge
  pub sent : SendsBy new.link new.knowledge told

-- an act that begins: nothing is known, and the key is asked for a channel by an INIT of the nonce (11.2.9.1.3)
pub record Begins (begin : Begin) (new : Ceremony) (told : Told) : Type 0 where
  pub purpose : IsPurposeOf begin.aim new.knowledge.purpose
  pub facts : knowledge_facts new.knowledge ≡ record { replies = []; pin = None; answers = []; built_in = begin.built_in; chosen = None }
  pub sent : told.send.items ≡ frame_list CTAPHID_BROADCAST_CID CTAPHID_INIT begin.nonce

-- the act that is under way is taken further
abbrev pub Takes : Client → Further → Told → Client → Type 0
Takes old further told new = (c : Ceremony) × (old.ceremony ≡ Some c) × (d : Ceremony) × TakesFurther c further told d × (new.ceremony ≡ Some d)

-- What is done of an act. One that begins stands in place of the one that was under way, or is refused; one that is under
-- way is taken further, and ends or goes on.
abbrev pub CarriesOut : Client → Act → Told → Client → Type 0
CarriesOut old (acts.Begin begin) told new =
    ((told.send.items ≡ []) × (new.ceremony ≡ None)) ⊎ ((c : Ceremony) × (new.ceremony ≡ Some c) × Begins begin c told)
CarriesOut old (acts.Further further) told new = (c : Ceremony) × (old.ceremony ≡ Some c) × (d : Ceremony) × TakesFurther c further told d
    × ((new.ceremony ≡ Some d) ⊎ (new.ceremony ≡ None))

-- What a line asks for is carried out, and told under its number; and one that is answered by an error changes nothing: it is
-- refused for the cause that is named, or asks for what is not waited for.
abbrev pub Answers : Client → List ℕ → Option ℕ → Result Told Fault → Client → Type 0
Answers old line id (Ok told) new = (n : ℕ) × (act : Act) × Reads line n act × (id ≡ Some n) × CarriesOut old act told new
Answers old line id (Err (faults.Line why)) new = IsRefused line id why × (new ≡ old)
Answers old line id (Err (faults.Act why)) new = (n : ℕ) × (act : Act) × Reads line n act × (id ≡ Some n) × (new ≡ old)

-- a text is the line of this answer, with its end
abbrev pub IsWritten : Client → Option ℕ → Result Told Fault → List ℕ → Type 0
IsWritten new id told text = (d : Data) × (body : List ℕ) × Writes (asked_in new.ceremony) id told d × IsTextOf d body × (text ≡ body ++ 10 ∷ [])
