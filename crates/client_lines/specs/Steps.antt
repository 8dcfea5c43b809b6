-- What is next in an act, and what is sent.
use Rattle.std.specs.Prelude.{◌≡◌, ◌⊎◌, ℕ, [], ◌∷◌, length}
use Rattle.hidframe.specs.declared.ctaphid.TheConstants.{CTAPHID_CBOR}
use Rattle.hidframe.specs.Frames.{TheZeroFrames}
use Rattle.client_ceremony.specs.Ceremonies.{IsNext}
use Rattle.client_ceremony.specs.declared.step.Step.{Step}
use Rattle.client_ceremony.specs.declared.step.Step.TheVariants as steps
use Rattle.client_ceremony.specs.declared.wish.Wish.{Wish}
use Rattle.client_lines.specs.Knowing.{IsWishOf, knowledge_facts, replies_of}
use Rattle.client_lines.specs.declared.answer.Answer.TheVariants as answers
use Rattle.client_lines.specs.declared.answer.Told.{Told}
use Rattle.client_lines.specs.declared.knowing.Knowledge.{Knowledge}
use Rattle.client_lines.specs.declared.purpose.Purpose.{Purpose}
use Rattle.client_lines.specs.declared.purpose.Purpose.TheVariants as purposes
use Rattle.client_lines.specs.declared.stepping.Awaits.{Awaits}
use Rattle.client_lines.specs.declared.stepping.Awaits.TheVariants as awaits
use Rattle.client_lines.specs.declared.stepping.Next.{Next}
use Rattle.client_lines.specs.declared.stepping.Next.TheVariants as nexts

-- What is done at a step of the client's machine: its message is sent; or the user or the host is asked, and that is
-- waited for; or the act is done.
abbrev pub IsNextBy : Step → Next → Type 0
IsNextBy (steps.Sends m) n = n ≡ nexts.Sends m
IsNextBy (steps.NeedsPin retries) (nexts.Tells (answers.NeedsPin told wrong) awaits.Pin) = told ≡ retries
IsNextBy (steps.Asks ask) n = n ≡ nexts.Tells answers.Asks (awaits.Computed ask)
IsNextBy (steps.Chooses list) (nexts.Tells (answers.Chooses told) (awaits.Choice count)) = count ≡ length list.items
IsNextBy (steps.Created creation) (nexts.Tells (answers.Registered told) awaits.Packet) = Unit {0}
IsNextBy (steps.Asserted assertion) (nexts.Tells (answers.SignedIn told) awaits.Packet) = Unit {0}
IsNextBy steps.PinIsSet n = n ≡ nexts.Tells answers.PinIsSet awaits.Packet
IsNextBy _ _ = ⊥

-- getInfo, which is the command byte 4 (CTAP 2.1, section 6.4), and then what its reply told
abbrev pub Asks : Next → Type 0
Asks (nexts.Sends m) = m.items ≡ 4 ∷ []
Asks (nexts.Tells answer awaited) = ⊥

abbrev pub Informs : Next → Type 0
Informs (nexts.Tells (answers.Informs told) awaits.Packet) = Unit {0}
Informs _ = ⊥

-- of a wish: what its next step says
abbrev pub IsNextOfWish : Knowledge → Next → Type 0
IsNextOfWish k n = (w : Wish) × IsWishOf k.purpose w × (s : Step) × IsNext w (knowledge_facts k) s × IsNextBy s n

-- what is next for what is known
abbrev pub IsNextFor : Purpose → Knowledge → Next → Type 0
IsNextFor purposes.Informs k n = ((replies_of k ≡ []) × Asks n) ⊎ Informs n
IsNextFor _ k n = IsNextOfWish k n

abbrev pub IsNextOf : Knowledge → Next → Type 0
IsNextOf k n = IsNextFor k.purpose k n

-- a message is sent as its frames on the channel (section 11.2.4); with another answer nothing is sent
abbrev pub IsDone : ℕ → Next → Told → Awaits → Type 0
IsDone c (nexts.Sends m) told awaited =
    TheZeroFrames c CTAPHID_CBOR m.items told.send.items × (told.answer ≡ answers.Waits) × (awaited ≡ awaits.Packet)
IsDone c (nexts.Tells answer next) told awaited = (told.send.items ≡ []) × (told.answer ≡ answer) × (awaited ≡ next)
