-- Messages, and what the key's replies to them tell. A stage of a ceremony gives something to go on with, or halts it.
use Rattle.std.specs.Prelude.{◌≡◌, ℕ, List, slice_get, Some, None, ◌⊎◌, Vec}
use Rattle.std.specs.Global.{Global}
use Rattle.ccbor.specs.Item.{Item}
use Rattle.ctap_encoding.specs.declared.error.Error.{Error}
use Rattle.ctap_open_replies.specs.Replies.{IsReply, Refused}
use Rattle.pin_protocols.specs.declared.stop.Stop.{Stop}
use Rattle.client_ceremony.specs.Facts.{Facts}
use Rattle.client_ceremony.specs.Refusals.{of_reply, stopped}
use Rattle.client_ceremony.specs.declared.halt.Halt.{Halt}
use Rattle.client_ceremony.specs.declared.halt.Halt.TheVariants as halts
use Rattle.client_ceremony.specs.declared.refusal.Refusal.{Refusal}
use Rattle.client_ceremony.specs.declared.step.Step.TheVariants as steps

-- ---- stages

-- the ceremony ends by one of these
abbrev pub Ends : (Refusal → Type 0) → Halt → Type 0
Ends F h = (f : Refusal) × F f × (h ≡ halts.Refuses f)

-- a call of the protocols that stops so halts it, after so many messages
abbrev pub StopsBy : ℕ → (Stop → Type 0) → Halt → Type 0
StopsBy sent S h = (s : Stop) × S s × (h ≡ stopped sent s)

-- a stage halts it; or the stage gives something, and what follows with that halts it
pub data Then {V : Type 0} (Gives : V → Type 0) (Halts : Halt → Type 0) (Follows : V → Halt → Type 0) (h : Halt) : Type 0 where
  at_once : Halts h → Then Gives Halts Follows h
  later : (v : V) → Gives v → Follows v h → Then Gives Halts Follows h

-- ---- the message that is sent after n others, which is one of these

-- it is the next step
abbrev pub Sends : Facts → ℕ → (List ℕ → Type 0) → Halt → Type 0
Sends k n P h = (m : Vec ℕ Global) × P m.items × (slice_get k.replies n ≡ None) × (h ≡ halts.Steps n (steps.Sends m))

-- it was sent, and the key replied this
abbrev pub Replied : Facts → ℕ → (List ℕ → Type 0) → List ℕ → Type 0
Replied k n P r = ((m : List ℕ) × P m) × (slice_get k.replies n ≡ Some r)

-- the reply tells this
abbrev pub Told : {Q : Type 0} → Facts → ℕ → (List ℕ → Type 0) → (Q → Item → Type 0) → Q → Type 0
Told k n P tells q = (r : List ℕ) × Replied k n P r × IsReply tells q r

-- it tells nothing of its kind
abbrev pub Unread : {Q : Type 0} → (Q → Item → Type 0) → List ℕ → Refusal → Type 0
Unread tells r f = (e : Error) × Refused tells r e × (f ≡ of_reply e)

-- why nothing is answered yet
abbrev pub Untold : {Q : Type 0} → Facts → ℕ → (List ℕ → Type 0) → (Q → Item → Type 0) → Halt → Type 0
Untold k n P tells h = Sends k n P h ⊎ ((r : List ℕ) × Replied k n P r × Ends (Unread tells r) h)
