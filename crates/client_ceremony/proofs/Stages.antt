-- What halts a stage halts the whole.
use Rattle.std.proofs.Common.{◌≡◌, ◌⊎◌, ℕ, refl, ap, inl, inr}
use Rattle.client_ceremony.specs.Exchanges.{Ends, Then, at_once, later}
use Rattle.client_ceremony.specs.Pieces.{OrMemory, OrNoRoom, for, no_memory, no_room, so}
use Rattle.client_ceremony.specs.declared.halt.Halt.{Halt}
use Rattle.client_ceremony.specs.declared.halt.Halt.TheVariants as halts
use Rattle.client_ceremony.specs.declared.refusal.Refusal.{Refusal}
use Rattle.client_ceremony.specs.declared.refusal.Refusal.TheVariants as refusals
use Rattle.client_ceremony.specs.declared.step.Step.{Step}

pub or_more : {P Q : Halt → Type 0} {h : Halt} → (P h → Q h) → OrMemory P h → OrMemory Q h
or_more more (no_memory e) = no_memory e
or_more more (so p) = so (more p)

pub first_halts : {V : Type 0} {G : V → Type 0} {H : Halt → Type 0} {F : V → Halt → Type 0} {h : Halt} → OrMemory H h → OrMemory (Then G H F) h
first_halts (no_memory e) = no_memory e
first_halts (so p) = so (at_once p)

pub then_halts : {V : Type 0} {G : V → Type 0} {H : Halt → Type 0} {F : V → Halt → Type 0} {h : Halt} → (v : V) → G v → OrMemory (F v) h → OrMemory (Then G H F) h
then_halts v g (no_memory e) = no_memory e
then_halts v g (so p) = so (later v g p)

-- a refusal ends it
pub ends : {F : Refusal → Type 0} {f : Refusal} → OrNoRoom F f → OrMemory (Ends F) (halts.Refuses f)
ends (no_room e) = no_memory (ap halts.Refuses e)
ends {F} {f} (for p) = so (f, p, refl)

pub then_more : {V : Type 0} {G G' : V → Type 0} {H H' : Halt → Type 0} {F : V → Halt → Type 0} {h : Halt}
    → ((v : V) → G v → G' v) → (H h → H' h) → Then G H F h → Then G' H' F h
then_more given halted (at_once p) = at_once (halted p)
then_more given halted (later v g f) = later v (given v g) f

-- a step is not that memory ran out
pub steps : (P : Halt → Type 0) (n : ℕ) (s : Step) → OrMemory P (halts.Steps n s) → P (halts.Steps n s)
steps P n s (no_memory e) = absurd cc
steps P n s (so p) = p

pub refuses : (P : Halt → Type 0) (f : Refusal) → OrMemory P (halts.Refuses f) → (f ≡ refusals.Memory) ⊎ P (halts.Refuses f)
refuses P f (no_memory e) = inl cc
refuses P f (so p) = inr p
