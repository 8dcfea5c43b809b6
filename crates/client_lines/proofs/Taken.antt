-- An act that is taken further, and the line that asks for it.
use Rattle.std.proofs.Common.{◌≡◌, ℕ, List, IfOk, Option, Result, Ok, Err, Some, refl}
use Rattle.client_lines.specs.Acts.{Answers, Takes, TakesFurther}
use Rattle.client_lines.specs.Private.{IsCarriedOut}
use Rattle.client_acts.specs.Lines.{Reads}
use Rattle.client_acts.specs.declared.act.Further.{Further}
use Rattle.client_acts.specs.declared.reading.Line.{Line}
use Rattle.client_lines.specs.declared.answer.Told.{Told}
use Rattle.client_lines.specs.declared.ceremony.Ceremony.{Ceremony}
use Rattle.client_lines.specs.declared.fault.Fault.{Fault}
use Rattle.client_lines.specs.declared.fault.Fault.TheVariants as faults
use Rattle.client_lines.specs.declared.fault.NotTaken.{NotTaken}
use Rattle.client_lines.specs.declared.machine.Client.{Client}

-- what is answered for the act is answered for the client
pub takes : (old : Client) (c d : Ceremony) (further : Further) (r : Result Told NotTaken) → old.ceremony ≡ Some c
    → IfOk r (λ told. TakesFurther c further told d) → IfOk r (λ told. Takes old further told (record { ceremony = Some d }))
takes old c d further (Ok told) e taken = (c, e, d, taken, refl)
takes old c d further (Err error) e taken = tt

-- what is carried out is what the line asks for
pub answers : (old new : Client) (line : List ℕ) (l : Line) (id : Option ℕ) (r : Result Told Fault) → Reads line l.id l.act
    → IsCarriedOut old l id r new → Answers old line id r new
answers old new line l id (Ok told) reads h = (l.id, l.act, reads, h.0, h.1)
answers old new line l id (Err (faults.Act why)) reads h = (l.id, l.act, reads, h.0, h.1)
answers old new line l id (Err (faults.Line why)) reads h = absurd h
