-- What private functions are proved against; no public clause cites it.
use Rattle.std.specs.Prelude.{◌≡◌, ℕ, List, Option, Result, Ok, Err, Some}
use Rattle.serde_json.specs.Data.{Members}
use Rattle.client_acts.specs.declared.reading.Line.{Line}
use Rattle.client_lines.specs.Acts.{CarriesOut}
use Rattle.client_lines.specs.Written.{refused_members}
use Rattle.client_lines.specs.declared.answer.Told.{Told}
use Rattle.client_lines.specs.declared.fault.Fault.{Fault}
use Rattle.client_lines.specs.declared.fault.Fault.TheVariants as faults
use Rattle.client_lines.specs.declared.machine.Client.{Client}
use Rattle.client_lines.specs.declared.refused.Refused.{Refused}

-- why an act is over, as members say it
abbrev pub IsRefused : Refused → Members → Type 0
IsRefused why ms = (text : List ℕ) × (ms ≡ refused_members why text)

-- what is done of a line that was read
abbrev pub IsCarriedOut : Client → Line → Option ℕ → Result Told Fault → Client → Type 0
IsCarriedOut old line id (Ok told) new = (id ≡ Some line.id) × CarriesOut old line.act told new
IsCarriedOut old line id (Err (faults.Act why)) new = (id ≡ Some line.id) × (new ≡ old)
IsCarriedOut old line id (Err (faults.Line why)) new = ⊥
