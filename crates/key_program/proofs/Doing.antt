-- What a line that was read does.
use Rattle.std.proofs.Common.{◌≡◌, ◌∙◌, ◌↔◌, inl, ℕ, List, [], Bool, Result, Ok, Err, subst}
use Rattle.std.specs.Prelude.{IfErr, IfOk, IsSome, IsTrue, OnErr}
use Rattle.std.specs.Bool.{OnTrue}
use Rattle.std.proofs.lemmas.Bool.{OnTrue_at, OnTrue_from}
use Rattle.hidframe.specs.declared.Packet.{Packet}
use Rattle.key_device.specs.Key.{KeyDeviceState}
use Rattle.key_program.specs.Lines.{Does, IsCarriedOut, IsRefused, IsSaid}
use Rattle.key_program.specs.Words.{Says, is_of_pin, words_of}
use Rattle.key_program.specs.declared.command.LineCommand.{LineCommand}
use Rattle.key_program.specs.declared.lines.Fault.{Fault}
use Rattle.key_program.specs.declared.lines.Given.{Given}

pub said : (line : List ℕ) (k : KeyDeviceState) (c : LineCommand) (takes : Bool) → Says c (words_of line) → OnTrue (is_of_pin c) (IsTrue takes)
    → (IsTrue takes ↔ IsSome k.pin) → IsSaid line k c
said line k c takes says h pin = record { says = says; takes = OnTrue_from (is_of_pin c) (IsSome k.pin) (λ is. pin.0 (OnTrue_at is h)) }

pub does : (line : List ℕ) (old new : KeyDeviceState) (c : LineCommand) (r : Result Given Fault) (before sent : List Packet) → before ≡ [] → IsSaid line old c
    → IfOk r (λ g. IsCarriedOut c old before g new sent) → IfErr r (λ f. IsRefused c old f new) → OnErr r (sent ≡ before) → Does line old r new sent
does line old new c (Ok g) before sent none is done refused same =
    (c, is, subst (λ (packets : List Packet). IsCarriedOut c old packets g new sent) none done)
does line old new c (Err f) before sent none is done refused same = (inl (c, is, refused), same ∙ none)
