-- What the private functions are proved against; no public clause cites it.
use Rattle.std.specs.Prelude.{◌≡◌, ◌⊎◌, Result, Ok, Err}
use Rattle.pin_protocols.specs.Asks.{ask_view}
use Rattle.pin_protocols.specs.declared.stop.Stop.{Stop}
use Rattle.pin_protocols.specs.declared.stop.Stop.TheVariants as stops
use Rattle.pin_protocols.specs.FlowView.{secret_view}
use Rattle.key_pin.specs.declared.tries.Attempt.{Attempt}
use Rattle.key_pin.specs.declared.outcome.Outcome.{Outcome as Made}
use Rattle.key_pin.specs.declared.outcome.Outcome.TheVariants as made
use Rattle.key_pin.specs.declared.words.PinStep.{PinStep}
use Rattle.key_pin.specs.declared.end.End.{End}
use Rattle.key_pin.specs.declared.end.End.TheVariants as ends
use Rattle.key_pin.specs.Host.{Ending, asks, refused}
use Rattle.key_pin.specs.State.{PinState, token_view}
use Rattle.key_pin.specs.Steps.{Try}
use Rattle.key_pin.specs.Outcomes.{Outcome, retries_told, key_told, pin_set, pin_refused, token_told, mismatch, Verdict, IsStep, after}

-- why pin_protocols stops
abbrev pub of_stop : Stop → End
of_stop stops.Memory = ends.Memory
of_stop (stops.Asks a) = ends.Asks a
of_stop _ = ends.Refused 0x7f

-- why there is no product
abbrev pub of_product_stop : Stop → End
of_product_stop stops.Memory = ends.Memory
of_product_stop (stops.Asks a) = ends.Asks a
of_product_stop _ = ends.Refused 0x02

-- what a function gives, seen by view, is what the steps give, unless memory ran out
abbrev pub Fails : {Y : Type 0} → End → Result Y Ending → Type 0
Fails ends.Memory r = Unit {0}
Fails (ends.Asks a) r = r ≡ Err (asks (ask_view a))
Fails (ends.Refused status) r = r ≡ Err (refused status)

abbrev pub Gives : {X Y : Type 0} → (X → Y) → Result X End → Result Y Ending → Type 0
Gives view (Ok x) r = r ≡ Ok (view x)
Gives view (Err e) r = Fails e r

abbrev pub attempt_view : Attempt → Try
attempt_view t = record { protocol = t.protocol; secret = secret_view t.secret; pin_hash = t.pin_hash.now; pin = t.pin }

abbrev pub outcome_view : Made → Outcome
outcome_view made.RetriesTold = retries_told
outcome_view made.KeyTold = key_told
outcome_view (made.PinSet hash) = pin_set hash
outcome_view (made.PinRefused status) = pin_refused status
outcome_view (made.TokenTold token sealed) = token_told (token_view token) sealed.now
outcome_view made.Mismatch = mismatch

-- what the steps give, unless memory runs out
abbrev pub IsOutcome : Result Made End → Result Outcome Ending → Type 0
IsOutcome (Ok d) r = r ≡ Ok (outcome_view d)
IsOutcome (Err ends.Memory) r = ⊥
IsOutcome (Err (ends.Asks a)) r = r ≡ Err (asks (ask_view a))
IsOutcome (Err (ends.Refused status)) r = r ≡ Err (refused status)

-- a call ends with what the steps give
abbrev pub Finishes : Result Made End → PinState → PinStep → PinState → Type 0
Finishes made old step new = (r : Result Outcome Ending) × IsOutcome made r × IsStep (record { outcome = r; state = old }) step × (new ≡ after r old)

-- a verdict is reached and the state is the one in which it was; or memory ran out, and the try may have been counted
abbrev pub Reaches : Verdict → PinState → Result Made End → PinState → Type 0
Reaches v old (Ok d) new = (v.outcome ≡ Ok (outcome_view d)) × (new ≡ v.state)
Reaches v old (Err ends.Memory) new = (new ≡ old) ⊎ (new ≡ v.state)
Reaches v old (Err (ends.Asks a)) new = (v.outcome ≡ Err (asks (ask_view a))) × (new ≡ v.state)
Reaches v old (Err (ends.Refused status)) new = (v.outcome ≡ Err (refused status)) × (new ≡ v.state)
