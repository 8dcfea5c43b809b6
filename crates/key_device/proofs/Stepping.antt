-- What the PIN makes of a request that was kept.
use Rattle.std.proofs.Common.{◌≡◌, List, subst}
use Rattle.hidframe.specs.declared.Packet.{Packet}
use Rattle.hidlink.specs.Ranks.{DeviceState}
use Rattle.key_pin.specs.declared.words.PinStep.{PinStep}
use Rattle.key_pin.specs.declared.words.PinWords.{PinWords}
use Rattle.key_pin.specs.Outcomes.{IsStep, after}
use Rattle.key_pin.specs.Query.{Query}
use Rattle.key_pin.specs.State.{PinState}
use Rattle.key_pin.specs.Steps.{verdict}
use Rattle.key_device.specs.Computing.{AfterStep, ComputesCommand, Entries}
use Rattle.key_device.specs.Reading.{query_of}
use Rattle.key_device.specs.declared.command.PinCommand.{PinCommand}
use Rattle.key_device.specs.declared.stage.PinRequest.TheVariants as requests
use Rattle.key_device.specs.declared.stage.Stage.{Stage}
use Rattle.key_device.specs.declared.stage.Told.{Told}

pub stepped : (pin pin_after : PinState) (words : PinWords) (es : Entries) (old new : DeviceState) (before after_sent : List Packet) (c : PinCommand) (q : Query)
    (step : PinStep) (stage : Stage) (t : Told)
    → q ≡ query_of c → IsStep (verdict es words q pin) step → pin_after ≡ after (verdict es words q pin).outcome (verdict es words q pin).state
    → AfterStep (requests.Command c) words es old before step stage t new after_sent
    → ComputesCommand pin words es old before (requests.Command c) stage t pin_after new after_sent
stepped pin pin_after words es old new before after_sent c q step stage t same is state sent = (
  subst (λ (q : Query). pin_after ≡ after (verdict es words q pin).outcome (verdict es words q pin).state) same state,
  (step, subst (λ (q : Query). IsStep (verdict es words q pin) step) same is, sent),
)
