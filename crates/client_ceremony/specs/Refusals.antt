-- By which name a ceremony ends.
use Rattle.std.specs.Prelude.{ℕ, ◌==◌, if◌then◌else◌}
use Rattle.ctap_encoding.specs.declared.error.Error.{Error}
use Rattle.ctap_encoding.specs.declared.error.Error.TheVariants as errors
use Rattle.ctap_open_requests.specs.declared.error.RequestError.{RequestError}
use Rattle.ctap_open_requests.specs.declared.error.RequestError.TheVariants as requests
use Rattle.pin_protocols.specs.declared.stop.Stop.{Stop}
use Rattle.pin_protocols.specs.declared.stop.Stop.TheVariants as stops
use Rattle.client_ceremony.specs.declared.halt.Halt.{Halt}
use Rattle.client_ceremony.specs.declared.halt.Halt.TheVariants as halts
use Rattle.client_ceremony.specs.declared.refusal.Refusal.{Refusal}
use Rattle.client_ceremony.specs.declared.refusal.Refusal.TheVariants as refusals
use Rattle.client_ceremony.specs.declared.step.Step.TheVariants as steps

-- the key's status: CTAP2_ERR_PIN_INVALID, CTAP2_ERR_PIN_BLOCKED and CTAP2_ERR_PIN_AUTH_BLOCKED have names (CTAP 2.1,
-- section 8.2)
abbrev pub of_status : ℕ → Refusal
of_status s =
    if s == 0x31 then refusals.PinInvalid
    else if s == 0x32 then refusals.PinBlocked
    else if s == 0x34 then refusals.PowerCycle
    else refusals.Status s

-- a reply that tells nothing
abbrev pub of_reply : Error → Refusal
of_reply errors.Memory = refusals.Memory
of_reply errors.Unfit = refusals.NotReadable
of_reply errors.NotCanonical = refusals.NotReadable
of_reply errors.Shape = refusals.NotReadable
of_reply errors.Empty = refusals.NotReadable
of_reply (errors.Refused s) = of_status s
of_reply (errors.Status s) = refusals.NotReadable

-- a request that is not written
abbrev pub of_request : RequestError → Refusal
of_request requests.Memory = refusals.Memory
of_request requests.OptionNotOffered = refusals.Request requests.OptionNotOffered
of_request requests.ListTooLong = refusals.Request requests.ListTooLong
of_request requests.IdTooLong = refusals.Request requests.IdTooLong
of_request requests.Unfit = refusals.Request requests.Unfit
of_request requests.MessageTooLong = refusals.Request requests.MessageTooLong

-- a call that stops after so many messages: the host is asked, or the ceremony ends
abbrev pub stopped : ℕ → Stop → Halt
stopped sent stops.Memory = halts.Refuses refusals.Memory
stopped sent (stops.Asks a) = halts.Steps sent (steps.Asks a)
stopped sent stops.BadAnswer = halts.Refuses refusals.BadAnswer
stopped sent (stops.Pin f) = halts.Refuses (refusals.Pin f)
stopped sent stops.Unfit = halts.Refuses (refusals.Request requests.Unfit)
stopped sent stops.BadToken = halts.Refuses refusals.BadToken
