-- The names of refusals in lines.
use Rattle.std.specs.Prelude.{ℕ, List, codes}
use Rattle.ctap_open_requests.specs.declared.error.RequestError.{RequestError}
use Rattle.ctap_open_requests.specs.declared.error.RequestError.TheVariants as requests
use Rattle.pin_protocols.specs.declared.pin.PinFault.{PinFault}
use Rattle.pin_protocols.specs.declared.pin.PinFault.TheVariants as faults
use Rattle.client_ceremony.specs.declared.refusal.Refusal.{Refusal}
use Rattle.client_ceremony.specs.declared.refusal.Refusal.TheVariants as refusals

abbrev pub pin_name : PinFault → List ℕ
pin_name faults.TooShort = codes "pin_too_short"
pin_name faults.TooLong = codes "pin_too_long"
pin_name faults.EndsInZero = codes "pin_ends_in_zero"

abbrev pub request_name : RequestError → List ℕ
request_name requests.Memory = codes "memory"
request_name requests.OptionNotOffered = codes "option_not_offered"
request_name requests.ListTooLong = codes "list_too_long"
request_name requests.IdTooLong = codes "id_too_long"
request_name requests.Unfit = codes "unfit"
request_name requests.MessageTooLong = codes "message_too_long"

abbrev pub refusal_name : Refusal → List ℕ
refusal_name refusals.Memory = codes "memory"
refusal_name (refusals.Status s) = codes "status"
refusal_name refusals.PinInvalid = codes "pin_invalid"
refusal_name refusals.PinBlocked = codes "pin_blocked"
refusal_name refusals.PowerCycle = codes "power_cycle"
refusal_name refusals.NotReadable = codes "not_readable"
refusal_name refusals.U2fOnly = codes "u2f_only"
refusal_name refusals.NoVerification = codes "no_verification"
refusal_name refusals.NoProtocol = codes "no_protocol"
refusal_name refusals.PinNotSet = codes "pin_not_set"
refusal_name refusals.PinAlreadySet = codes "pin_already_set"
refusal_name refusals.PinNotOffered = codes "pin_not_offered"
refusal_name refusals.BadPoint = codes "bad_point"
refusal_name refusals.BadAnswer = codes "bad_answer"
refusal_name refusals.BadToken = codes "bad_token"
refusal_name (refusals.Pin f) = pin_name f
refusal_name (refusals.Request e) = request_name e
refusal_name refusals.NoSuchChoice = codes "no_such_choice"
refusal_name refusals.TooManyReplies = codes "too_many_replies"
