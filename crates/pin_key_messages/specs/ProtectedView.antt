-- Requests without where they lie in memory.
use Rattle.std.specs.Prelude.{option_map}
use Rattle.ctap_requests.specs.Requests.{RequestMessage, make_credential, get_assertion}
use Rattle.ctap_requests.specs.RequestView.{creation_view, assertion_view}
use Rattle.pin_key_messages.specs.declared.asked.OptionsAsked.{OptionsAsked}
use Rattle.pin_key_messages.specs.declared.asked.ParamView.{ParamView}
use Rattle.pin_key_messages.specs.declared.asked.ProtectedRequest.{ProtectedRequest}
use Rattle.pin_key_messages.specs.declared.asked.ProtectedRequest.TheVariants as parts
use Rattle.pin_key_messages.specs.Protected.{Flags, Protection}

abbrev pub flags_view : OptionsAsked → Flags
flags_view o = record { up = o.up; uv = o.uv }

abbrev pub protection_view : ParamView → Protection
protection_view p = record { options = option_map flags_view p.options; param = option_map (λ b. b.now) p.param; protocol = p.protocol }

abbrev pub message_of : ProtectedRequest → RequestMessage
message_of (parts.MakeCredential q) = make_credential (creation_view q)
message_of (parts.GetAssertion q) = get_assertion (assertion_view q)
