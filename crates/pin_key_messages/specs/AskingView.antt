-- Requests without where they lie in memory.
use Rattle.std.specs.Prelude.{option_map}
use Rattle.pin_client_messages.specs.ReplyView.{key_view}
use Rattle.pin_key_messages.specs.declared.asked.PinAsked.{PinAsked}
use Rattle.pin_key_messages.specs.Asking.{Asking}

abbrev pub asking_view : PinAsked → Asking
asking_view a = record {
  protocol = a.protocol;
  subcommand = a.subcommand;
  key = option_map key_view a.key;
  param = option_map (λ b. b.now) a.param;
  new_pin = option_map (λ b. b.now) a.new_pin;
  pin_hash = option_map (λ b. b.now) a.pin_hash;
  permissions = a.permissions;
  rp_id = option_map (λ b. b.now) a.rp_id;
}
