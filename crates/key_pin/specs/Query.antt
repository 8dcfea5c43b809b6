-- A request of clientPIN without where it lies in memory: CTAP 2.1, section 6.5.5.
use Rattle.std.specs.Prelude.{ℕ, List, Option, option_map}
use Rattle.pin_client_messages.specs.Replies.{ToldKey}
use Rattle.pin_client_messages.specs.ReplyView.{key_view}
use Rattle.pin_key_messages.specs.declared.asked.PinAsked.{PinAsked}

pub record Query : Type 0 where
  pub protocol : Option ℕ
  pub subcommand : ℕ
  pub key : Option ToldKey
  pub param : Option (List ℕ)
  pub new_pin : Option (List ℕ)
  pub pin_hash : Option (List ℕ)
  pub permissions : Option ℕ
  pub rp_id : Option (List ℕ)

abbrev pub query_view : PinAsked → Query
query_view a = record {
  protocol = a.protocol;
  subcommand = a.subcommand;
  key = option_map key_view a.key;
  param = option_map (λ b. b.now) a.param;
  new_pin = option_map (λ b. b.now) a.new_pin;
  pin_hash = option_map (λ b. b.now) a.pin_hash;
  permissions = a.permissions;
  rp_id = option_map (λ b. b.now) a.rp_id;
}
