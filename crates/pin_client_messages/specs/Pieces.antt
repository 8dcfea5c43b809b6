-- What the private functions of these messages are proved against; no public clause cites it.
use Rattle.std.specs.Prelude.{option_map}
use Rattle.ctap_encoding.specs.Content.{Contents}
use Rattle.pin_client_messages.specs.declared.command.PinMembers.{PinMembers}
use Rattle.pin_client_messages.specs.CommandView.{point_view}
use Rattle.pin_client_messages.specs.Commands.{pin_members, members}

-- the members as they are written
abbrev pub content_of : PinMembers → Contents pin_members
content_of m = members m.protocol m.subcommand (option_map point_view m.key) (option_map (λ b. b.now) m.param) (option_map (λ b. b.now) m.new_pin)
    (option_map (λ b. b.now) m.pin_hash) m.permissions (option_map (λ b. b.now) m.rp_id)
