-- Requests without where they lie in memory.
use Rattle.std.specs.Prelude.{option_map}
use Rattle.pin_client_messages.specs.declared.command.Point.{Point}
use Rattle.pin_client_messages.specs.declared.command.PinCommand.{PinCommand}
use Rattle.pin_client_messages.specs.declared.command.PinCommand.TheVariants as commands
use Rattle.pin_client_messages.specs.Commands.{PublicPoint, Subcommand, pin_retries, key_agreement, set_pin, change_pin, pin_token, token_by_uv, uv_retries, token_by_pin}

abbrev pub point_view : Point → PublicPoint
point_view p = record { x = p.x.now; y = p.y.now }

abbrev pub command_view : PinCommand → Subcommand
command_view commands.PinRetries = pin_retries
command_view commands.KeyAgreement = key_agreement
command_view (commands.SetPin key param new_pin) = set_pin (point_view key) param.now new_pin.now
command_view (commands.ChangePin key param new_pin pin_hash) = change_pin (point_view key) param.now new_pin.now pin_hash.now
command_view (commands.PinToken key pin_hash) = pin_token (point_view key) pin_hash.now
command_view (commands.TokenByUv key permissions rp_id) = token_by_uv (point_view key) permissions (option_map (λ b. b.now) rp_id)
command_view commands.UvRetries = uv_retries
command_view (commands.TokenByPin key pin_hash permissions rp_id) = token_by_pin (point_view key) pin_hash.now permissions (option_map (λ b. b.now) rp_id)
