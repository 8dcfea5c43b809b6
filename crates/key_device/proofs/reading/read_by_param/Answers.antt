-- What is owed of `read_by_param`.
use Rattle.std.specs.Prelude.{option_map}
use Rattle.std.proofs.Common.{ap}
use Rattle.pin_key_messages.specs.ProtectedView.{protection_view}
use Rattle.security_key.proofs.Acting.{if_ok}
use Rattle.key_device.proofs.Showing.{by_shown}
use Rattle.key_device.proofs.reading.read_by_param.Goals as goal

pub returns-in-Some : goal.returns-in-Some
returns-in-Some c =
    if_ok c.read_shown.result
    (λ r h. by_shown c.args.needs_token c.args.request.now (protection_view c.in-Ok.view) c.in-Some.param.now r c.in-Ok.ensures.found
    (ap (λ o. option_map (λ b. b.now) o) c.in-Some.is) h)
    (rw c.in-Some.param-is at c.read_shown.ensures)
