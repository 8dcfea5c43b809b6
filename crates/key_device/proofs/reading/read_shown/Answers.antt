-- What is owed of `read_shown`.
use Rattle.pin_key_messages.specs.ProtectedView.{protection_view}
use Rattle.security_key.proofs.Acting.{if_ok}
use Rattle.key_device.proofs.Showing.{by_more}
use Rattle.key_device.proofs.reading.read_shown.Goals as goal

pub returns-in_default : goal.returns-in_default
returns-in_default c =
    if_ok c.read_protected.result
    (λ r h. by_more c.args.request.now (protection_view c.args.view.now) c.args.param.now r c.in_default.len_at_least h)
    c.read_protected.ensures
