-- What is owed of `param_in`.
use Rattle.std.proofs.Common.{◌∷◌, refl}
use Rattle.ccbor.specs.Viewing.{shown}
use Rattle.ctap_encoding.specs.Table.{record_of}
use Rattle.ctap_open_replies.specs.Reading.{open_in}
use Rattle.ctap_open_replies.proofs.Telling.{is_told}
use Rattle.pin_key_messages.specs.Protected.{TellsProtection, protection_content, protection_members}
use Rattle.pin_key_messages.specs.ProtectedView.{protection_view}
use Rattle.pin_key_messages.proofs.Saying.{exact_protection, is_said}
use Rattle.pin_key_messages.proofs.param.param_in.Goals as goal

pub returns-in-Ok-protection-clause-found : goal.returns-in-Ok-protection-clause-found
returns-in-Ok-protection-clause-found c command =
    let o = c.args.options in
    let p = c.args.param in
    let q = c.args.protocol in
    let v = shown c.in-Ok.value in
    let r = c.in-Ok-protection in
    is_said (TellsProtection o p q) (open_in (record_of (protection_members o p q))) (protection_content o p q) (exact_protection o p q) command
    (command ∷ c.args.rest.now) c.args.rest.now refl v c.in-Ok.ensures.found (protection_view r.view) r.ensures
    (is_told (record_of (protection_members o p q)) v (protection_content o p q (protection_view r.view)) r.ensures)
