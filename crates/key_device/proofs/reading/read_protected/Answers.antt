-- What is owed of `read_protected`.
use Rattle.std.proofs.Common.{inl, refl, ◌∙◌}
use Rattle.pin_key_messages.specs.ProtectedView.{message_of}
use Rattle.key_device.proofs.reading.read_protected.Goals as goal

pub returns-in-Ok-bare_request : goal.returns-in-Ok-bare_request
returns-in-Ok-bare_request c =
    let found = c.in-Ok.ensures.found in
    inl (
      _,
      record {
        message = message_of c.in-Ok.part;
        bare = found.0;
        unprotected = found.1;
        read = found.2;
        bytes = c.in-Ok-bare_request.ensures.spelled;
        permission = c.permission-permission.ensures;
        rp_id = c.in_ok-rp_id.ensures.ok ∙ c.rp_id.ensures;
        client_data_hash = c.in_ok-client_data_hash.ensures.items ∙ c.client_data_hash.ensures;
        protocol = refl;
        param = c.in_ok-param.ensures.items;
        presence = c.asks_presence.ensures;
      },
      refl,
    )
