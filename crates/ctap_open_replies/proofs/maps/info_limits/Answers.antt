-- What is owed of `info_limits`.
use Rattle.std.proofs.Common.{refl}
use Rattle.ctap_open_replies.proofs.Failing.{gives_none}
use Rattle.ctap_open_replies.proofs.maps.info_limits.Goals as goal

pub returns-in_err-max_credential_id_length : goal.returns-in_err-max_credential_id_length
returns-in_err-max_credential_id_length c = gives_none _ _ _ c.from_residual-in_err-max_credential_id_length.ensures.0
    (rw (c.in_ok-max_msg_size.ensures, c.in_ok-pin_uv_auth_protocols.ensures, c.in_ok-max_credential_count_in_list.ensures, c.in_err-max_credential_id_length.ensures) refl)
