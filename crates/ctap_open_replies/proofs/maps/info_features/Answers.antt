-- What is owed of `info_features`.
use Rattle.std.proofs.Common.{refl}
use Rattle.ctap_open_replies.proofs.Failing.{gives_none}
use Rattle.ctap_open_replies.proofs.maps.info_features.Goals as goal

pub returns-in_err-firmware_version : goal.returns-in_err-firmware_version
returns-in_err-firmware_version c = gives_none _ _ _ c.from_residual-in_err-firmware_version.ensures.0
    (rw (c.in_ok-transports.ensures, c.in_ok-algorithms.ensures, c.in_ok-min_pin_length.ensures, c.in_err-firmware_version.ensures) refl)
