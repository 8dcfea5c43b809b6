-- What is owed of `info`.
use Rattle.std.proofs.Common.{refl}
use Rattle.ctap_open_replies.proofs.Failing.{gives_none, gives_fails}
use Rattle.ctap_open_replies.proofs.maps.info.Goals as goal

pub returns-in_err-extensions : goal.returns-in_err-extensions
returns-in_err-extensions c = gives_fails _ _ _ c.in_err-extensions.field-0.0 _ c.from_residual-in_err-extensions.ensures.1 c.in_err-extensions.ensures
    (λ none. rw (c.in_ok-any_map.ensures, c.in_ok-versions.ensures, none) refl)

pub returns-in_err-aaguid : goal.returns-in_err-aaguid
returns-in_err-aaguid c = gives_none _ _ _ c.from_residual-in_err-aaguid.ensures.0
    (rw (c.in_ok-any_map.ensures, c.in_ok-versions.ensures, c.in_ok-extensions.ensures, c.in_err-aaguid.ensures) refl)

pub returns-in_err-options : goal.returns-in_err-options
returns-in_err-options c = gives_fails _ _ _ c.in_err-options.field-0.0 _ c.from_residual-in_err-options.ensures.1 c.in_err-options.ensures
    (λ none. rw (c.in_ok-any_map.ensures, c.in_ok-versions.ensures, c.in_ok-extensions.ensures, c.in_ok-aaguid.ensures, none) refl)

pub returns-in_err-limits : goal.returns-in_err-limits
returns-in_err-limits c = gives_fails _ _ _ c.in_err-limits.field-0.0 _ c.from_residual-in_err-limits.ensures.1 c.in_err-limits.ensures
    (λ none. rw (c.in_ok-any_map.ensures, c.in_ok-versions.ensures, c.in_ok-extensions.ensures, c.in_ok-aaguid.ensures, c.in_ok-options.ensures, none) refl)

pub returns : goal.returns
returns c =
    rw (c.in_ok-any_map.ensures, c.in_ok-versions.ensures, c.in_ok-extensions.ensures, c.in_ok-aaguid.ensures, c.in_ok-options.ensures, c.in_ok-limits.ensures) refl
