-- Types without where they lie in memory.
use Rattle.std.specs.Prelude.{option_map}
use Rattle.pin_protocols.specs.declared.requests.Scope.{Scope as Lent}
use Rattle.pin_protocols.specs.declared.session.Secret.{Secret}
use Rattle.pin_protocols.specs.Flows.{Scope}
use Rattle.pin_protocols.specs.Protocols.{SharedSecret}

abbrev pub scope_view : Lent → Scope
scope_view s = record { permissions = s.permissions; rp_id = option_map (λ b. b.now) s.rp_id }

abbrev pub secret_view : Secret → SharedSecret
secret_view s = record { hmac = s.hmac.items; aes = s.aes.items }
