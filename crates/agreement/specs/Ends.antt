-- The authenticator's end of an exchange, act after act (CTAP 2.1, section 11.2.5).
use Rattle.std.specs.Prelude.{◌≡◌, ℕ, List, [], ◌∷◌, ◌++◌}
use Rattle.hidframe.specs.declared.Packet.{Packet}
use Rattle.hidlink.specs.History.{DeviceCall, Leaves}
use Rattle.hidlink.specs.Ranks.{Idle, packets_of}
use Rattle.hidlink.specs.Ranks as device
use Rattle.hidlink.specs.Told.{IsOut}
use Rattle.cose.specs.Schemes.{Validity}
use Rattle.authenticator.specs.State.{AuthenticatorState}
use Rattle.authenticator.specs.Steps.{Keys}
use Rattle.security_key.specs.declared.serving.Act.{Act}
use Rattle.security_key.specs.Serving.{Done, Serves}

-- the calls that its device took, how many channels are out, and what the device is doing; and the authenticator
pub record AuthenticatorEnd : Type 0 where
  pub history : List DeviceCall
  pub channels : ℕ
  pub device : device.TransactionState
  pub authenticator : AuthenticatorState

-- the device waits for a request, and channel c is out
pub record IsIdleOn (c : ℕ) (e : AuthenticatorEnd) : Type 0 where
  pub idle : e.device ≡ Idle
  pub reading : Leaves e.history e.channels e.device
  pub out : IsOut e.channels c

-- an act takes the one to the other, and these packets come of it
pub record Follows (valid : Validity) (public : Keys) (e : AuthenticatorEnd) (x : Act) (sent : List Packet) (f : AuthenticatorEnd) : Type 0 where
  pub done : Done
  pub serves : Serves valid public e.channels e.device e.authenticator x done
  pub authenticator : f.authenticator ≡ done.authenticator
  pub history : f.history ≡ e.history ++ done.calls
  pub reading : Leaves f.history f.channels f.device
  pub packets : sent ≡ packets_of done.sent

-- the acts do, one after another
abbrev pub Exchange : Validity → Keys → AuthenticatorEnd → List Act → List Packet → AuthenticatorEnd → Type 0
Exchange valid public e [] sent f = (sent ≡ []) × (f ≡ e)
Exchange valid public e (x ∷ xs) sent f =
    (m : AuthenticatorEnd) × (now : List Packet) × (later : List Packet) × Follows valid public e x now m × Exchange valid public m xs later f
    × (sent ≡ now ++ later)
