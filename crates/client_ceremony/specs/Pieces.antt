-- What the private functions are proved against; no public clause cites it.
use Rattle.std.specs.Prelude.{◌≡◌, option_map}
use Rattle.ctap_open_requests.specs.RequestView.{auth_view}
use Rattle.client_ceremony.specs.Tokens.{Verified}
use Rattle.client_ceremony.specs.declared.halt.Halt.{Halt}
use Rattle.client_ceremony.specs.declared.halt.Halt.TheVariants as halts
use Rattle.client_ceremony.specs.declared.refusal.Refusal.{Refusal}
use Rattle.client_ceremony.specs.declared.refusal.Refusal.TheVariants as refusals
use Rattle.client_ceremony.specs.declared.verified.Verified.{Verified as Held}

-- memory ran out, or this
pub data OrMemory (P : Halt → Type 0) (h : Halt) : Type 0 where
  no_memory : h ≡ halts.Refuses refusals.Memory → OrMemory P h
  so : P h → OrMemory P h

-- the same for refusals
pub data OrNoRoom (P : Refusal → Type 0) (f : Refusal) : Type 0 where
  no_room : f ≡ refusals.Memory → OrNoRoom P f
  for : P f → OrNoRoom P f

abbrev pub verified_view : Held → Verified
verified_view v = record { auth = option_map auth_view v.auth; uv = v.uv; place = v.place }
