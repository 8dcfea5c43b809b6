-- What the parts of a call say of its refusals.
use Rattle.std.proofs.Common.{◌≡◌, ◌≤◌, ℕ, List, length, refl, sym, ◌∙◌, subst, arith}
use Rattle.std.specs.Prelude.{Ok, Some, option_and_then}
use Rattle.hidframe.specs.declared.Packet.{Packet}
use Rattle.url.specs.Host.{domain_of}
use Rattle.url.specs.Parts.{Parts, nonempty_host}
use Rattle.refusal_order.proofs.Laws.{first_at}
use Rattle.client.specs.declared.error.RequestError.{RequestError}
use Rattle.client.specs.declared.error.RequestError.TheVariants as refusals
use Rattle.client.specs.Origins.{IsOriginOn, IsRpIdOf}
use Rattle.client.specs.Asked.{ClientCall, IsWritten, Asks, PassesRequest, IsRefused}
use Rattle.client.specs.Steps.{MayAsk, MayNotAsk, IsFramed, IsNotSent}
use Rattle.client.proofs.Messages.{one_message}

-- an origin has one host
pub one_host : (text host other : List ℕ) → IsOriginOn host text → IsOriginOn other text → host ≡ other
one_host text host other a b =
    let urls : Ok a.url ≡ Ok b.url = sym a.read ∙ b.read in
    let url : a.url ≡ b.url = cc in
    let hosts : Some host ≡ Some other = sym a.domain ∙ subst (λ (u : Parts). option_and_then domain_of (nonempty_host u) ≡ Some other) (sym url) b.domain in
    cc

-- the lines that a caller who may ask meets
own_rp_id : (x : ClientCall) → MayAsk x.origin x.rp_id → (host : List ℕ) → IsOriginOn host x.origin → IsRpIdOf host x.rp_id
own_rp_id x may host on = subst (λ h. IsRpIdOf h x.rp_id) (one_host x.origin may.host host may.on on) may.own

-- the origin or the rp id is refused
pub origin_fails : (x : ClientCall) (e : RequestError) → MayNotAsk x.origin x.rp_id e → IsRefused x e
origin_fails x refusals.BadOrigin none = first_at 0 refl tt (λ p. none p.0 p.1)
origin_fails x refusals.RpIdNotOfOrigin m = first_at 1 refl ((m.0, m.1), tt) (λ p. m.2 (p m.0 m.1))
origin_fails x refusals.Unfit m = absurd m
origin_fails x refusals.TooLong m = absurd m
origin_fails x refusals.Memory m = tt

-- the request is refused, where the caller may ask
pub sending_fails : (x : ClientCall) (e : RequestError) → MayAsk x.origin x.rp_id → IsNotSent x.request e → IsRefused x e
sending_fails x refusals.BadOrigin may m = absurd m
sending_fails x refusals.RpIdNotOfOrigin may m = absurd m
sending_fails x refusals.Unfit may none = first_at 2 refl ((may.host, may.on), (own_rp_id x may, tt)) (λ p. none p.0 p.1)
sending_fails x refusals.TooLong may m =
    first_at 3 refl ((may.host, may.on), (own_rp_id x may, ((m.0, m.1), tt))) (λ p. let fits = p m.0 m.1 in let long = m.2 in absurd (omega arith))
sending_fails x refusals.Memory may m = tt

-- nothing is refused
pub passes_all : (x : ClientCall) (c : ℕ) (ps : List Packet) → MayAsk x.origin x.rp_id → IsFramed x.request c ps → PassesRequest x
passes_all x c ps may f = ((may.host, may.on), (own_rp_id x may, ((f.message, f.written), (fits, tt))))
  where
    fits : (bs : List ℕ) → IsWritten x.request bs → length bs ≤ 7609
    fits bs w = subst (λ m. length m ≤ 7609) (one_message x.request f.message bs f.written.0 w.0) f.size

-- what is handed out is the call's
pub asks : (x : ClientCall) (c : ℕ) (text : List ℕ) (ps : List Packet) → text ≡ x.client_data → IsFramed x.request c ps
    → Asks x c (record { client_data = text; packets = ps })
asks x c text ps same f = record { client_data = same; message = f.message; written = f.written; packets = f.packets }
