-- What a device tells of a packet.
use Rattle.std.proofs.Common.{◌≡◌, ◌≢◌, ℕ, ◌+◌, ◌≤◌, inl, inr, Bool, true, false, cond, List, [], ◌∷◌, ◌++◌, take, refl, sym, ◌∙◌, ap, arith}
use Rattle.std.specs.Prelude.{◌==◌, nat_lt, Option, Some, None}
use Rattle.std.proofs.lemmas.Bool.{eq-eqb, eqb-true, true≢false}
use Rattle.hidframe.specs.declared.Packet.{Packet}
use Rattle.hidframe.specs.Packets.{Fields, Initial, Continuation, fields}
use Rattle.hidframe.specs.Frames.{continuation_count}
use Rattle.hidlink.specs.declared.arbitration.Arbitration.{Arbitration}
use Rattle.hidlink.specs.declared.arbitration.Arbitration.TheVariants.{Refused, ChannelAnew, Cancelled, Ignored, Begins}
use Rattle.hidlink.specs.declared.transaction.DeviceEvent.{DeviceEvent}
use Rattle.hidlink.specs.declared.transaction.DeviceEvent.TheVariants as step
use Rattle.hidlink.specs.Ranks.{TransactionState, Idle, Receiving, Working, IsWorking, Response, DeviceState, chosen, chosen_response, is_busy}
use Rattle.hidlink.specs.Ranks.{is_receiving_on, is_working_on, on_receipt, rank, response}
use Rattle.hidlink.specs.History.{DeviceCall, Leaves}
use Rattle.hidlink.specs.Machine.{Does, Effect, came, chosen_effect, packet_effect, to}
use Rattle.hidlink.specs.Told.{work, IsCancel, TellsEvent}
use Rattle.hidlink.proofs.Lines.{Rests, first_line, ranked}

-- what a packet of a message tells that comes to a device at no work
came_told : (n c cmd len next : ℕ) (bytes : List ℕ) (s : TransactionState) (f : Fields) → work s ≡ None → (IsCancel s f → ⊥)
    → TellsEvent s f (came n c cmd len next bytes).after (on_receipt c cmd len next bytes).step
came_told n c cmd len next bytes s f none other = split (nat_lt next (continuation_count len)) (cmd == 16)
  where
    split : (a b : Bool) → TellsEvent s f
        (Effect.after (cond a (to n (Receiving c cmd len next bytes)) (cond b (to n (Working c (take len bytes))) (to n Idle))))
        (Response.step (cond a (record { sent = None; step = step.Quiet }) (cond b (record { sent = None; step = step.Request c })
        (record { sent = Some (record { cid = c; cmd = 1; payload = take len bytes }); step = step.Quiet }))))
    split true b = (other, sym none)
    split false true = (none, (take len bytes, refl))
    split false false = (other, sym none)

-- the channel of a request is out
abbrev WorksOut : ℕ → TransactionState → Type 0
WorksOut n Idle = Unit {0}
WorksOut n (Receiving cid cmd len next bytes) = Unit {0}
WorksOut n (Working cid payload) = (1 ≤ cid) × (cid ≤ n) × (cid ≢ 0xFFFFFFFF)

-- what is answered of what was chosen for an initial packet
chosen_told : (n : ℕ) (s : TransactionState) (c cmd len k : ℕ) (area : List ℕ) (a : Arbitration)
    → Rests n (is_busy s) (is_receiving_on s c) (is_working_on s c) c cmd k a → WorksOut n s
    → TellsEvent s (Initial c cmd len area) (chosen_effect n s c cmd len area a).after (chosen_response n s c cmd len area a).step
chosen_told n Idle c cmd len k area Begins r out = came_told n c cmd len 0 area Idle (Initial c cmd len area) refl (λ i. i)
chosen_told n Idle c cmd len k area Cancelled r out = absurd (cc)
chosen_told n Idle c cmd len k area _ r out = (λ i. i, refl)
chosen_told n (Receiving cid kind size next bytes) c cmd len k area Begins r out = absurd (cc)
chosen_told n (Receiving cid kind size next bytes) c cmd len k area Cancelled r out = absurd (cc)
chosen_told n (Receiving cid kind size next bytes) c cmd len k area _ r out = (λ i. i, refl)
chosen_told n (Working cid payload) c cmd len k area (Refused code) r out = (λ i. r.4 (rw i.0 out.0) (rw i.0 out.1) (rw i.0 out.2) i.1, refl)
chosen_told n (Working cid payload) c cmd len k area ChannelAnew r out = elim r.2 [ inl e ↦ absurd (cc) | inr e ↦ rw e (tt, refl) ]
chosen_told n (Working cid payload) c cmd len k area Cancelled r out = ((sym (eqb-true cid c r.2), r.1), refl)
chosen_told n (Working cid payload) c cmd len k area Ignored r out = (λ i. true≢false (sym (eq-eqb cid c (sym i.0)) ∙ r.1), refl)
chosen_told n (Working cid payload) c cmd len k area _ r out = absurd (cc)

works_out : (h : List DeviceCall) (n : ℕ) (s : TransactionState) → Leaves h n s → WorksOut n s
works_out h n Idle l = tt
works_out h n (Receiving cid cmd len next bytes) l = tt
works_out h n (Working cid payload) l = let w = l.doing in
    elim (ranked n cid 16 w.complete.len w.complete.transaction.ranked) [ inl e ↦ absurd (omega arith) | inr e ↦ (e.1, e.2, e.3) ]

-- of a device in the state that a history leaves
pub told : (h : List DeviceCall) (n : ℕ) (s : TransactionState) (f : Fields) → Leaves h n s → TellsEvent s f (packet_effect n s f).after (response n s f).step
told h n s (Initial c cmd len area) l =
    chosen_told n s c cmd len (rank n s c cmd len) area (chosen n s c cmd len) (first_line n s c cmd len) (works_out h n s l)
told h n Idle (Continuation c seq area) l = (λ i. i, refl)
told h n (Receiving cid kind size next bytes) (Continuation c seq area) l = split (cid == c) (seq == next)
  where
    split : (a b : Bool) → TellsEvent (Receiving cid kind size next bytes) (Continuation c seq area)
        (Effect.after (cond a (cond b (came n cid kind size (next + 1) (bytes ++ area)) (to n Idle)) (to n (Receiving cid kind size next bytes))))
        (Response.step (cond a (cond b (on_receipt cid kind size (next + 1) (bytes ++ area))
        (record { sent = Some (record { cid = cid; cmd = 63; payload = 4 ∷ [] }); step = step.Quiet })) (record { sent = None; step = step.Quiet })))
    split true true = came_told n cid kind size (next + 1) (bytes ++ area) (Receiving cid kind size next bytes) (Continuation c seq area) refl (λ i. i)
    split true false = (λ i. i, refl)
    split false b = (λ i. i, refl)
told h n (Working cid payload) (Continuation c seq area) l = (λ i. i, refl)

-- of a device and a packet
pub does_tell : (old new : DeviceState) (p : Packet) (f : Fields) (step : DeviceEvent) → fields p ≡ f
    → Does new step (packet_effect old.channels old.state f) (response old.channels old.state f)
    → (h : List DeviceCall) → Leaves h old.channels old.state → TellsEvent old.state (fields p) new.state step
does_tell old new p f step says d h l = rw (says, d.0, d.1) (told h old.channels old.state f l)

-- one that works has work
works : (s : TransactionState) → IsWorking s → work s ≢ None
works (Working cid payload) w e = absurd (cc)
works Idle w e = w
works (Receiving cid cmd len next bytes) w e = w

-- the channel of a request
abbrev channel : Option (ℕ × List ℕ) → ℕ
channel None = 0
channel (Some request) = request.0

-- a packet's step is one
pub one_step : (s t : TransactionState) (f : Fields) (x y : DeviceEvent) → TellsEvent s f t x → TellsEvent s f t y → x ≡ y
one_step s t f (step.Request c) (step.Request d) a b = ap (λ o. step.Request (channel o)) (sym a.1.1 ∙ b.1.1)
one_step s t f step.Quiet step.Quiet a b = refl
one_step s t f step.Cancelled step.Cancelled a b = refl
one_step s t f step.Aborted step.Aborted a b = refl
one_step s t f _ _ a b = absurd (grind (arith, works s))
