-- An answer that is sent.
use Rattle.std.proofs.Common.{◌≡◌, ℕ, ◌≤◌, ◌<◌, ◌⊎◌, inl, inr, List, [], ◌∷◌, ◌++◌, length, sym, ◌∙◌, ap, subst, arith, Result}
use Rattle.std.specs.Prelude.{IsErrOf, OnOk}
use Rattle.hidframe.specs.declared.Packet.{Packet}
use Rattle.hidlink.specs.History.{Answered, DeviceCall, Leaves}
use Rattle.hidlink.specs.Ranks.{DeviceState, Idle, IsWorking, on_working, packets_of}
use Rattle.hidlink.specs.declared.transaction.Refusal.{Refusal}
use Rattle.hidlink.specs.declared.transaction.Refusal.TheVariants.{NotWorking, TooLong}
use Rattle.security_key.proofs.Acting.{not_refused}
use Rattle.key_device.specs.Sending.{IsAnswered, IsSent}

pub is_sent : {A : Type 0} (r : Result A Refusal) (old mid new : DeviceState) (message : List ℕ) (before after : List Packet) → IsWorking old.state
    → length message ≤ 7609 → (IsErrOf r NotWorking → IsWorking old.state → ⊥) → (IsErrOf r TooLong → IsWorking old.state × (7609 < length message))
    → OnOk r (mid.left ≡ packets_of (on_working old.state 16 message)) → OnOk r (mid ≡ record old { state = Idle; left = mid.left })
    → ((h : List DeviceCall) → Leaves h old.channels old.state → Leaves (h ++ Answered message ∷ []) mid.channels mid.state)
    → new ≡ record mid { left = [] } → after ≡ before ++ mid.left → IsSent old before message new after
is_sent r old mid new message before after works fits not_working too_long sent idle history drained all =
    let free : IsErrOf r TooLong → ⊥ = λ e. let more = (too_long e).1 in omega (arith, more, fits) in
    let left = not_refused r (λ e. not_working e works) free sent in
    let is = not_refused r (λ e. not_working e works) free idle in
    record {
      packets = all ∙ ap (λ (ps : List Packet). before ++ ps) left;
      idle = ap (λ (d : DeviceState). d.state) drained ∙ ap (λ (d : DeviceState). d.state) is;
      history = λ h l. subst (λ (d : DeviceState). Leaves (h ++ Answered message ∷ []) d.channels d.state) (sym drained) (history h l);
    }

pub is_answered : (old new : DeviceState) (reply message : List ℕ) (before after : List Packet)
    → (message ≡ reply) ⊎ ((7609 < length reply) × (message ≡ 0x7F ∷ []))
    → IsSent old before message new after → IsAnswered old before reply new after
is_answered old new reply message before after (inl same) s = inl (subst (λ (m : List ℕ). IsSent old before m new after) same s)
is_answered old new reply message before after (inr long) s = inr (long.0, subst (λ (m : List ℕ). IsSent old before m new after) long.1 s)
