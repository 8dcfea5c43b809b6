-- What a whole list of packets gives.
use Rattle.std.proofs.Common.{◌≡◌, ◌↔◌, ℕ, ◌+◌, ◌<◌, ◌≤◌, List, [], ◌∷◌, length, take, sym, ◌∙◌, ap, subst, arith}
use Rattle.hidframe.specs.declared.Packet.{Packet}
use Rattle.hidlink.specs.declared.collection.DeadKind.{DeadKind}
use Rattle.hidlink.specs.declared.collection.Received.{Received}
use Rattle.hidlink.specs.declared.collection.Received.TheVariants.{Message, DeviceError, Dead, Incomplete}
use Rattle.hidlink.specs.Wire.{Carries, Holds, Got, Shown, Replied, Failed, Died}
use Rattle.hidlink.specs.Collected.{ShowsAfter}
use Rattle.hidlink.specs.Receives.{IsDeath, IsDeviceError, IsIncomplete, IsMessage, IsTaken, Receives}
use Rattle.hidlink.specs.Steps.{IsEnded}
use Rattle.hidlink.proofs.Beginnings.{taken}
use Rattle.hidlink.proofs.Exactly.{by_way}
use Rattle.hidlink.proofs.Laws.{carried_ends, carries_first, death_ends, dies_first}
use Rattle.hidlink.proofs.Shows.{ended_holds, holds_ended, one_shown}
use Rattle.hidlink.proofs.Taken.{carried, died, died_at, taken_is}

-- ---- what an answer after n packets says of what is shown

module _ (s : Shown) (n : ℕ) where
  message : (r : Received) (m : List ℕ) (k : ℕ) → ShowsAfter s n r → IsMessage r m k ↔ ((s ≡ Replied m) × (k ≡ n))
  message (Message bytes used) m k h = (λ q. (h.0 ∙ ap Replied q.0, sym q.1 ∙ h.1), λ q. (cc, h.1 ∙ sym q.1))
  message Incomplete m k h = (λ q. absurd q, λ q. absurd (h (rw q.0 tt)))
  message _ m k h = (λ q. absurd q, λ q. absurd (cc))

  device_error : (r : Received) (code k : ℕ) → ShowsAfter s n r → IsDeviceError r code k ↔ ((s ≡ Failed code) × (k ≡ n))
  device_error (DeviceError number used) code k h = (λ q. (h.0 ∙ ap Failed q.0, sym q.1 ∙ h.1), λ q. (cc, h.1 ∙ sym q.1))
  device_error Incomplete code k h = (λ q. absurd q, λ q. absurd (h (rw q.0 tt)))
  device_error _ code k h = (λ q. absurd q, λ q. absurd (cc))

  death : (r : Received) (j : ℕ) (kind : DeadKind) → ShowsAfter s n r → IsDeath r j kind ↔ ((s ≡ Died kind) × (j + 1 ≡ n))
  death (Dead index kind') j kind h = (λ q. (h.0 ∙ ap Died q.1, ap (λ i. i + 1) (sym q.0) ∙ h.1), λ q. (omega arith, cc))
  death Incomplete j kind h = (λ q. absurd q, λ q. absurd (h (rw q.0 tt)))
  death _ j kind h = (λ q. absurd q, λ q. absurd (cc))

  incomplete : (r : Received) → ShowsAfter s n r → IsIncomplete r ↔ (IsEnded s → ⊥)
  incomplete Incomplete h = (λ _. h, λ _. tt)
  incomplete (Message bytes used) h = (λ e. absurd e, λ e. e (rw h.0 tt))
  incomplete (DeviceError code used) h = (λ e. absurd e, λ e. e (rw h.0 tt))
  incomplete (Dead index kind) h = (λ e. absurd e, λ e. e (rw h.0 tt))

-- so of the packets of which n are taken
pub receives : (c n : ℕ) (ps : List Packet) (s : Shown) (r : Received) → Got c ps s → IsTaken c ps n → ShowsAfter s n r → Receives c ps r
receives c n ps s r g t shows =
    let P : Shown → Type 0 = Holds c ps in
    let one = λ (x : Shown) (h : Holds c ps x). one_shown c ps s x g.channel g.packets g.holds h in
    let here = λ (k cmd : ℕ) (m : List ℕ) (within : k ≤ length ps) (h : Carries c (take k ps) cmd m).
    taken_is c k n ps within (carried_ends c (take k ps) cmd m h) (λ j less. carries_first c j k ps cmd m less within h) t in
    record {
      message = λ m k. by_way (message s n r m k shows) (
        λ q. let h = subst P q.0 g.holds in subst (λ i. (i ≤ length ps) × Carries c (take i ps) 16 m) (sym q.1) (carried c n ps h.0 16 m h.1 h.2 t),
        λ q. (one (Replied m) (take k ps, taken k ps, q.1), here k 16 m q.0 q.1),
      );
      device_error = λ code k. by_way (device_error s n r code k shows) (
        λ q. let h = subst P q.0 g.holds in
            subst (λ i. (i ≤ length ps) × Carries c (take i ps) 63 (code ∷ [])) (sym q.1) (carried c n ps h.0 63 (code ∷ []) h.1 h.2 t),
        λ q. (one (Failed code) (take k ps, taken k ps, q.1), here k 63 (code ∷ []) q.0 q.1),
      );
      dead = λ i kind. by_way (death s n r i kind shows) (
        λ q. let h = subst P q.0 g.holds in died_at c n i ps kind (died c n ps h.0 kind h.1 h.2 t) t q.1,
        λ q. let within : i < length ps = q.0 in (
          one (Died kind) (take (i + 1) ps, taken (i + 1) ps, q.1),
          taken_is c (i + 1) n ps (omega arith) (death_ends c (take (i + 1) ps) kind q.1) (λ j less. dies_first c j (i + 1) ps kind less (omega arith) q.1) t,
        ),
      );
      incomplete = by_way (incomplete s n r shows)
          (λ e h. e (holds_ended c ps s g.channel g.packets g.holds h), λ e h. e (ended_holds c ps s h g.holds));
    }
