-- What a call does to a device: the first line of the table that applies to an initial packet, and the calls by states.
use Rattle.std.proofs.Common.{◌≡◌, ◌≢◌, ℕ, ◌+◌, ◌<◌, ◌≤◌, ◌⊎◌, inl, inr, Bool, true, false, cond, List, [], ◌∷◌, ◌++◌, length, refl, sym, ◌∙◌, arith}
use Rattle.std.specs.Prelude.{◌==◌, ◌||◌, nat_lt}
use Rattle.std.proofs.lemmas.Bool.{cond_both, eqb-true, eqb-false, eq-eqb, ne_eqb, ltb-true, ltb-false}
use Rattle.std.proofs.lemmas.Bool.Decides.{nat_tests}
use Rattle.refusal_order.proofs.Laws.{by_lines}
use Rattle.hidframe.specs.declared.Packet.{Packet}
use Rattle.hidframe.specs.Packets.{Fields, Initial, Continuation, fields}
use Rattle.hidlink.specs.declared.arbitration.Arbitration.{Arbitration}
use Rattle.hidlink.specs.declared.arbitration.Arbitration.TheVariants.{Refused, NewChannel, ChannelAnew, Interrupted, Cancelled, Ignored, Begins}
use Rattle.hidlink.specs.Ranks.{TransactionState, Idle, Receiving, Working, chosen, is_busy, is_receiving_on, is_working_on, rank_lines, rank}
use Rattle.hidlink.specs.History.{DeviceCall, Took, Answered, Kept, Expired, HasRank, Breaks, EndsWork, Unbroken, assigns_channel, continuation_on}
use Rattle.hidlink.specs.Machine.{Effect, came, chosen_effect, effect, packet_effect, to}

-- what a rank and a choice rest on, of a device that is busy or not, and receives or works on c or not
abbrev pub Rests : ℕ → Bool → Bool → Bool → ℕ → ℕ → ℕ → Arbitration → Type 0
Rests n busy receiving working c cmd k (Refused code) = (k ≢ 6) × (k ≢ 8) × (k ≢ 9) × (k ≢ 15) × (1 ≤ c → c ≤ n → c ≢ 0xFFFFFFFF → cmd ≢ 17)
Rests n busy receiving working c cmd k NewChannel = (k ≡ 6) × (cmd ≡ 6) × (busy ≡ false) × (n ≢ 65535)
Rests n busy receiving working c cmd k ChannelAnew = (k ≡ 8) × (cmd ≡ 6) × ((busy ≡ false) ⊎ ((receiving || working) ≡ true))
Rests n busy receiving working c cmd k Interrupted = (k ≡ 9) × (receiving ≡ true)
Rests n busy receiving working c cmd k Cancelled = (k ≡ 10) × (cmd ≡ 17) × (working ≡ true)
Rests n busy receiving working c cmd k Ignored = (k ≡ 11) × (working ≡ false)
Rests n busy receiving working c cmd k Begins = (k ≡ 15) × (busy ≡ false) × ((cmd ≡ 1) ⊎ ((cmd ≡ 16) × (1 ≤ c) × (c ≤ n) × (c ≢ 0xFFFFFFFF)))

pub first_line : (n : ℕ) (s : TransactionState) (c cmd len : ℕ)
    → Rests n (is_busy s) (is_receiving_on s c) (is_working_on s c) c cmd (rank n s c cmd len) (chosen n s c cmd len)
first_line n s c cmd len = by_lines (Rests n (is_busy s) (is_receiving_on s c) (is_working_on s c) c cmd) (rank_lines n s c cmd len) Begins 1 (
  λ on. grind (arith, nat_tests),
  λ r1. (
    λ on. grind (arith, nat_tests),
    λ r2. (
      λ on. grind (arith, nat_tests),
      λ r3. (
        λ on. grind (arith, nat_tests),
        λ r4. (
          λ on. grind (arith, nat_tests),
          λ r5. (
            λ on. grind (arith, nat_tests),
            λ r6. (
              λ on. grind (arith, nat_tests),
              λ r7. (
                λ on. grind (arith, nat_tests),
                λ r8. (
                  λ on. grind (arith, nat_tests),
                  λ r9. (
                    λ on. grind (arith, nat_tests),
                    λ r10. (
                      λ on. grind (arith, nat_tests),
                      λ r11. (
                        λ on. grind (arith, nat_tests),
                        λ r12. (λ on. grind (arith, nat_tests), λ r13. (λ on. grind (arith, nat_tests), λ r14. grind (arith, nat_tests))),
                      ),
                    ),
                  ),
                ),
              ),
            ),
          ),
        ),
      ),
    ),
  ),
)

-- ---- of an idle device

pub data AtIdle (n : ℕ) (call : DeviceCall) (e : Effect) : Type 0 where
  begins : (p : Packet) (c cmd len : ℕ) (area : List ℕ) → call ≡ Took p → fields p ≡ Initial c cmd len area → rank n Idle c cmd len ≡ 15
      → e ≡ came n c cmd len 0 area → AtIdle n call e
  stands : (HasRank n Idle 15 call → ⊥) → e ≡ to (cond (assigns_channel n call) (n + 1) n) Idle → AtIdle n call e

pub at_idle : (n : ℕ) (call : DeviceCall) → AtIdle n call (effect n Idle call)
at_idle n (Answered m) = stands (λ h. h) refl
at_idle n (Kept status) = stands (λ h. h) refl
at_idle n Expired = stands (λ h. h) refl
at_idle n (Took p) = packet (fields p) refl
  where
    packet : (f : Fields) → fields p ≡ f → AtIdle n (Took p) (packet_effect n Idle f)
    packet (Continuation c seq area) says = stands (λ r. rw says at r) (rw says refl)
    packet (Initial c cmd len area) says = by (chosen n Idle c cmd len) (first_line n Idle c cmd len)
      where
        by : (a : Arbitration) → Rests n false false false c cmd (rank n Idle c cmd len) a → AtIdle n (Took p) (chosen_effect n Idle c cmd len area a)
        by (Refused code) r = stands (λ h. r.3 (rw says at h)) (rw (says, ne_eqb (rank n Idle c cmd len) 6 r.0) refl)
        by Interrupted r = absurd (cc)
        by Cancelled r = absurd (cc)
        by Begins r = begins p c cmd len area refl says r.0 refl
        by _ r = stands (λ h. let k : rank n Idle c cmd len ≡ 15 = rw says at h in omega arith) (rw (says, r.0) refl)

-- a packet of rank 15 begins a message
pub ranked : (n c cmd len : ℕ) → rank n Idle c cmd len ≡ 15 → (cmd ≡ 1) ⊎ ((cmd ≡ 16) × (1 ≤ c) × (c ≤ n) × (c ≢ 0xFFFFFFFF))
ranked n c cmd len e = by (chosen n Idle c cmd len) (first_line n Idle c cmd len)
  where
    by : (a : Arbitration) → Rests n false false false c cmd (rank n Idle c cmd len) a → (cmd ≡ 1) ⊎ ((cmd ≡ 16) × (1 ≤ c) × (c ≤ n) × (c ≢ 0xFFFFFFFF))
    by (Refused code) r = absurd (r.3 e)
    by Begins r = r.2
    by _ r = absurd (omega arith)

-- ---- of one to which a message comes

pub data AtIncoming (n c cmd len next : ℕ) (bytes : List ℕ) (call : DeviceCall) (e : Effect) : Type 0 where
  passes : continuation_on c call ≡ [] → Unbroken n c cmd len call → e ≡ to n (Receiving c cmd len next bytes) → AtIncoming n c cmd len next bytes call e
  continues : (p : Packet) (area : List ℕ) → call ≡ Took p → continuation_on c call ≡ Continuation c next area ∷ [] → Unbroken n c cmd len call
      → e ≡ came n c cmd len (next + 1) (bytes ++ area) → AtIncoming n c cmd len next bytes call e
  breaks : Breaks n c cmd len next call → e ≡ to n Idle → AtIncoming n c cmd len next bytes call e

pub at_incoming : (n c cmd len next : ℕ) (bytes : List ℕ) (call : DeviceCall)
    → AtIncoming n c cmd len next bytes call (effect n (Receiving c cmd len next bytes) call)
at_incoming n c cmd len next bytes (Answered m) = passes refl ((λ e. cc), (λ r. r), (λ r. r)) refl
at_incoming n c cmd len next bytes (Kept status) = passes refl ((λ e. cc), (λ r. r), (λ r. r)) refl
at_incoming n c cmd len next bytes Expired = breaks (inl refl) refl
at_incoming n c cmd len next bytes (Took p) = packet (fields p) refl
  where
    s : TransactionState
    s = Receiving c cmd len next bytes

    packet : (f : Fields) → fields p ≡ f → AtIncoming n c cmd len next bytes (Took p) (packet_effect n s f)
    packet (Initial cid kind size area) says = by (chosen n s cid kind size) (first_line n s cid kind size)
      where
        by : (a : Arbitration) → Rests n true (c == cid) false cid kind (rank n s cid kind size) a
            → AtIncoming n c cmd len next bytes (Took p) (chosen_effect n s cid kind size area a)
        by (Refused code) r = passes (rw says refl) ((λ e. cc), (λ k. r.1 (rw says at k)), (λ k. r.2 (rw says at k))) refl
        by ChannelAnew r = breaks (inr (inl (rw says r.0))) refl
        by Interrupted r = breaks (inr (inr (inl (rw says r.0)))) refl
        by Ignored r =
            let other : (k : ℕ) → k ≢ 11 → rank n s cid kind size ≢ k = λ k apart e. apart (sym e ∙ r.0) in
            passes (rw says refl) ((λ e. cc), (λ k. other 8 (λ e. omega arith) (rw says at k)), (λ k. other 9 (λ e. omega arith) (rw says at k))) refl
        by _ r = absurd (cc)
    packet (Continuation cid seq area) says = split (c == cid) (seq == next) refl refl
      where
        split : (here right : Bool) → (c == cid) ≡ here → (seq == next) ≡ right
            → AtIncoming n c cmd len next bytes (Took p) (cond here (cond right (came n c cmd len (next + 1) (bytes ++ area)) (to n Idle)) (to n s))
        split true true e k = continues p area refl (rw (says, eq-eqb cid c (sym (eqb-true c cid e)), eqb-true c cid e, eqb-true seq next k) refl)
            ((λ x. cc), (λ r. rw says at r), (λ r. rw says at r)) refl
        split true false e k = breaks (inr
            (inr (inr (seq, area, rw (says, eq-eqb cid c (sym (eqb-true c cid e)), eqb-true c cid e) refl, eqb-false seq next k)))) refl
        split false right e k = passes (rw (says, ne_eqb cid c (λ x. eqb-false c cid e (sym x))) refl)
            ((λ x. cc), (λ r. rw says at r), (λ r. rw says at r)) refl

-- ---- of one that works

pub data AtWork (n c : ℕ) (payload : List ℕ) (call : DeviceCall) (e : Effect) : Type 0 where
  stays : (EndsWork n c payload call → ⊥) → e ≡ to n (Working c payload) → AtWork n c payload call e
  ends : EndsWork n c payload call → e ≡ to n Idle → AtWork n c payload call e

pub at_work : (n c : ℕ) (payload : List ℕ) (call : DeviceCall) → AtWork n c payload call (effect n (Working c payload) call)
at_work n c payload (Answered m) = cond_both (nat_lt 7609 (length m)) _ _ (AtWork n c payload (Answered m))
    (λ long. let h : 7609 < length m = ltb-true 7609 (length m) long in stays (λ short. omega arith) refl)
    (λ short. ends (ltb-false 7609 (length m) short) refl)
at_work n c payload (Kept status) = stays (λ r. r) refl
at_work n c payload Expired = stays (λ r. r) refl
at_work n c payload (Took p) = packet (fields p) refl
  where
    s : TransactionState
    s = Working c payload

    packet : (f : Fields) → fields p ≡ f → AtWork n c payload (Took p) (packet_effect n s f)
    packet (Continuation cid seq area) says = stays (λ r. rw says at r) refl
    packet (Initial cid kind size area) says = by (chosen n s cid kind size) (first_line n s cid kind size)
      where
        by : (a : Arbitration) → Rests n true false (c == cid) cid kind (rank n s cid kind size) a
            → AtWork n c payload (Took p) (chosen_effect n s cid kind size area a)
        by (Refused code) r = stays (λ e. r.1 (rw says at e)) refl
        by ChannelAnew r = ends (rw says r.0) refl
        by Cancelled r = stays (λ e. let k : rank n s cid kind size ≡ 8 = rw says at e in omega arith) refl
        by Ignored r = stays (λ e. let k : rank n s cid kind size ≡ 8 = rw says at e in omega arith) refl
        by _ r = absurd (cc)
