-- Packets come to one end: one message, one error or one death.
use Rattle.std.proofs.Common.{◌≡◌, ℕ, ◌^◌, ◌<◌, ◌≤◌, ◌⊎◌, inl, inr, List, [], ◌∷◌, ◌++◌, length, take, refl, sym, ◌∙◌, ap, subst, arith, slice_index}
use Rattle.std.proofs.lemmas.Bool.{cases_lt}
use Rattle.std.proofs.lemmas.List.{length-take-le}
use Rattle.hidframe.specs.declared.Packet.{Packet}
use Rattle.hidlink.specs.declared.collection.DeadKind.{DeadKind}
use Rattle.hidlink.specs.Wire.{IsBeginning, Carries, HasEnded, Dies, Replied, Failed, Died}
use Rattle.hidlink.specs.Steps.{state}
use Rattle.hidlink.proofs.Runs.{ending, state-carries}
use Rattle.hidlink.proofs.Beginnings.{begins_itself, beginning_cases, comparable, has_ended_later, taken, taken_less}
use Rattle.hidlink.proofs.SoFar.{ArePackets, packets_left}
use Rattle.hidlink.proofs.Shows.{carries_now, dies_now, state-dies}

-- fewer packets of a list begin what is before its last packet
before_last : (j k : ℕ) (ps before : List Packet) (last : Packet) → j < k → k ≤ length ps → take k ps ≡ before ++ last ∷ [] → IsBeginning (take j ps) before
before_last j k ps before last less within e =
    elim (beginning_cases (take j ps) before last (subst (λ qs. IsBeginning (take j ps) qs) e (taken_less j k ps (omega arith)))) [
      | inl b ↦ b
      | inr all ↦
          let same : length (take j ps) ≡ length (take k ps) = ap length (all ∙ sym e) in
          absurd (omega (arith, length-take-le j ps (omega arith), length-take-le k ps within))
    ]

-- before the packet that completes what is carried nothing has ended, nor before that after which none can come
pub carries_first : (c j k : ℕ) (ps : List Packet) (cmd : ℕ) (m : List ℕ) → j < k → k ≤ length ps → Carries c (take k ps) cmd m → HasEnded c (take j ps) → ⊥
carries_first c j k ps cmd m less within h e =
    carries_now c h.before h.last cmd m (subst (λ qs. Carries c qs cmd m) h.ends h)
    (has_ended_later (take j ps) h.before (before_last j k ps h.before h.last less within h.ends) e)

pub dies_first : (c j k : ℕ) (ps : List Packet) (kind : DeadKind) → j < k → k ≤ length ps → Dies c (take k ps) kind → HasEnded c (take j ps) → ⊥
dies_first c j k ps kind less within d e =
    dies_now c d.before d.last kind (subst (λ qs. Dies c qs kind) d.ends d)
    (has_ended_later (take j ps) d.before (before_last j k ps d.before d.last less within d.ends) e)

pub carried_ends : (c : ℕ) (ps : List Packet) (cmd : ℕ) (m : List ℕ) → Carries c ps cmd m → HasEnded c ps
carried_ends c ps cmd m h = inl (ps, cmd, m, begins_itself ps, h)

pub death_ends : (c : ℕ) (ps : List Packet) (kind : DeadKind) → Dies c ps kind → HasEnded c ps
death_ends c ps kind d = inr (ps, begins_itself ps, d.dead)

-- the message of one byte
one_byte : (m : List ℕ) → length m ≡ 1 → m ≡ slice_index m 0 ∷ []
one_byte [] h = absurd (omega arith)
one_byte (b ∷ []) h = refl
one_byte (b ∷ x ∷ m) h = absurd (omega arith)

-- how a message ends tells the message
ending_tells : (cmd other : ℕ) (m n : List ℕ) → (cmd ≡ 16) ⊎ ((cmd ≡ 63) × (length m ≡ 1)) → (other ≡ 16) ⊎ ((other ≡ 63) × (length n ≡ 1))
    → ending cmd m ≡ ending other n → (cmd ≡ other) × (m ≡ n)
ending_tells cmd other m n (inl a) (inl b) e =
    let x : Replied m ≡ Replied n = sym (ap (λ k. ending k m) a) ∙ e ∙ ap (λ k. ending k n) b in (a ∙ sym b, cc)
ending_tells cmd other m n (inl a) (inr b) e =
    let x : Replied m ≡ Failed (slice_index n 0) = sym (ap (λ k. ending k m) a) ∙ e ∙ ap (λ k. ending k n) b.0 in absurd (cc)
ending_tells cmd other m n (inr a) (inl b) e =
    let x : Failed (slice_index m 0) ≡ Replied n = sym (ap (λ k. ending k m) a.0) ∙ e ∙ ap (λ k. ending k n) b in absurd (cc)
ending_tells cmd other m n (inr a) (inr b) e =
    let x : Failed (slice_index m 0) ≡ Failed (slice_index n 0) = sym (ap (λ k. ending k m) a.0) ∙ e ∙ ap (λ k. ending k n) b.0 in
    let byte : slice_index m 0 ≡ slice_index n 0 = cc in
    (a.0 ∙ sym b.0, one_byte m a.1 ∙ ap (λ x. x ∷ []) byte ∙ sym (one_byte n b.1))

-- one list carries one thing
carries_one : (c : ℕ) (ps : List Packet) (cmd other : ℕ) (m n : List ℕ) → Carries c ps cmd m → Carries c ps other n → (cmd ≡ other) × (m ≡ n)
carries_one c ps cmd other m n a b = ending_tells cmd other m n a.kind b.kind (sym (state-carries c ps cmd m a) ∙ state-carries c ps other n b)

-- of two places neither is before the other
pub one_place : (j k : ℕ) → (j < k → ⊥) → (k < j → ⊥) → j ≡ k
one_place j k a b = elim (cases_lt j k) [ inl less ↦ absurd (a less) | inr ge ↦ elim (cases_lt k j) [ inl more ↦ absurd (b more) | inr le ↦ omega arith ] ]

pub one_carried : (c j k : ℕ) (ps : List Packet) (cmd other : ℕ) (m n : List ℕ) → j ≤ length ps → k ≤ length ps
    → Carries c (take j ps) cmd m → Carries c (take k ps) other n → (j ≡ k) × (cmd ≡ other) × (m ≡ n)
one_carried c j k ps cmd other m n hj hk a b =
    let place : j ≡ k = one_place j k (λ less. carries_first c j k ps other n less hk b (carried_ends c (take j ps) cmd m a))
    (λ more. carries_first c k j ps cmd m more hj a (carried_ends c (take k ps) other n b)) in
    let both = carries_one c (take k ps) cmd other m n (subst (λ i. Carries c (take i ps) cmd m) place a) b in
    (place, both.0, both.1)

pub one_death : (c j k : ℕ) (ps : List Packet) (kind other : DeadKind) → c < 2 ^ 32 → ArePackets (take j ps)
    → j ≤ length ps → k ≤ length ps → Dies c (take j ps) kind → Dies c (take k ps) other → (j ≡ k) × (kind ≡ other)
one_death c j k ps kind other low all hj hk a b =
    let place : j ≡ k = one_place j k (λ less. dies_first c j k ps other less hk b (death_ends c (take j ps) kind a))
    (λ more. dies_first c k j ps kind more hj a (death_ends c (take k ps) other b)) in
    let x : Died kind ≡ Died other = sym (state-dies c (take j ps) kind low all a) ∙ ap (λ i. state c (take i ps)) place
    ∙ state-dies c (take k ps) other low (subst (λ i. ArePackets (take i ps)) place all) b in
    (place, cc)

pub not_both : (c j k : ℕ) (ps : List Packet) (cmd : ℕ) (m : List ℕ) (kind : DeadKind) → Carries c (take j ps) cmd m → Dies c (take k ps) kind → ⊥
not_both c j k ps cmd m kind a d = d.dead (take j ps) cmd m (comparable (take j ps) (take k ps) ps (taken j ps) (taken k ps)) a

pub packets_taken : (k : ℕ) (ps : List Packet) → ArePackets ps → ArePackets (take k ps)
packets_taken k ps all = let A : List Packet → Type 0 = ArePackets in
    let t = taken k ps in packets_left (take k ps) t.0 (subst A t.1 all)
