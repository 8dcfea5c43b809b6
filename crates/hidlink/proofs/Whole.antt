-- A request that comes whole to an idle device: its packets one after another.
use Rattle.std.proofs.Common.{◌≡◌, ◌≢◌, ℕ, ◌+◌, ◌<◌, ◌≤◌, true, false, cond, List, [], ◌∷◌, ◌++◌, length, take, map, refl, sym, ◌∙◌, ap, subst, arith}
use Rattle.std.specs.Prelude.{nat_lt}
use Rattle.std.proofs.lemmas.List.{append_assoc, append-nil, take_at}
use Rattle.std.proofs.lemmas.Bool.{eq-eqb, lt-ltb, le-ltb}
use Rattle.std.proofs.lemmas.Bool.Decides.{nat_tests}
use Rattle.hidframe.specs.declared.Packet.{Packet}
use Rattle.hidframe.specs.Packets.{Fields, Initial, Continuation, fields}
use Rattle.hidframe.specs.Frames.{ZeroFrames, continuations, continuation_count, joined}
use Rattle.hidlink.specs.declared.arbitration.Arbitration.TheVariants.{Begins}
use Rattle.hidlink.specs.Ranks.{TransactionState, Idle, Receiving, Working, chosen, chosen_response, on_receipt, response}
use Rattle.hidlink.specs.History.{Answered, DeviceCall, Kept, Leaves, Took}
use Rattle.hidlink.specs.Machine.{Effect, came, chosen_effect, packet_effect, to}
use Rattle.hidlink.specs.Told.{IsOut, told_before}
use Rattle.hidlink.proofs.Calls.{leaves_to}
use Rattle.hidlink.proofs.Most.{at_most}
use Rattle.hidlink.proofs.Moves.{came_all, came_more}
use Rattle.hidlink.proofs.Steps.{leaves-push}

came_out : (n c len next : ℕ) (bytes : List ℕ) → Effect.channels (came n c 16 len next bytes) ≡ n
came_out n c len next bytes = elim (nat_lt next (continuation_count len)) as
    (λ b. Effect.channels (cond b (to n (Receiving c 16 len next bytes)) (to n (Working c (take len bytes)))) ≡ n) [ true ↦ refl | false ↦ refl ]

-- a packet of the message that says f
takes : (h : List DeviceCall) (n c len next : ℕ) (bytes : List ℕ) (s : TransactionState) (p : Packet) (f : Fields) → fields p ≡ f
    → packet_effect n s f ≡ came n c 16 len next bytes
    → Leaves h n s → Leaves (h ++ Took p ∷ []) n (came n c 16 len next bytes).after
takes h n c len next bytes s p f says e l =
    subst (λ (k : ℕ). Leaves (h ++ Took p ∷ []) k (came n c 16 len next bytes).after) (came_out n c len next bytes)
    (subst (λ (x : Effect). Leaves (h ++ Took p ∷ []) x.channels x.after) (ap (packet_effect n s) says ∙ e) (leaves-push h n s (Took p) l))

-- what is answered with as many continuations
told_now : (c len next : ℕ) (bytes : List ℕ) (later : List (List ℕ)) (after : List Packet) → map fields after ≡ continuations c next later
    → next + length later ≡ continuation_count len → on_receipt c 16 len next bytes ≡ told_before c after
told_now c len next bytes [] [] e size = let all : continuation_count len ≤ next = omega arith in rw (le-ltb next (continuation_count len) all) refl
told_now c len next bytes (a ∷ later) (p ∷ ps) e size = rw (lt-ltb next (continuation_count len) (omega arith)) refl
told_now c len next bytes _ _ e size = absurd (cc)

-- Continuations came, and these are to come: so much is there.
record Way (h : List DeviceCall) (n c len : ℕ) (before after : List Packet) (whole : List ℕ) : Type 0 where
  next : ℕ
  bytes : List ℕ
  later : List (List ℕ)
  leaves : Leaves (h ++ map Took before) n (came n c 16 len next bytes).after
  rest : map fields after ≡ continuations c next later
  count : next + length later ≡ continuation_count len
  so_far : bytes ++ joined later ≡ whole

behind : {h : List DeviceCall} {n c len : ℕ} {b : Packet} {before after : List Packet} {whole all : List ℕ} → Way (h ++ Took b ∷ []) n c len before after whole
    → whole ≡ all → Way h n c len (b ∷ before) after all
behind {h} {n} {c} {len} {b} {before} w e = record {
  next = w.next;
  bytes = w.bytes;
  later = w.later;
  leaves = subst (λ (x : List DeviceCall). Leaves x n (came n c 16 len w.next w.bytes).after) (append_assoc h (Took b ∷ []) (map Took before)) w.leaves;
  rest = w.rest;
  count = w.count;
  so_far = w.so_far ∙ e;
}

on_the_way : (h : List DeviceCall) (n c len next : ℕ) (bytes : List ℕ) (later : List (List ℕ)) (before after : List Packet)
    → map fields (before ++ after) ≡ continuations c next later
    → next + length later ≡ continuation_count len → Leaves h n (came n c 16 len next bytes).after → Way h n c len before after (bytes ++ joined later)
on_the_way h n c len next bytes later [] after e size l =
    record { next = next; bytes = bytes; later = later; leaves = rw (append-nil h) l; rest = e; count = size; so_far = refl }
on_the_way h n c len next bytes [] (b ∷ before) after e size l = absurd (cc)
on_the_way h n c len next bytes (a ∷ later) (b ∷ before) after e size l =
    let head : fields b ≡ Continuation c next a = cc in
    let open_now : Leaves h n (Receiving c 16 len next bytes) = subst (λ (x : Effect). Leaves h n x.after) (came_more n c 16 len next bytes (omega arith)) l in
    let w : Way (h ++ Took b ∷ []) n c len before after ((bytes ++ a) ++ joined later) =
    on_the_way (h ++ Took b ∷ []) n c len (next + 1) (bytes ++ a) later before after (cc) (omega arith)
    (takes h n c len (next + 1) (bytes ++ a) (Receiving c 16 len next bytes) b (Continuation c next a) head
    (rw (eq-eqb c c refl, eq-eqb next next refl) refl) open_now) in
    behind w (append_assoc bytes a (joined later))

-- the initial packet: no line of the table applies
begun : (n c len : ℕ) → IsOut n c → n ≤ 65535 → 1 ≤ len → len ≤ 7609 → chosen n Idle c 16 len ≡ Begins
begun n c len out most some room = grind (arith, nat_tests)

some_bytes : (m : List ℕ) → m ≢ [] → 1 ≤ length m
some_bytes [] h = absurd (h refl)
some_bytes (b ∷ m) h = omega arith

module _ (h : List DeviceCall) (n c : ℕ) (m : List ℕ) (l : Leaves h n Idle) (out : IsOut n c) (some : m ≢ []) where
  -- the first packet, and what came with those after it
  first : (p : Packet) (ps : List Packet) (z : ZeroFrames c 16 m (p ∷ ps)) → response n Idle (fields p) ≡ on_receipt c 16 (length m) 0 z.frames.first
  first p ps z = let e = z.frames.packets in
      let head : fields p ≡ Initial c 16 (length m) z.frames.first = cc in
      ap (response n Idle) head ∙ ap (chosen_response n Idle c 16 (length m) z.frames.first)
      (begun n c (length m) out (at_most h n Idle l) (some_bytes m some) z.frames.room)

  way : (p : Packet) (before after : List Packet) (z : ZeroFrames c 16 m (p ∷ (before ++ after))) → Way h n c (length m) (p ∷ before) after (m ++ z.frames.rest)
  way p before after z = let e = z.frames.packets in
      let head : fields p ≡ Initial c 16 (length m) z.frames.first = cc in
      let tail : map fields (before ++ after) ≡ continuations c 0 z.frames.later = cc in
      let w : Way (h ++ Took p ∷ []) n c (length m) before after (z.frames.first ++ joined z.frames.later) =
      on_the_way (h ++ Took p ∷ []) n c (length m) 0 z.frames.first z.frames.later before after tail (omega (arith, z.frames.count))
      (takes h n c (length m) 0 z.frames.first Idle p (Initial c 16 (length m) z.frames.first) head
      (ap (chosen_effect n Idle c 16 (length m) z.frames.first) (begun n c (length m) out (at_most h n Idle l) (some_bytes m some) z.frames.room)) l) in
      behind w z.frames.begins

-- where none is to come
pub comes : (h : List DeviceCall) (n c : ℕ) (m : List ℕ) (ps : List Packet) → Leaves h n Idle → IsOut n c → m ≢ [] → ZeroFrames c 16 m ps
    → Leaves (h ++ map Took ps) n (Working c m)
comes h n c m [] l out some z = let e = z.frames.packets in absurd (cc)
comes h n c m (p ∷ ps) l out some z' =
    let z : ZeroFrames c 16 m (p ∷ (ps ++ [])) = rw append-nil z' in
    let w : Way h n c (length m) (p ∷ ps) [] (m ++ z.frames.rest) = way h n c m l out some p ps [] z in
    let none : w.later ≡ [] = nothing w.next w.later w.rest in
    let count : w.next + length w.later ≡ continuation_count (length m) = w.count in
    let size : length w.later ≡ 0 = ap length none in
    let all : continuation_count (length m) ≤ w.next = omega arith in
    let bytes : w.bytes ≡ m ++ z.frames.rest = sym (append-nil w.bytes) ∙ ap (λ later. w.bytes ++ joined later) (sym none) ∙ w.so_far in
    subst (λ (s : TransactionState). Leaves (h ++ map Took (p ∷ ps)) n s)
    (ap Effect.after (came_all n c 16 (length m) w.next w.bytes all) ∙ ap (λ x. Working c (take (length m) x)) bytes
    ∙ ap (Working c) (take_at m z.frames.rest (length m) refl)) w.leaves
  where
    nothing : (k : ℕ) (later : List (List ℕ)) → [] ≡ continuations c k later → later ≡ []
    nothing k [] e = refl
    nothing k (a ∷ later) e = absurd (cc)

-- what is answered of the next continuation
next_told : (n c len next : ℕ) (bytes : List ℕ) (later : List (List ℕ)) (p : Packet) (after : List Packet) → map fields (p ∷ after) ≡ continuations c next later
    → next + length later ≡ continuation_count len → (next < continuation_count len)
    × (response n (Receiving c 16 len next bytes) (fields p) ≡ told_before c after)
next_told n c len next bytes [] p after e size = absurd (cc)
next_told n c len next bytes (a ∷ later) p after e size =
    let head : fields p ≡ Continuation c next a = cc in
    (omega arith, rw (head, eq-eqb c c refl, eq-eqb next next refl) (told_now c len (next + 1) (bytes ++ a) later after (cc) (omega arith)))

pub quiet : (h : List DeviceCall) (n c : ℕ) (m : List ℕ) (before : List Packet) (p : Packet) (after : List Packet) → Leaves h n Idle → IsOut n c → m ≢ []
    → ZeroFrames c 16 m (before ++ p ∷ after) → (s : TransactionState) × Leaves (h ++ map Took before) n s × (response n s (fields p) ≡ told_before c after)
quiet h n c m [] p after l out some z =
    let e = z.frames.packets in
    let tail : map fields after ≡ continuations c 0 z.frames.later = cc in (
      Idle,
      rw append-nil l,
      first h n c m l out some p after z
          ∙ told_now c (length m) 0 z.frames.first z.frames.later after tail (omega (arith, z.frames.count)),
    )
quiet h n c m (b ∷ before) p after l out some z =
    let w : Way h n c (length m) (b ∷ before) (p ∷ after) (m ++ z.frames.rest) = way h n c m l out some b before (p ∷ after) z in
    let told = next_told n c (length m) w.next w.bytes w.later p after w.rest w.count in (
      Receiving c 16 (length m) w.next w.bytes,
      subst (λ (x : Effect). Leaves (h ++ map Took (b ∷ before)) n x.after) (came_more n c 16 (length m) w.next w.bytes told.0) w.leaves,
      told.1,
    )

-- ---- a keepalive, and an answer

pub stays : (h : List DeviceCall) (n c status : ℕ) (m : List ℕ) → Leaves h n (Working c m) → Leaves (h ++ Kept status ∷ []) n (Working c m)
stays h n c status m l = leaves_to (Kept status) l refl

pub ends : (h : List DeviceCall) (n c : ℕ) (m reply : List ℕ) → Leaves h n (Working c m) → length reply ≤ 7609 → Leaves (h ++ Answered reply ∷ []) n Idle
ends h n c m reply l room = leaves_to (Answered reply) l (rw (le-ltb 7609 (length reply) room) refl)
