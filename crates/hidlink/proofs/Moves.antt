-- What the calls of a part leave a device doing: with a call more, and in one way.
use Rattle.std.proofs.Common.{◌≡◌, ◌≢◌, ℕ, ◌+◌, ◌<◌, ◌≤◌, ◌⊎◌, inl, inr, cond, List, [], ◌∷◌, ◌++◌, length, take, refl, sym, ◌∙◌, ap, subst, arith, zero-add}
use Rattle.std.specs.Prelude.{◌==◌, nat_lt}
use Rattle.std.specs.List.{AllByRecursion}
use Rattle.std.proofs.lemmas.List.{append_assoc, append-nil, flat_map_more, length_push, same_from_push}
use Rattle.std.proofs.lemmas.Bool.{eqb-true, eqb-false, ltb-true, ltb-false, lt-ltb, le-ltb, cond_both}
use Rattle.hidframe.specs.declared.Packet.{Packet}
use Rattle.hidframe.specs.Packets.{Fields, Initial, Continuation, fields}
use Rattle.hidframe.specs.Frames.{continuations, continuation_count, joined}
use Rattle.hidlink.specs.Ranks.{TransactionState, Idle, Receiving, Working, rank}
use Rattle.hidlink.specs.History.{DeviceCall, Took, continuation_on, continued, Unbroken, Transaction, IsIncoming, IsComplete, EndsWork, IsAtWork}
use Rattle.hidlink.specs.History.{Breaks, Closed, alone, pinged, broken, ended, Doing, assigns, channels_after}
use Rattle.hidlink.specs.Machine.{Effect, came, effect, to}
use Rattle.hidlink.proofs.Lines.{at_idle, at_incoming, at_work, begins, stands, passes, continues, breaks, stays, ends, ranked}
use Rattle.hidlink.proofs.Runs.{cases_last, continuations-append}

-- ---- one more call

-- a call closes the part, or leaves it open and the device busy
abbrev pub Goes : ℕ → List DeviceCall → DeviceCall → Effect → Type 0
Goes n last call e =
    ((e.after ≡ Idle) × Closed n (last ++ call ∷ []) × (e.channels ≡ channels_after n (last ++ call ∷ [])))
    ⊎ ((e.after ≢ Idle) × Doing n (last ++ call ∷ []) e.after × (e.channels ≡ n))

all_push : {X : Type 0} (P : X → Type 0) (xs : List X) (x : X) → AllByRecursion P xs → P x → AllByRecursion P (xs ++ x ∷ [])
all_push P [] x h k = (k, tt)
all_push P (y ∷ xs) x h k = (h.0, all_push P xs x h.1 k)

-- a transaction with a call more
with_call : {n c cmd len : ℕ} {calls : List DeviceCall} {later : List (List ℕ)} {bytes : List ℕ} (t : Transaction n calls c cmd len later bytes)
    (call : DeviceCall) (all : List (List ℕ)) (bytes_now : List ℕ)
    → Unbroken n c cmd len call → continued c t.others ++ continuation_on c call ≡ continuations c 0 all → bytes_now ≡ t.area ++ joined all
    → Transaction n (calls ++ call ∷ []) c cmd len all bytes_now
with_call {n} {c} {cmd} {len} t call all bytes_now ok numbered so_far = record {
  first = t.first;
  area = t.area;
  others = t.others ++ call ∷ [];
  whole = ap (λ cs. cs ++ call ∷ []) t.whole;
  begins = t.begins;
  ranked = t.ranked;
  numbered = sym (flat_map_more (continuation_on c) [] t.others call) ∙ numbered;
  bytes_so_far = so_far;
  unbroken = all_push (Unbroken n c cmd len) t.others call t.unbroken ok;
}

-- a part of two calls or more hands out no channel
no_channel : (n : ℕ) (calls : List DeviceCall) (call : DeviceCall) → calls ≢ [] → channels_after n (calls ++ call ∷ []) ≡ n
no_channel n [] call h = absurd (h refl)
no_channel n (x ∷ []) call h = refl
no_channel n (x ∷ y ∷ zs) call h = refl

pub some_calls : {n c cmd len : ℕ} {calls : List DeviceCall} {later : List (List ℕ)} {bytes : List ℕ} → Transaction n calls c cmd len later bytes → calls ≢ []
some_calls t e = let k : Took t.first ∷ t.others ≡ [] = sym t.whole ∙ e in cc

-- what came of a message
came_goes : (n : ℕ) (last : List DeviceCall) (p : Packet) (c cmd len next : ℕ) (later : List (List ℕ)) (bytes : List ℕ)
    → Transaction n (last ++ Took p ∷ []) c cmd len later bytes
    → length later ≡ next → next ≤ continuation_count len → (last ≡ []) ⊎ (continuation_on c (Took p) ≢ []) → channels_after n (last ++ Took p ∷ []) ≡ n
    → Goes n last (Took p) (came n c cmd len next bytes)
came_goes n last p c cmd len next later bytes t number within counts out =
    cond_both (nat_lt next (continuation_count len)) _ _ (Goes n last (Took p))
    (λ more. inr ((λ e. cc), record { later = later; transaction = t; number = number; missing = ltb-true next (continuation_count len) more }, refl))
    (λ all. let full : continuation_count len ≤ next = ltb-false next (continuation_count len) all in
    let complete : IsComplete n (last ++ Took p ∷ []) c cmd (take len bytes) =
    record {
      len = len;
      later = later;
      bytes = bytes;
      transaction = t;
      all = omega arith;
      message = refl;
      before = last;
      last = p;
      ends = refl;
      last_counts = counts;
    } in
    cond_both (cmd == 16) _ _ (Goes n last (Took p))
    (λ is. inr ((λ e. cc), at_once (subst (λ k. IsComplete n (last ++ Took p ∷ []) c k (take len bytes)) (eqb-true cmd 16 is) complete), refl))
    (λ isnt. inl (
      refl,
      pinged (last ++ Took p ∷ []) c (take len bytes)
          (subst (λ k. IsComplete n (last ++ Took p ∷ []) c k (take len bytes)) (ping (some_kind t.ranked) (eqb-false cmd 16 isnt)) complete),
      sym out,
    )))
  where
    some_kind : rank n Idle c cmd len ≡ 15 → (cmd ≡ 1) ⊎ (cmd ≡ 16)
    some_kind r = elim (ranked n c cmd len r) [ inl e ↦ inl e | inr e ↦ inr e.0 ]

    ping : (cmd ≡ 1) ⊎ (cmd ≡ 16) → cmd ≢ 16 → cmd ≡ 1
    ping (inl e) h = e
    ping (inr e) h = absurd (h e)

    at_once : IsComplete n (last ++ Took p ∷ []) c 16 (take len bytes) → IsAtWork n (last ++ Took p ∷ []) c (take len bytes)
    at_once complete = record {
      request = last ++ Took p ∷ [];
      meanwhile = [];
      split = sym (append-nil (last ++ Took p ∷ []));
      complete = complete;
      unended = tt;
    }

idle_goes : (n : ℕ) (call : DeviceCall) → Goes n [] call (effect n Idle call)
idle_goes n call = elim (at_idle n call) [
  | stands alone' e ↦ rw e (inl (refl, alone call alone', refl))
  | begins p c cmd len area here says r e ↦
      let t : Transaction n (Took p ∷ []) c cmd len [] area =
      record {
        first = p;
        area = area;
        others = [];
        whole = refl;
        begins = says;
        ranked = r;
        numbered = refl;
        bytes_so_far = sym (append-nil area);
        unbroken = tt;
      } in
      rw (e, here) (came_goes n [] p c cmd len 0 [] area t refl (omega arith) (inl refl) (ap (λ f. cond (assigns n f) (n + 1) n) says
      ∙ ap (λ k. cond (k == 6) (n + 1) n) r))
]

incoming_goes : (n : ℕ) (last : List DeviceCall) (c cmd len next : ℕ) (bytes : List ℕ) (call : DeviceCall) → IsIncoming n last c cmd len next bytes
    → Goes n last call (effect n (Receiving c cmd len next bytes) call)
incoming_goes n last c cmd len next bytes call d =
    let t = d.transaction in
    let out : channels_after n (last ++ call ∷ []) ≡ n = no_channel n last call (some_calls t) in
    let number : length d.later ≡ next = d.number in
    let missing : next < continuation_count len = d.missing in
    elim (at_incoming n c cmd len next bytes call) [
      | passes none ok e ↦ rw e (inr (
        (λ k. cc),
        record {
          later = d.later;
          transaction = with_call t call d.later bytes ok (ap (λ fs. continued c t.others ++ fs) none ∙ append-nil (continued c t.others)
              ∙ t.numbered) t.bytes_so_far;
          number = number;
          missing = missing;
        },
        refl,
      ))
      | continues p area here one ok e ↦
          let all : continued c t.others ++ continuation_on c call ≡ continuations c 0 (d.later ++ area ∷ []) =
          rw (one, t.numbered, continuations-append c 0 d.later area, ← number, zero-add) refl in
          let more : Transaction n (last ++ call ∷ []) c cmd len (d.later ++ area ∷ []) (bytes ++ area) =
          with_call t call (d.later ++ area ∷ []) (bytes ++ area) ok all (ap (λ bs. bs ++ area) t.bytes_so_far
          ∙ flat_map_more (λ (a : List ℕ). a) t.area d.later area) in
          let pushed : length (d.later ++ area ∷ []) ≡ length d.later + 1 = length_push d.later area in
          rw (e, here) (came_goes n last p c cmd len (next + 1) (d.later ++ area ∷ []) (bytes ++ area) (rw here at more) (omega arith) (omega arith)
          (inr (λ k. let x : Continuation c next area ∷ [] ≡ [] = sym one ∙ ap (continuation_on c) here ∙ k in cc)) (rw here at out))
      | breaks b e ↦ rw e (inl (refl, broken last call c cmd len next bytes d b, sym out))
    ]

append_some : (xs ys : List DeviceCall) → xs ≢ [] → xs ++ ys ≢ []
append_some [] ys h = absurd (h refl)
append_some (x ∷ xs) ys h = λ e. cc

work_goes : (n : ℕ) (last : List DeviceCall) (c : ℕ) (payload : List ℕ) (call : DeviceCall) → IsAtWork n last c payload
    → Goes n last call (effect n (Working c payload) call)
work_goes n last c payload call d = elim (at_work n c payload call) [
  | stays unended e ↦ rw e (inr (
    (λ k. cc),
    record {
      request = d.request;
      meanwhile = d.meanwhile ++ call ∷ [];
      split = ap (λ cs. cs ++ call ∷ []) d.split ∙ append_assoc d.request d.meanwhile (call ∷ []);
      complete = d.complete;
      unended = all_push (λ x. EndsWork n c payload x → ⊥) d.meanwhile call d.unended unended;
    },
    refl,
  ))
  | ends b e ↦ rw e (inl (
    refl,
    ended last call c payload d b,
    sym (no_channel n last call (λ k. append_some d.request d.meanwhile (some_calls d.complete.transaction) (sym d.split ∙ k))),
  ))
]

-- each call closes the part in which it stands, or leaves it open
pub goes : (n : ℕ) (last : List DeviceCall) (s : TransactionState) (call : DeviceCall) → Doing n last s → Goes n last call (effect n s call)
goes n last Idle call d = subst (λ calls. Goes n calls call (effect n Idle call)) (sym d) (idle_goes n call)
goes n last (Receiving c cmd len next bytes) call d = incoming_goes n last c cmd len next bytes call d
goes n last (Working c payload) call d = work_goes n last c payload call d

-- ---- the plain program of a part

-- what the calls of a part leave the device doing
abbrev pub run : ℕ → TransactionState → List DeviceCall → TransactionState
run n s [] = s
run n s (call ∷ calls) = run n (effect n s call).after calls

run-append : (n : ℕ) (s : TransactionState) (xs ys : List DeviceCall) → run n s (xs ++ ys) ≡ run n (run n s xs) ys
run-append n s [] ys = refl
run-append n s (x ∷ xs) ys = run-append n (effect n s x).after xs ys

pub came_more : (n c cmd len next : ℕ) (bytes : List ℕ) → next < continuation_count len → came n c cmd len next bytes ≡ to n (Receiving c cmd len next bytes)
came_more n c cmd len next bytes h = rw (lt-ltb next (continuation_count len) h) refl

pub came_all : (n c cmd len next : ℕ) (bytes : List ℕ) → continuation_count len ≤ next
    → came n c cmd len next bytes ≡ cond (cmd == 16) (to n (Working c (take len bytes))) (to n Idle)
came_all n c cmd len next bytes h = rw (le-ltb next (continuation_count len) h) refl

-- what breaks a transaction doesn't leave it alone, and isn't its next continuation
apart : (n c cmd len next : ℕ) (call : DeviceCall) → Unbroken n c cmd len call → Breaks n c cmd len next call
    → ((seq : ℕ) (area : List ℕ) → continuation_on c call ≡ Continuation c seq area ∷ [] → seq ≡ next) → ⊥
apart n c cmd len next call ok (inl e) same = ok.0 e
apart n c cmd len next call ok (inr (inl e)) same = ok.1 e
apart n c cmd len next call ok (inr (inr (inl e))) same = ok.2 e
apart n c cmd len next call ok (inr (inr (inr b))) same = b.3 (same b.0 b.1 b.2)

-- the first of continuations
first_of_them : {c k seq : ℕ} {area : List ℕ} {fs : List Fields} (later : List (List ℕ)) → Continuation c seq area ∷ fs ≡ continuations c k later
    → (seq ≡ k) × ((more : List (List ℕ)) × (later ≡ area ∷ more) × (fs ≡ continuations c (k + 1) more))
first_of_them [] e = absurd (cc)
first_of_them (a ∷ later) e = (cc, (later, cc, cc))

-- where a continuation is the last call, one comes
one_comes : (c k : ℕ) (others : List DeviceCall) (last : DeviceCall) (later : List (List ℕ)) → continuation_on c last ≢ []
    → continued c (others ++ last ∷ []) ≡ continuations c k later → 1 ≤ length later
one_comes c k others last (a ∷ later) counts e = omega arith
one_comes c k [] last [] counts e = absurd (counts (sym (append-nil (continuation_on c last)) ∙ e))
one_comes c k (x ∷ others) last [] counts e = one_comes c k others last [] counts (none (continuation_on c x) (continued c (others ++ last ∷ [])) e)
  where
    none : (xs ys : List Fields) → xs ++ ys ≡ [] → ys ≡ []
    none [] ys e = e
    none (x ∷ xs) ys e = absurd (cc)

-- the calls after the first: as many continuations come as are wanted, or as many as are missing with the last call
run-others : (n c cmd len total k : ℕ) (bytes : List ℕ) (others : List DeviceCall) (later : List (List ℕ)) → AllByRecursion (Unbroken n c cmd len) others
    → continued c others ≡ continuations c k later
    → k + length later ≡ total → total ≤ continuation_count len
    → ((front : List DeviceCall) (last : DeviceCall) → others ≡ front ++ last ∷ [] → (total < continuation_count len) ⊎ (continuation_on c last ≢ []))
    → run n (came n c cmd len k bytes).after others ≡ (came n c cmd len total (bytes ++ joined later)).after
run-others n c cmd len total k bytes [] [] ok numbered sum within stop = let e : k ≡ total = omega arith in rw (e, append-nil bytes) refl
run-others n c cmd len total k bytes [] (a ∷ later) ok numbered sum within stop = absurd (cc)
run-others n c cmd len total k bytes (call ∷ others) later ok numbered sum within stop =
    let missing : k < continuation_count len = elim (cases_last (call ∷ others)) [
      | inl none ↦ absurd (cc)
      | inr q ↦ elim (stop q.0 q.1 q.2) [
        | inl less ↦ omega arith
        | inr counts ↦ let some : 1 ≤ length later = one_comes c k q.0 q.1 later counts (ap (continued c) (sym q.2) ∙ numbered) in omega arith
      ]
    ] in
    let stop' : (front : List DeviceCall) (last : DeviceCall) → others ≡ front ++ last ∷ [] → (total < continuation_count len) ⊎ (continuation_on c last ≢ []) =
    λ front last e. stop (call ∷ front) last (ap (λ xs. call ∷ xs) e) in
    ap (λ (e : Effect). run n e.after (call ∷ others)) (came_more n c cmd len k bytes missing)
    ∙ (elim (at_incoming n c cmd len k bytes call) [
      | passes none fine e ↦ ap (λ (x : Effect). run n x.after others) (e ∙ sym (came_more n c cmd len k bytes missing))
          ∙ run-others n c cmd len total k bytes others later ok.1 (rw none at numbered) sum within stop'
      | continues p area here one fine e ↦
          let u = first_of_them later (rw one at numbered) in
          let size : length later ≡ length u.1.0 + 1 = ap length u.1.1 ∙ omega arith in
          ap (λ (x : Effect). run n x.after others) e ∙ run-others n c cmd len total (k + 1) (bytes ++ area) others u.1.0 ok.1 u.1.2 (omega arith) within stop'
          ∙ ap (λ bs. (came n c cmd len total bs).after) (append_assoc bytes area (joined u.1.0) ∙ ap (λ l. bytes ++ joined l) (sym u.1.1))
      | breaks b e ↦ absurd (apart n c cmd len k call ok.0 b (λ seq area one. (first_of_them later (rw one at numbered)).0))
    ])

run-transaction : {n c cmd len : ℕ} {calls : List DeviceCall} {later : List (List ℕ)} {bytes : List ℕ} (t : Transaction n calls c cmd len later bytes)
    → length later ≤ continuation_count len
    → ((front : List DeviceCall) (last : DeviceCall) → t.others ≡ front ++ last ∷ [] → (length later < continuation_count len) ⊎ (continuation_on c last ≢ []))
    → run n Idle calls ≡ (came n c cmd len (length later) bytes).after
run-transaction {n} {c} {cmd} {len} {calls} {later} {bytes} t within stop = elim (at_idle n (Took t.first)) [
  | stands alone' e ↦ absurd (alone' (rw t.begins t.ranked))
  | begins p c' cmd' len' area here says r e ↦
      let now : fields t.first ≡ Initial c' cmd' len' area = rw (← says) (let same : t.first ≡ p = cc in ap fields same) in
      let both : Initial c cmd len t.area ≡ Initial c' cmd' len' area = sym t.begins ∙ now in
      let same : came n c' cmd' len' 0 area ≡ came n c cmd len 0 t.area = cc in
      ap (run n Idle) t.whole ∙ ap (λ (x : Effect). run n x.after t.others) (e ∙ same)
      ∙ run-others n c cmd len (length later) 0 t.area t.others later t.unbroken t.numbered (omega arith) within stop
      ∙ ap (λ bs. (came n c cmd len (length later) bs).after) (sym t.bytes_so_far)
]

run-complete : {n c cmd : ℕ} {calls : List DeviceCall} {payload : List ℕ} → IsComplete n calls c cmd payload
    → run n Idle calls ≡ (cond (cmd == 16) (to n (Working c payload)) (to n Idle)).after
run-complete {n} {c} {cmd} {calls} d =
    let t = d.transaction in
    run-transaction t (omega (arith, d.all)) stop ∙ ap Effect.after (came_all n c cmd d.len (length d.later) d.bytes (omega (arith, d.all)))
    ∙ ap (λ m. Effect.after (cond (cmd == 16) (to n (Working c m)) (to n Idle))) (sym d.message)
  where
    -- the last call is a continuation
    stop : (front : List DeviceCall) (last : DeviceCall) → d.transaction.others ≡ front ++ last ∷ [] → (length d.later < continuation_count d.len)
        ⊎ (continuation_on c last ≢ [])
    stop front last e =
        let both = same_from_push d.before (Took d.transaction.first ∷ front) (Took d.last) last (sym d.ends ∙ d.transaction.whole
        ∙ ap (λ xs. Took d.transaction.first ∷ xs) e) in
        elim d.last_counts [
          | inl none ↦ absurd (let x : [] ≡ Took d.transaction.first ∷ front = sym none ∙ both.0 in cc)
          | inr counts ↦
              inr (rw (← both.1) counts)
        ]

run-meanwhile : (n c : ℕ) (payload : List ℕ) (meanwhile : List DeviceCall) → AllByRecursion (λ call. EndsWork n c payload call → ⊥) meanwhile
    → run n (Working c payload) meanwhile ≡ Working c payload
run-meanwhile n c payload [] h = refl
run-meanwhile n c payload (call ∷ meanwhile) h = elim (at_work n c payload call) [
  | stays unended e ↦ ap (λ (x : Effect). run n x.after meanwhile) e ∙ run-meanwhile n c payload meanwhile h.1
  | ends b e ↦ absurd (h.0 b)
]

pub run-doing : (n : ℕ) (calls : List DeviceCall) (s : TransactionState) → Doing n calls s → run n Idle calls ≡ s
run-doing n calls Idle d = ap (run n Idle) d
run-doing n calls (Receiving c cmd len next bytes) d =
    let missing : length d.later < continuation_count len = omega (arith, d.number, d.missing) in
    run-transaction d.transaction (omega arith) (λ front last e. inl missing)
    ∙ ap Effect.after (came_more n c cmd len (length d.later) bytes missing) ∙ ap (λ k. Receiving c cmd len k bytes) d.number
run-doing n calls (Working c payload) d =
    ap (run n Idle) d.split ∙ run-append n Idle d.request d.meanwhile ∙ ap (λ s. run n s d.meanwhile) (run-complete d.complete)
    ∙ run-meanwhile n c payload d.meanwhile d.unended

-- what closes a part leaves the device idle
run-closed : (n : ℕ) (calls : List DeviceCall) → Closed n calls → run n Idle calls ≡ Idle
run-closed n _ (alone call h) =
    elim (at_idle n call) [ stands alone' e ↦ ap Effect.after e | begins p c cmd len area here says r e ↦ absurd (h (rw (here, says) r)) ]
run-closed n _ (pinged calls c payload d) = run-complete d
run-closed n _ (broken before call c cmd len next bytes d b) =
    run-append n Idle before (call ∷ []) ∙ ap (λ s. run n s (call ∷ [])) (run-doing n before (Receiving c cmd len next bytes) d)
    ∙ (elim (at_incoming n c cmd len next bytes call) [
      | passes none ok e ↦ absurd (apart n c cmd len next call ok b (λ seq area one. let x : Continuation c seq area ∷ [] ≡ [] = sym one ∙ none in absurd (cc)))
      | continues p area' here two ok e ↦
          absurd (apart n c cmd len next call ok b (λ seq area one. let x : Continuation c seq area ∷ [] ≡ Continuation c next area' ∷ [] = sym one
          ∙ two in cc))
      | breaks b' e ↦ ap Effect.after e
    ])
run-closed n _ (ended before call c payload d b) =
    run-append n Idle before (call ∷ []) ∙ ap (λ s. run n s (call ∷ [])) (run-doing n before (Working c payload) d)
    ∙ (elim (at_work n c payload call) [ stays unended e ↦ absurd (unended b) | ends b' e ↦ ap Effect.after e ])

-- what is open isn't closed
pub open_not_closed : (n : ℕ) (calls : List DeviceCall) (s : TransactionState) → Doing n calls s → s ≢ Idle → Closed n calls → ⊥
open_not_closed n calls s d busy c = busy (sym (run-doing n calls s d) ∙ run-closed n calls c)
