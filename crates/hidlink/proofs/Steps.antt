-- What a history leaves, one call after another.
use Rattle.std.proofs.Common.{◌≡◌, ◌≢◌, ℕ, ◌+◌, inl, inr, List, [], ◌∷◌, ◌++◌, length, refl, sym, ◌∙◌, ap, subst, arith}
use Rattle.std.specs.List.{flat_map}
use Rattle.std.proofs.lemmas.List.{append_assoc, append-nil, flat_map_more, length_push, same_from_push}
use Rattle.hidlink.specs.Ranks.{TransactionState, Idle}
use Rattle.hidlink.specs.History.{DeviceCall}
use Rattle.hidlink.specs.Machine.{Effect, effect}
use Rattle.hidlink.specs.History.{Closed, alone, pinged, broken, ended, NoneShorter, AreClosed, Reads, Leaves, Doing, channels, channels_after}
use Rattle.hidlink.proofs.Runs.{cases_last}
use Rattle.hidlink.proofs.Moves.{Goes, goes, open_not_closed, run, run-doing, some_calls}
use Rattle.hidlink.proofs.Readings.{one_reading}

push_some : (xs : List DeviceCall) (x : DeviceCall) → xs ++ x ∷ [] ≢ []
push_some xs x e = let size : length (xs ++ x ∷ []) ≡ 0 = ap length e in
    let more : length (xs ++ x ∷ []) ≡ length xs + 1 = length_push xs x in omega arith

-- no calls are no part
closed_some : (n : ℕ) (calls : List DeviceCall) → Closed n calls → calls ≢ []
closed_some n _ (alone call h) = push_some [] call
closed_some n _ (pinged calls c payload d) = some_calls d.transaction
closed_some n _ (broken before call c cmd len next bytes d b) = push_some before call
closed_some n _ (ended before call c payload d b) = push_some before call

-- an open part with a call more has no closed beginning that is shorter
none_push : (n : ℕ) (calls : List DeviceCall) (call : DeviceCall) → NoneShorter n calls → (Closed n calls → ⊥) → NoneShorter n (calls ++ call ∷ [])
none_push n calls call shorter is_open front x rest e closed = elim (cases_last rest) [
  | inl none ↦ let same : calls ≡ front = (same_from_push calls front call x (e ∙ ap (λ r. front ++ x ∷ r) none)).0 in
      let P : List DeviceCall → Type 0 = Closed n in is_open (subst P (sym same) closed)
  | inr r ↦ let same : calls ≡ front ++ x ∷ r.0 =
      (same_from_push calls (front ++ x ∷ r.0) call r.1 (e ∙ ap (λ y. front ++ x ∷ y) r.2 ∙ sym (append_assoc front (x ∷ r.0) (r.1 ∷ [])))).0 in
      shorter front x r.0 same closed
]

closed-push : (n : ℕ) (parts : List (List DeviceCall)) (part : List DeviceCall) → AreClosed n parts → Closed (channels n parts) part
    → NoneShorter (channels n parts) part → AreClosed n (parts ++ part ∷ [])
closed-push n [] part h c s = (c, s, tt)
closed-push n (p ∷ parts) part h c s = (h.0, h.1, closed-push (channels_after n p) parts part h.2 c s)

channels-push : (n : ℕ) (parts : List (List DeviceCall)) (part : List DeviceCall) → channels n (parts ++ part ∷ []) ≡ channels_after (channels n parts) part
channels-push n [] part = refl
channels-push n (p ∷ parts) part = channels-push (channels_after n p) parts part

-- one call more, from a reading
reads_on : (h : List DeviceCall) (parts : List (List DeviceCall)) (calls : List DeviceCall) (call : DeviceCall) (s : TransactionState) → Reads h parts calls
    → Doing (channels 0 parts) calls s
    → Leaves (h ++ call ∷ []) (effect (channels 0 parts) s call).channels (effect (channels 0 parts) s call).after
reads_on h parts calls call s r d = after (effect (channels 0 parts) s call) (goes (channels 0 parts) calls s call d)
  where
    after : (e : Effect) → Goes (channels 0 parts) calls call e → Leaves (h ++ call ∷ []) e.channels e.after
    after e (inl g) = record {
      parts = parts ++ (calls ++ call ∷ []) ∷ [];
      open_part = [];
      reads = record {
        whole = ap (λ x. x ++ call ∷ []) r.whole ∙ append_assoc (flat_map (λ part. part) parts) calls (call ∷ [])
            ∙ flat_map_more (λ (part : List DeviceCall). part) [] parts (calls ++ call ∷ [])
            ∙ sym (append-nil (flat_map (λ part. part) (parts ++ (calls ++ call ∷ []) ∷ [])));
        closed = closed-push 0 parts (calls ++ call ∷ []) r.closed g.1 (none_push (channels 0 parts) calls call r.shorter r.is_open);
        shorter = λ front x rest k c. push_none front x rest k;
        is_open = λ c. closed_some (channels 0 (parts ++ (calls ++ call ∷ []) ∷ [])) [] c refl;
      };
      out = g.2 ∙ sym (channels-push 0 parts (calls ++ call ∷ []));
      doing = let P : TransactionState → Type 0 = Doing e.channels [] in subst P (sym g.0) refl;
    }
      where
        push_none : (front : List DeviceCall) (x : DeviceCall) (rest : List DeviceCall) → [] ≡ front ++ x ∷ rest → ⊥
        push_none [] x rest k = cc
        push_none (y ∷ front) x rest k = cc
    after e (inr g) = record {
      parts = parts;
      open_part = calls ++ call ∷ [];
      reads = record {
        whole = ap (λ x. x ++ call ∷ []) r.whole ∙ append_assoc (flat_map (λ part. part) parts) calls (call ∷ []);
        closed = r.closed;
        shorter = none_push (channels 0 parts) calls call r.shorter r.is_open;
        is_open = open_not_closed (channels 0 parts) (calls ++ call ∷ []) e.after g.1 g.0;
      };
      out = g.2;
      doing = let P : ℕ → Type 0 = λ n. Doing n (calls ++ call ∷ []) e.after in subst P (sym g.2) g.1;
    }

-- the history with the call leaves the device as the call does
pub leaves-push : (h : List DeviceCall) (n : ℕ) (s : TransactionState) (call : DeviceCall) → Leaves h n s
    → Leaves (h ++ call ∷ []) (effect n s call).channels (effect n s call).after
leaves-push h n s call l =
    let P : ℕ → Type 0 = λ k. Leaves (h ++ call ∷ []) (effect k s call).channels (effect k s call).after in
    subst P (sym l.out) (reads_on h l.parts l.open_part call s l.reads (subst (λ k. Doing k l.open_part s) l.out l.doing))

-- the empty history leaves a new device
pub leaves_none : Leaves [] 0 Idle
leaves_none = record {
  parts = [];
  open_part = [];
  reads = record { whole = refl; closed = tt; shorter = λ front x rest e c. none front x rest e; is_open = λ c. closed_some 0 [] c refl };
  out = refl;
  doing = refl;
}
  where
    none : (front : List DeviceCall) (x : DeviceCall) (rest : List DeviceCall) → [] ≡ front ++ x ∷ rest → ⊥
    none [] x rest k = cc
    none (y ∷ front) x rest k = cc

-- a history leaves one state
pub one_state : (h : List DeviceCall) (n k : ℕ) (s t : TransactionState) → Leaves h n s → Leaves h k t → (n ≡ k) × (s ≡ t)
one_state h n k s t a b =
    let same : (a.parts ≡ b.parts) × (a.open_part ≡ b.open_part) = one_reading h a.parts b.parts a.open_part b.open_part a.reads b.reads in
    let out : channels 0 a.parts ≡ channels 0 b.parts = ap (channels 0) same.0 in (
      a.out ∙ out ∙ sym b.out,
      sym (run-doing n a.open_part s a.doing)
          ∙ ap (λ i. run i Idle a.open_part) (a.out ∙ out ∙ sym b.out) ∙ ap (run k Idle) same.1
          ∙ run-doing k b.open_part t b.doing,
    )

-- each history leaves one
from : (h rest : List DeviceCall) (n : ℕ) (s : TransactionState) → Leaves h n s → (k : ℕ) × (t : TransactionState) × Leaves (h ++ rest) k t
from h [] n s l = let P : List DeviceCall → Type 0 = λ x. Leaves x n s in (n, s, subst P (sym (append-nil h)) l)
from h (call ∷ rest) n s l =
    let e : Effect = effect n s call in
    let more : (k : ℕ) × (t : TransactionState) × Leaves ((h ++ call ∷ []) ++ rest) k t =
    from (h ++ call ∷ []) rest e.channels e.after (leaves-push h n s call l) in
    let P : List DeviceCall → Type 0 = λ x. Leaves x more.0 more.1 in
    (more.0, more.1, subst P (append_assoc h (call ∷ []) rest) more.2)

pub leaves_some : (h : List DeviceCall) → (n : ℕ) × (s : TransactionState) × Leaves h n s
leaves_some h = from [] h 0 Idle leaves_none
