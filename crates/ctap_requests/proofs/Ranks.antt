-- At most one rank applies, so the one that applies is the first.
use Rattle.std.proofs.Common.{◌≡◌, ◌||◌, ℕ, Bool, true, false, List, [], ◌∷◌, take, Some, None, refl, sym, ap, ◌∙◌, ◌⊎◌, inl, inr, arith}
use Rattle.std.proofs.lemmas.Option.{same_Some}
use Rattle.std.proofs.lemmas.Bool.Decides.{nat_tests}
use Rattle.refusal_order.specs.Lines.{Each, First}
use Rattle.refusal_order.proofs.Laws.{first_at, first_behind, one_first}
use Rattle.ccbor.specs.Item.{Item}
use Rattle.ccbor.specs.Canon.{Canon}
use Rattle.ccbor.proofs.Decoding.{same_item}
use Rattle.ctap_encoding.specs.Table.{gravest}
use Rattle.ctap_encoding.specs.declared.fault.Fault as map_faults
use Rattle.ctap_encoding.specs.declared.fault.Fault.TheVariants as faults
use Rattle.ctap_requests.specs.Requests.{map_of}
use Rattle.ctap_requests.specs.Pieces.{rank_of}
use Rattle.ctap_requests.specs.Status.{Rank, unknown_command, bytes_after, not_canonical, another_kind, unlisted_key, missing_member, invalid_size}
use Rattle.ctap_requests.specs.Status.{over_limit, ranks, has_map, has_none, status_of, Fault, Applies, NoStatus, Refused}
use Rattle.ctap_encoding.specs.declared.error.Error.{Error}
use Rattle.ctap_encoding.specs.declared.error.Error.TheVariants as errors

-- a command has a map, or nothing, or is unknown
with_map : (c : ℕ) → has_map c || has_none c ≡ false → has_map c ≡ true → ⊥
with_map c e h = let b = rw h at e in absurd cc

with_none : (c : ℕ) → has_map c || has_none c ≡ false → has_none c ≡ true → ⊥
with_none c e h = go (has_map c) (has_none c) e h where
  go : (a b : Bool) → a || b ≡ false → b ≡ true → ⊥
  go true b e h = absurd cc
  go false b e h = absurd cc

not_both : (c : ℕ) → has_none c ≡ true → has_map c ≡ true → ⊥
not_both c e h = grind (arith, nat_tests, e, h)

-- of a command that has nothing no earlier rank applies; nor of one that has a map
known : (bs : List ℕ) → Applies bs bytes_after → Applies bs unknown_command → ⊥
known [] a b = a
known (c ∷ rest) a b = with_none c b a.0

HasMap : List ℕ → Type 0
HasMap [] = ⊥
HasMap (c ∷ rest) = has_map c ≡ true

of_map : (bs : List ℕ) → HasMap bs → Each (λ r. Applies bs r → ⊥) (take 2 ranks)
unfolding HasMap
of_map [] h = absurd h
of_map (c ∷ rest) h = ((λ b. with_map c b h), ((λ b. not_both c b.0 h), tt))

unread : (bs : List ℕ) → Applies bs not_canonical → HasMap bs
unfolding HasMap
unread [] a = a
unread (c ∷ rest) a = a.0

faulty : (f : map_faults.Fault) (bs : List ℕ) → Fault f bs → HasMap bs × (Applies bs not_canonical → ⊥)
unfolding HasMap
faulty f [] a = absurd a
faulty f (c ∷ rest) a = (a.0, λ none. none.1 a.1 a.2)

-- a map has one gravest fault
one_fault : (f g : map_faults.Fault) (bs : List ℕ) → Fault f bs → Fault g bs → f ≡ g
one_fault f g [] a b = absurd a
one_fault f g (c ∷ rest) a b = same_Some f g (sym a.3 ∙ ap (λ (i : Item). gravest (map_of c) i) (same_item a.1 b.1 rest a.2 b.2) ∙ b.3)

other : (f g : map_faults.Fault) (bs : List ℕ) → Fault f bs → (f ≡ g → ⊥) → Fault g bs → ⊥
other f g bs a apart b = apart (one_fault f g bs a b)

of_fault : (f : map_faults.Fault) (bs : List ℕ) → Fault f bs → Each (λ r. Applies bs r → ⊥) (take 3 ranks)
of_fault f bs a = let both = faulty f bs a in let two = of_map bs both.0 in (two.0, (two.1.0, (both.1, tt)))

-- the rank that applies is the first
pub applies_first : (bs : List ℕ) (r : Rank) → Applies bs r → First (Applies bs) ranks r
applies_first bs unknown_command a = first_at 0 refl tt a
applies_first bs bytes_after a = first_at 1 refl (known bs a, tt) a
applies_first bs not_canonical a = first_at 2 refl (of_map bs (unread bs a)) a
applies_first bs another_kind a = first_behind (take 3 ranks) (of_fault faults.AnotherKind bs a) (first_at 0 refl tt a)
applies_first bs unlisted_key a =
    let f = faults.UnlistedKey in
    first_behind (take 3 ranks) (of_fault f bs a) (first_at 1 refl (other f faults.AnotherKind bs a (λ e. absurd cc), tt) a)
applies_first bs missing_member a =
    let f = faults.MissingMember in
    first_behind (take 3 ranks) (of_fault f bs a)
    (first_at 2 refl (other f faults.AnotherKind bs a (λ e. absurd cc), (other f faults.UnlistedKey bs a (λ e. absurd cc), tt)) a)
applies_first bs invalid_size a =
    let f = faults.InvalidSize in
    first_behind (take 3 ranks) (of_fault f bs a)
    (first_at 3 refl (
      other f faults.AnotherKind bs a (λ e. absurd cc),
      (other f faults.UnlistedKey bs a (λ e. absurd cc), (other f faults.MissingMember bs a (λ e. absurd cc), tt)),
    ) a)
applies_first bs over_limit a =
    let f = faults.OverLimit in
    first_behind (take 3 ranks) (of_fault f bs a)
    (first_at 4 refl (
      other f faults.AnotherKind bs a (λ e. absurd cc),
      (
        other f faults.UnlistedKey bs a (λ e. absurd cc),
        (other f faults.MissingMember bs a (λ e. absurd cc), (other f faults.InvalidSize bs a (λ e. absurd cc), tt)),
      ),
    ) a)

pub one_rank : (r s : Rank) (bs : List ℕ) → Applies bs r → Applies bs s → r ≡ s
one_rank r s bs a b = one_first (λ x out applies. out applies) ranks r s (applies_first bs r a) (applies_first bs s b)

-- ---- maps

-- the rank of a map's gravest fault applies
applies : (f : map_faults.Fault) (bs : List ℕ) → Fault f bs → Applies bs (rank_of f)
applies faults.AnotherKind bs a = a
applies faults.UnlistedKey bs a = a
applies faults.MissingMember bs a = a
applies faults.InvalidSize bs a = a
applies faults.OverLimit bs a = a

module _ (command : ℕ) (rest : List ℕ) (v : Item) (h : has_map command ≡ true) (canon : Canon v rest) where
  pub fault_first : (f : map_faults.Fault) → gravest (map_of command) v ≡ Some f → First (Applies (command ∷ rest)) ranks (rank_of f)
  fault_first f e = applies_first (command ∷ rest) (rank_of f) (applies f (command ∷ rest) (h, v, canon, e))

  -- where the map has no fault, no rank applies
  pub clean : has_none command ≡ false → gravest (map_of command) v ≡ None → NoStatus (command ∷ rest)
  clean n e = (
    (λ a. let b = rw h at a in absurd cc),
    (
      (λ a. let b = sym n ∙ a.0 in absurd cc),
      (
        (λ a. a.1 v canon),
        (
          none faults.AnotherKind,
          (none faults.UnlistedKey, (none faults.MissingMember, (none faults.InvalidSize, (none faults.OverLimit, tt)))),
        ),
      ),
    ),
  ) where
    none : (f : map_faults.Fault) → Fault f (command ∷ rest) → ⊥
    none f a = let b = sym a.3 ∙ ap (λ (i : Item). gravest (map_of command) i) (same_item a.1 v rest a.2 canon) ∙ e in absurd cc

  -- so what is answered by the fault is the refusal
  pub refused_by : (e : Error) → (e ≡ errors.Memory)
      ⊎ ((f : map_faults.Fault) × (gravest (map_of command) v ≡ Some f) × (e ≡ errors.Status (status_of (rank_of f)))) → Refused (command ∷ rest) e
  refused_by e (inl m) = rw m tt
  refused_by e (inr x) = rw x.2 (rank_of x.0, fault_first x.0 x.1, refl)
