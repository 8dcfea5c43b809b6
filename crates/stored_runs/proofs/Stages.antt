-- A site over a store with one credential, or none, and what has ended: as it stands in a history.
use Rattle.std.proofs.Common.{◌≡◌, ◌+◌, ◌≤◌, ◌<◌, ◌^◌, inl, ℕ, zero, suc, List, [], ◌∷◌, map, Bool, false, refl, sym, ap, ◌∙◌, subst, arith, replicate}
use Rattle.std.proofs.lemmas.Grind.{common_steps}
use Rattle.std.specs.Prelude.{None, Some}
use Rattle.std.specs.FinMap.{gets, entries-from_sorted, entries-insert, get-empty, get-from_sorted, nat_cmp-IsAntisymmetric, same_map}
use Rattle.std.specs.FinMap as finite
use Rattle.std.specs.Cmp.{nat_cmp_total}
use Rattle.std.specs.Ordering.{nat_cmp}
use Rattle.sqlite_value.specs.Order.{Row}
use Rattle.sqlite_trees.specs.Tree.{Trees}
use Rattle.verification.specs.Records.{Credential}
use Rattle.site_rows.specs.Endings.{Endings, ending_row}
use Rattle.site_rows.specs.Held.{ArePlaced, Indexes, Placed, entry, rows_of}
use Rattle.site_rows.specs.Rows.{IsStored, credential_row}
use Rattle.site_stored.specs.Calls.{IsOneSite}
use Rattle.site_stored.specs.State.{HoldsSite, StoredState, site_row}
use Rattle.agreement.proofs.Given.{rp_id}
use Rattle.agreement.proofs.OneRun.{at_first}
use Rattle.stored_runs.specs.History.{IsKept, IsOpened, Kept}

abbrev pub placed_of : Credential → Placed
placed_of c = finite.insert finite.empty 1 c

abbrev ended_rows : Endings → List Row
ended_rows ended = map (λ e. ending_row e.0 e.1) (finite.entries ended)

abbrev pub trees_of : Credential → Endings → ℕ → Trees
trees_of c ended next zero = credential_row 1 c ∷ []
trees_of c ended next (suc zero) = []
trees_of c ended next (suc (suc zero)) = site_row rp_id next ∷ []
trees_of c ended next (suc (suc (suc zero))) = entry c.id 1 ∷ []
trees_of c ended next (suc (suc (suc (suc zero)))) = entry c.user 1 ∷ []
trees_of c ended next (suc (suc (suc (suc (suc zero))))) = []
trees_of c ended next (suc (suc (suc (suc (suc (suc zero)))))) = []
trees_of c ended next (suc (suc (suc (suc (suc (suc (suc zero))))))) = []
trees_of c ended next (suc (suc (suc (suc (suc (suc (suc (suc zero)))))))) = ended_rows ended
trees_of c ended next (suc (suc (suc (suc (suc (suc (suc (suc (suc n))))))))) = []

none_entered : finite.entries (finite.empty {K = ℕ} {X = Credential} {R = nat_cmp}) ≡ []
none_entered =
    ap finite.entries (same_map nat_cmp_total nat_cmp-IsAntisymmetric finite.empty (finite.from_sorted []) (λ q.
    get-empty {X = Credential} nat_cmp q ∙ sym (get-from_sorted nat_cmp [] q tt)))
    ∙ entries-from_sorted nat_cmp [] tt

pub only : (c : Credential) (p : ℕ) (d : Credential) → finite.get (placed_of c) p ≡ Some d → (p ≡ 1) × (d ≡ c)
only c p d is = grind (arith, gets, common_steps, is)

pub there : (c : Credential) → finite.get (placed_of c) 1 ≡ Some c
there c = grind (arith, gets, common_steps)

indexed : (column : Credential → List ℕ) (c : Credential) → Indexes column (placed_of c) (entry (column c) 1 ∷ [])
indexed column c = record {
  each = λ p d is. let o = only c p d is in inl (λ i. entry (column (sym o.1 i)) (sym o.0 i));
  only = ((1, c, there c, refl), tt);
}

are : (c : Credential) → IsStored c → ArePlaced (placed_of c)
are c is = record {
  own = λ p q d e f g same. (only c p d f).0 ∙ sym (only c q e g).0;
  stored = λ p d f. let o = only c p d f in (subst IsStored (sym o.1) is, let e = o.0 in omega arith);
}

holds : (c : Credential) (ended : Endings) (next : ℕ) → IsStored c → HoldsSite (placed_of c) rp_id next (trees_of c ended next)
holds c ended next is = record {
  credentials = record {
    table = sym (ap (λ es. rows es) (entries-insert nat_cmp_total finite.empty 1 c ∙ ap (λ es. finite.put nat_cmp 1 c es) none_entered));
    by_id = indexed (λ x. x.id) c;
    by_user = indexed (λ x. x.user) c;
    are = are c is;
  };
  site = refl;
} where
  rows : List (ℕ × Credential) → List Row
  rows es = map (λ e. credential_row e.0 e.1) es

-- the number of the next session; what is reserved, as it is committed; the mark of the last commit; how many credentials there are, and the last
-- place that one had
abbrev pub state_of : ℕ → ℕ → ℕ → ℕ → ℕ → Bool → StoredState (Unit {0})
state_of next reserved mark count last is_pending = record {
  rp = at_first.rp;
  policy = at_first.policy;
  key = replicate 32 0;
  lifetime = 300;
  next = next;
  reserved = reserved;
  durable = reserved;
  mark = mark;
  next_mark = mark + 1;
  count = count;
  last = last;
  most = 10;
  store = tt;
  is_shut = false;
  is_pending = is_pending;
}

-- with this credential
abbrev pub with_one : Credential → Endings → ℕ → ℕ → ℕ → Bool → Kept (Unit {0})
with_one c ended next reserved mark is_pending =
    record { state = state_of next reserved mark 1 1 is_pending; placed = placed_of c; ended = ended; trees = trees_of c ended reserved }

pub one_kept : (c : Credential) (ended : Endings) (next reserved mark : ℕ) (is_pending : Bool) → IsStored c → next ≤ reserved → reserved < 2 ^ 63
    → IsKept (with_one c ended next reserved mark is_pending)
one_kept c ended next reserved mark is_pending is given below = record {
  held = record {
    holds = holds c ended reserved is;
    count = grind (arith, gets, common_steps);
    last = λ p d f. let o = (only c p d f).0 in omega arith;
  };
  ended = refl;
  given = given;
  reserved = below;
}

-- it is opened again
pub one_opened : (c : Credential) (ended : Endings) (next reserved mark : ℕ) → IsOpened (with_one c ended next reserved mark false) (with_one c ended reserved reserved mark false)
one_opened c ended next reserved mark = record { trees = refl; rp_id = refl; key = refl; next = refl }

pub put_again : (c d : Credential) → placed_of d ≡ finite.insert (placed_of c) 1 d
put_again c d = same_map nat_cmp_total nat_cmp-IsAntisymmetric _ _ (λ q. grind (arith, gets, common_steps))

-- ---- with none

abbrev pub none_placed : Placed
none_placed = finite.empty

pub none_at : (place : ℕ) (c : Credential) → finite.get none_placed place ≡ Some c → ⊥
none_at place c is = let no : None ≡ Some c = sym (get-empty {X = Credential} nat_cmp place) ∙ is in absurd cc

pub none_now : (c : Credential) → none_placed ≡ finite.remove (placed_of c) 1
none_now c = same_map nat_cmp_total nat_cmp-IsAntisymmetric _ _ (λ q. grind (arith, gets, common_steps))

pub none_listed : [] ≡ rows_of none_placed
none_listed = sym (ap (λ (es : List (ℕ × Credential)). map (λ e. e.1) es) none_entered)

abbrev no_trees : Endings → ℕ → Trees
no_trees ended next zero = []
no_trees ended next (suc zero) = []
no_trees ended next (suc (suc zero)) = site_row rp_id next ∷ []
no_trees ended next (suc (suc (suc zero))) = []
no_trees ended next (suc (suc (suc (suc zero)))) = []
no_trees ended next (suc (suc (suc (suc (suc zero))))) = []
no_trees ended next (suc (suc (suc (suc (suc (suc zero)))))) = []
no_trees ended next (suc (suc (suc (suc (suc (suc (suc zero))))))) = []
no_trees ended next (suc (suc (suc (suc (suc (suc (suc (suc zero)))))))) = ended_rows ended
no_trees ended next (suc (suc (suc (suc (suc (suc (suc (suc (suc n))))))))) = []

none_indexed : (column : Credential → List ℕ) → Indexes column none_placed []
none_indexed column = record { each = λ place c is. absurd (none_at place c is); only = tt }

none_holds : (ended : Endings) (next : ℕ) → HoldsSite none_placed rp_id next (no_trees ended next)
none_holds ended next = record {
  credentials = record {
    table = sym (ap (λ es. rows es) none_entered);
    by_id = none_indexed (λ x. x.id);
    by_user = none_indexed (λ x. x.user);
    are = record { own = λ p q c d f g same. absurd (none_at p c f); stored = λ place c f. absurd (none_at place c f) };
  };
  site = refl;
} where
  rows : List (ℕ × Credential) → List Row
  rows es = map (λ e. credential_row e.0 e.1) es

abbrev pub with_none : Endings → ℕ → ℕ → ℕ → ℕ → Bool → Kept (Unit {0})
with_none ended last next reserved mark is_pending =
    record { state = state_of next reserved mark 0 last is_pending; placed = none_placed; ended = ended; trees = no_trees ended reserved }

pub none_kept : (ended : Endings) (last next reserved mark : ℕ) (is_pending : Bool) → next ≤ reserved → reserved < 2 ^ 63
    → IsKept (with_none ended last next reserved mark is_pending)
none_kept ended last next reserved mark is_pending given below = record {
  held = record {
    holds = none_holds ended reserved;
    count = grind (arith, gets, common_steps);
    last = λ place c is. absurd (none_at place c is);
  };
  ended = refl;
  given = given;
  reserved = below;
}

pub one_site : (s t : StoredState (Unit {0}))
    → t ≡ record s { next = t.next; reserved = t.reserved; count = t.count; last = t.last; is_pending = t.is_pending } → IsOneSite s t
one_site s t is = record {
  rp = ap (λ x. x.rp) is;
  policy = ap (λ x. x.policy) is;
  key = ap (λ x. x.key) is;
  lifetime = ap (λ x. x.lifetime) is;
  most = ap (λ x. x.most) is;
  durable = ap (λ x. x.durable) is;
  mark = ap (λ x. x.mark) is;
  next_mark = ap (λ x. x.next_mark) is;
}
