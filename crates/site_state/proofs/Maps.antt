-- The sessions of a map, seen by what they expect.
use Rattle.std.proofs.Common.{◌≡◌, ℕ, List, [], ◌∷◌, true, false, sym, ◌∙◌, ap, arith, subst, refl, length, map, ◌+◌, ◌-◌}
use Rattle.std.proofs.lemmas.Grind.{common_steps}
use Rattle.std.specs.Prelude.{Bool, Option, Some, None, cond, option_map, is_some, if◌then◌else◌}
use Rattle.std.specs.Ordering.{nat_cmp, eq_by_cmp}
use Rattle.std.specs.Cmp.{nat_cmp_total, eq_by_cmp_equiv}
use Rattle.std.specs.Borrow.{Bor}
use Rattle.std.specs.Option.{option_copied}
use Rattle.site_state.specs.Sessions.{AreLimits, Expected, OpenSessions}
use Rattle.std.specs.Map.{lookup}
use Rattle.std.specs.BTreeMap as tree
use Rattle.std.specs.BTreeMap.{BTreeMap}
use Rattle.std.specs.FinMap as finite
use Rattle.std.specs.FinMap.{same_map, find, get-from_entries, get-insert, get-remove, nat_cmp-IsAntisymmetric, get-empty, len-insert, len-remove, gets}
use Rattle.site_state.specs.SessionViews.{sessions_view, session_view, entry_view}
use Rattle.site_state.specs.declared.session.Session.{Session}

-- the entry of a number, seen
found_seen : (es : List (ℕ × Session)) (q : ℕ)
    → find nat_cmp q (map entry_view es) ≡ option_map session_view (lookup (tree.is_at (nat_cmp q)) es)
found_seen [] q = refl
found_seen (e ∷ es) q =
    elim (tree.is_at (nat_cmp q) e.0) as
    (λ b. cond b (Some (session_view e.1)) (find nat_cmp q (map entry_view es)) ≡ option_map session_view
    (cond b (Some e.1) (lookup (tree.is_at (nat_cmp q)) es))) [
      | true ↦ refl
      | false ↦ found_seen es q
    ]

-- what the map has at a number, seen
pub get_seen : (m : BTreeMap ℕ Session) (q : ℕ) → finite.get (sessions_view m.entries) q ≡ option_map session_view (tree.get nat_cmp m q)
get_seen m q = get-from_entries nat_cmp_total (map entry_view m.entries) q ∙ found_seen m.entries q

given : (b : Bool) (v o : Option Session) → option_map session_view (cond b v o) ≡ cond b (option_map session_view v) (option_map session_view o)
given true v o = refl
given false v o = refl

-- a session that is taken out
pub closed : (m n : BTreeMap ℕ Session) (k : ℕ)
    → ((q : ℕ) → tree.get nat_cmp n q ≡ cond (tree.is_at (nat_cmp k) q) None (tree.get nat_cmp m q))
    → sessions_view n.entries ≡ finite.remove (sessions_view m.entries) k
closed m n k updates = same_map nat_cmp_total nat_cmp-IsAntisymmetric _ _ (λ q.
    get_seen n q ∙ ap (option_map session_view) (updates q)
    ∙ given (tree.is_at (nat_cmp k) q) None (tree.get nat_cmp m q)
    ∙ ap (cond (tree.is_at (nat_cmp k) q) None) (sym (get_seen m q))
    ∙ ap (λ b. cond b None (finite.get (sessions_view m.entries) q)) ((eq_by_cmp_equiv nat_cmp_total).symm k q)
    ∙ sym (get-remove nat_cmp_total (sessions_view m.entries) k q))

-- a session that is opened
pub opened : (m n : BTreeMap ℕ Session) (k : ℕ) (v : Session)
    → ((q : ℕ) → tree.get nat_cmp n q ≡ cond (tree.is_at (nat_cmp k) q) (Some v) (tree.get nat_cmp m q))
    → sessions_view n.entries ≡ finite.insert (sessions_view m.entries) k (session_view v)
opened m n k v updates = same_map nat_cmp_total nat_cmp-IsAntisymmetric _ _ (λ q.
    get_seen n q ∙ ap (option_map session_view) (updates q)
    ∙ given (tree.is_at (nat_cmp k) q) (Some v) (tree.get nat_cmp m q)
    ∙ ap (cond (tree.is_at (nat_cmp k) q) (Some (session_view v))) (sym (get_seen m q))
    ∙ ap (λ b. cond b (Some (session_view v)) (finite.get (sessions_view m.entries) q)) ((eq_by_cmp_equiv nat_cmp_total).symm k q)
    ∙ sym (get-insert nat_cmp_total (sessions_view m.entries) k (session_view v) q))

-- ---- the invariant: as many are seen as there are, and each is within its limits

abbrev pub IsWell : BTreeMap ℕ Session → Type 0
IsWell m = (finite.len (sessions_view m.entries) ≡ length m.entries) × ((n : ℕ) → AreLimits (finite.get (sessions_view m.entries) n))

limits_cond : (b : Bool) (v o : Option Expected) → AreLimits v → AreLimits o → AreLimits (cond b v o)
limits_cond true v o first second = first
limits_cond false v o first second = second

one_more : (old : Option Session) (is : Option Expected) (seen there now : ℕ) → is ≡ option_map session_view old → seen ≡ there
    → now ≡ there + (if is_some old then 0 else 1)
    → cond (is_some is) seen (seen + 1) ≡ now
one_more None is seen there now e same more = rw e (omega (arith, same, more))
one_more (Some x) is seen there now e same more = rw e (omega (arith, same, more))

one_less : (old : Option Session) (is : Option Expected) (seen there now : ℕ) → is ≡ option_map session_view old → seen ≡ there
    → now + (if is_some old then 1 else 0) ≡ there
    → cond (is_some is) (seen - 1) seen ≡ now
one_less None is seen there now e same less = rw e (omega (arith, same, less))
one_less (Some x) is seen there now e same less = rw e (omega (arith, same, less))

pub well_opened : (m n : BTreeMap ℕ Session) (k : ℕ) (v : Session) (old : Option Session)
    → ((q : ℕ) → tree.get nat_cmp n q ≡ cond (tree.is_at (nat_cmp k) q) (Some v) (tree.get nat_cmp m q))
    → old ≡ tree.get nat_cmp m k → length n.entries ≡ length m.entries + (if is_some old then 0 else 1)
    → IsWell m → AreLimits (Some (session_view v)) → IsWell n
well_opened m n k v old updates was more (same, limits) limit =
    let is = opened m n k v updates in
    let seen : finite.get (sessions_view m.entries) k ≡ option_map session_view old = get_seen m k ∙ ap (option_map session_view) (sym was) in (
      ap finite.len is ∙ len-insert nat_cmp_total (sessions_view m.entries) k (session_view v)
          ∙ one_more old (finite.get (sessions_view m.entries) k) (finite.len (sessions_view m.entries)) (length m.entries) (length n.entries) seen same more,
      λ q. subst AreLimits (sym (ap (λ x. finite.get x q) is ∙ get-insert nat_cmp_total (sessions_view m.entries) k (session_view v) q))
          (limits_cond (eq_by_cmp nat_cmp q k) (Some (session_view v)) (finite.get (sessions_view m.entries) q) limit (limits q)),
    )

pub well_closed : (m n : BTreeMap ℕ Session) (k : ℕ) (old : Option Session)
    → ((q : ℕ) → tree.get nat_cmp n q ≡ cond (tree.is_at (nat_cmp k) q) None (tree.get nat_cmp m q))
    → old ≡ tree.get nat_cmp m k → length n.entries + (if is_some old then 1 else 0) ≡ length m.entries
    → IsWell m → IsWell n
well_closed m n k old updates was less (same, limits) =
    let is = closed m n k updates in
    let seen : finite.get (sessions_view m.entries) k ≡ option_map session_view old = get_seen m k ∙ ap (option_map session_view) (sym was) in (
      ap finite.len is ∙ len-remove nat_cmp_total (sessions_view m.entries) k
          ∙ one_less old (finite.get (sessions_view m.entries) k) (finite.len (sessions_view m.entries)) (length m.entries) (length n.entries) seen same less,
      λ q. subst AreLimits (sym (ap (λ x. finite.get x q) is ∙ get-remove nat_cmp_total (sessions_view m.entries) k q))
          (limits_cond (eq_by_cmp nat_cmp q k) None (finite.get (sessions_view m.entries) q) tt (limits q)),
    )

pub well_empty : (m : BTreeMap ℕ Session) → m.entries ≡ [] → IsWell m
well_empty m none = rw none (grind (arith, gets, common_steps), λ q. rw (get-empty nat_cmp q) tt)

-- whether a session is there is seen
pub seen_there : (o : Option Session) → is_some (option_map session_view o) ≡ is_some o
seen_there None = refl
seen_there (Some x) = refl

pub copied : (o : Option (Bor Session)) → option_map (λ s. session_view s.now) o ≡ option_map session_view (option_copied o)
copied None = refl
copied (Some x) = refl

abbrev pub open_with : ℕ → ℕ → finite.FinMap nat_cmp Expected → OpenSessions
open_with max_open next expected = record { expected = expected; next = next; max_open = max_open }
