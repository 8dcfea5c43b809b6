-- A map of moments in memory as a finite map.
use Rattle.std.proofs.Common.{◌≡◌, ℕ, List, [], ◌∷◌, filter, refl, sym, ap, subst, ◌∙◌, Ordering, Less, Equal, Greater}
use Rattle.std.specs.Prelude.{Bool, true, false, cond, ◌&&◌, ◌||◌, Option, Some, None, is_some, Result, Ok, Err, IfOk, IfErr, IfSome, IsSome, ◌≤◌}
use Rattle.std.specs.Map.{keys_of, lookup}
use Rattle.std.specs.BTreeMap as tree
use Rattle.std.specs.BTreeMap.{BTreeMap}
use Rattle.std.specs.FinMap as finite
use Rattle.std.specs.FinMap.{same_map, find, get-from_entries, get-insert, get-remove, nat_cmp-IsAntisymmetric}
use Rattle.std.specs.Cmp.{nat_cmp_total, eq_by_cmp_equiv}
use Rattle.std.specs.Ordering.{nat_cmp, eq_by_cmp}
use Rattle.site_state.specs.Timed.{Moments}
use Rattle.site_state.specs.Private.{is_in, is_older}

abbrev pub kept : List (ℕ × ℕ) → Moments
kept es = finite.from_entries es

found : (es : List (ℕ × ℕ)) (q : ℕ) → find nat_cmp q es ≡ lookup (tree.is_at (nat_cmp q)) es
found [] q = refl
found (e ∷ es) q = ap (cond (eq_by_cmp nat_cmp q e.0) (Some e.1)) (found es q)

pub get_kept : (m : BTreeMap ℕ ℕ) (q : ℕ) → finite.get (kept m.entries) q ≡ tree.get nat_cmp m q
get_kept m q = get-from_entries nat_cmp_total m.entries q ∙ found m.entries q

pub taken_out : (m n : BTreeMap ℕ ℕ) (k : ℕ) → ((q : ℕ) → tree.get nat_cmp n q ≡ cond (tree.is_at (nat_cmp k) q) None (tree.get nat_cmp m q))
    → kept n.entries ≡ finite.remove (kept m.entries) k
taken_out m n k updates = same_map nat_cmp_total nat_cmp-IsAntisymmetric _ _ (λ q.
    get_kept n q ∙ updates q
    ∙ ap (cond (tree.is_at (nat_cmp k) q) None) (sym (get_kept m q))
    ∙ ap (λ b. cond b None (finite.get (kept m.entries) q)) ((eq_by_cmp_equiv nat_cmp_total).symm k q)
    ∙ sym (get-remove nat_cmp_total (kept m.entries) k q))

pub put_in : (m n : BTreeMap ℕ ℕ) (k v : ℕ) → ((q : ℕ) → tree.get nat_cmp n q ≡ cond (tree.is_at (nat_cmp k) q) (Some v) (tree.get nat_cmp m q))
    → kept n.entries ≡ finite.insert (kept m.entries) k v
put_in m n k v updates = same_map nat_cmp_total nat_cmp-IsAntisymmetric _ _ (λ q.
    get_kept n q ∙ updates q
    ∙ ap (cond (tree.is_at (nat_cmp k) q) (Some v)) (sym (get_kept m q))
    ∙ ap (λ b. cond b (Some v) (finite.get (kept m.entries) q)) ((eq_by_cmp_equiv nat_cmp_total).symm k q)
    ∙ sym (get-insert nat_cmp_total (kept m.entries) k v q))

-- ---- a walk over the numbers

pub in_walk : (p : ℕ → Bool) (q : ℕ) (ks : List ℕ) → is_in q (filter p ks) ≡ is_in q ks && p q
in_walk p q [] = refl
in_walk p q (k ∷ ks) = go (nat_cmp q k) refl (p k) refl (in_walk p q ks)
  where
    both_false : (a : Bool) → a && false ≡ false
    both_false true = refl
    both_false false = refl

    go : (o : Ordering) → nat_cmp q k ≡ o → (b : Bool) → p k ≡ b → is_in q (filter p ks) ≡ is_in q ks && p q
        → is_in q (filter p (k ∷ ks)) ≡ is_in q (k ∷ ks) && p q
    go Less t true h more = rw (h, t) more
    go Less t false h more = rw (h, t) more
    go Greater t true h more = rw (h, t) more
    go Greater t false h more = rw (h, t) more
    go Equal t true h more = rw (h, t) (sym (ap p (nat_cmp-IsAntisymmetric q k t) ∙ h))
    go Equal t false h more =
        let here : p q ≡ false = ap p (nat_cmp-IsAntisymmetric q k t) ∙ h in
        rw (h, t) (more ∙ ap (λ b. is_in q ks && b) here ∙ both_false (is_in q ks) ∙ sym here)

in_keys : (es : List (ℕ × ℕ)) (q : ℕ) → is_in q (keys_of es) ≡ is_some (lookup (tree.is_at (nat_cmp q)) es)
in_keys [] q = refl
in_keys (e ∷ es) q = go (eq_by_cmp nat_cmp q e.0) (in_keys es q)
  where
    go : (b : Bool) → is_in q (keys_of es) ≡ is_some (lookup (tree.is_at (nat_cmp q)) es)
        → b || is_in q (keys_of es) ≡ is_some (cond b (Some e.1) (lookup (tree.is_at (nat_cmp q)) es))
    go true more = refl
    go false more = more

pub older_there : (before : ℕ) (o : Option ℕ) → is_some o && is_older before o ≡ is_older before o
older_there before None = refl
older_there before (Some m) = refl

-- the numbers that a walk over all keys picks are those of the sessions that are older
pub walked : (m : BTreeMap ℕ ℕ) (before q : ℕ)
    → is_in q (filter (λ n. is_older before (tree.get nat_cmp m n)) (tree.keys m)) ≡ is_older before (finite.get (kept m.entries) q)
walked m before q =
    in_walk (λ n. is_older before (tree.get nat_cmp m n)) q (tree.keys m)
    ∙ ap (λ b. b && is_older before (tree.get nat_cmp m q)) (in_keys m.entries q)
    ∙ older_there before (tree.get nat_cmp m q)
    ∙ ap (is_older before) (sym (get_kept m q))

pub if_ok : {T E : Type 0} (r : Result T E) (P Q : T → Type 0) → ((x : T) → P x → Q x) → IfOk r P → IfOk r Q
if_ok (Ok x) P Q more is = more x is
if_ok (Err e) P Q more is = is

pub if_err : {T E : Type 0} (r : Result T E) (P Q : E → Type 0) → ((e : E) → P e → Q e) → IfErr r P → IfErr r Q
if_err (Ok x) P Q more is = is
if_err (Err e) P Q more is = more e is

pub some_kept : (m : BTreeMap ℕ ℕ) (o : Option ℕ) → IfSome o (λ n. IsSome (tree.get nat_cmp m n)) → IfSome o (λ n. IsSome (finite.get (kept m.entries) n))
some_kept m None is = tt
some_kept m (Some n) is = subst IsSome (sym (get_kept m n)) is

pub least_kept : (m : BTreeMap ℕ ℕ) (o : Option ℕ) → IfSome o (λ n. (k : ℕ) → IsSome (tree.get nat_cmp m k) → n ≤ k)
    → IfSome o (λ n. (k : ℕ) → IsSome (finite.get (kept m.entries) k) → n ≤ k)
least_kept m None is = tt
least_kept m (Some n) is = λ k some. is k (subst IsSome (get_kept m k) some)
