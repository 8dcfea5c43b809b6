-- What the writes of a transaction make of the credentials that a store holds.
use Rattle.std.proofs.Common.{◌≡◌, ◌<◌, ◌^◌, ℕ, ℤ, pos, Bool, true, false, List, refl, sym, ap, ◌∙◌, subst, arith}
use Rattle.std.proofs.lemmas.Grind.{common_steps}
use Rattle.std.specs.Prelude.{◌≢◌, ◌==◌, Result, Ok, Err, OnOk, Some, None}
use Rattle.std.specs.FinMap as finite
use Rattle.sqlite_value.specs.Order.{Row}
use Rattle.sqlite_value.specs.Keys.{plain}
use Rattle.sqlite_trees.specs.Tree.{Trees, insert_entry, order_of, put_row, remove_entry, rowid, with_tree, without_rowid}
use Rattle.sqlite_trees.specs.View.{SetsTree, View, is_int}
use Rattle.sqlite_trees.specs.declared.store.Shape.TheVariants.{Index}
use Rattle.verification.specs.Records.{Credential}
use Rattle.site_rows.specs.Rows.{IsStored, credential_row}
use Rattle.site_rows.specs.Held.{HasNone, HasTrees, Holds, Indexes, IsWritten, Placed, entry}
use Rattle.site_rows.proofs.Standing.{numbered}
use Rattle.site_rows.proofs.Tables.{put_in, without_in}
use Rattle.site_rows.proofs.Writes.{indexes_added, indexes_removed, indexes_set, placed_added, placed_removed, placed_set}

pub on_ok : {A E : Type 0} (r : Result A E) (P Q : Type 0) → (P → Q) → OnOk r P → OnOk r Q
on_ok (Ok x) P Q f h = f h
on_ok (Err e) P Q f h = tt

-- ---- one tree after the other

untouched : (trees : Trees) (tree n : ℕ) (es : List Row) → n ≢ tree → with_tree trees tree es n ≡ trees n
untouched trees tree n es apart = go (n == tree) refl
  where
    go : (b : Bool) → (n == tree) ≡ b → with_tree trees tree es n ≡ trees n
    go true t = let same : n ≡ tree = grind (arith, common_steps, t) in absurd (apart same)
    go false t = rw t refl

pub left_alone : (old new : View) (tree n : ℕ) (edit : List Row → List Row) → SetsTree old new tree edit → n ≢ tree → new.trees n ≡ old.trees n
left_alone old new tree n edit s apart = ap (λ v. v.trees n) s.is ∙ untouched old.trees tree n (edit (old.trees tree)) apart

-- only trees and cursors differ
abbrev pub IsLater : View → View → Type 0
IsLater old new = new ≡ record old { trees = new.trees; cursors = new.cursors }

pub later : (old mid new : View) (tree : ℕ) (edit : List Row → List Row) → IsLater old mid → SetsTree mid new tree edit → IsLater old new
later old mid new tree edit first s =
    s.is
    ∙ ap (λ (v : View). record v { trees = with_tree mid.trees tree (edit (mid.trees tree)); cursors = new.cursors }) first
    ∙ ap (λ (t : Trees). record old { trees = t; cursors = new.cursors }) (sym (ap (λ v. v.trees) s.is))

plain_at : (first old : View) (tree : ℕ) → first.shape tree ≡ Index plain → IsLater first old → order_of (old.shape tree) ≡ plain
plain_at first old tree is same = ap (λ (v : View). order_of (v.shape tree)) same ∙ ap order_of is

pub keyed : (place : ℕ) (c : Credential) (row : Row) → row ≡ credential_row place c → is_int (rowid row) ≡ true
keyed place c row e = rw e refl

-- ---- each write

pub added : (old a b new : View) (placed : Placed) (place : ℕ) (c : Credential) (row by_id by_user : Row) → row ≡ credential_row place c
    → by_id ≡ entry c.id place → by_user ≡ entry c.user place → SetsTree old a 0 (put_row row)
    → SetsTree a b 3 (insert_entry (order_of (a.shape 3)) by_id) → SetsTree b new 4 (insert_entry (order_of (b.shape 4)) by_user)
    → HasTrees old → place < 2 ^ 32 → IsStored c → Holds placed old.trees → finite.get placed place ≡ None → HasNone placed c.id
    → IsWritten old new (finite.insert placed place c)
added old a b new placed place c row by_id by_user is id user s t u has fits stored h fresh none =
    let la = later old old a 0 (put_row row) refl s in
    let lb = later old a b 3 (insert_entry (order_of (a.shape 3)) by_id) la t in
    record {
      holds = record {
        table = ap (λ v. v.trees 0) u.is ∙ ap (λ v. v.trees 0) t.is ∙ ap (λ v. v.trees 0) s.is
            ∙ ap (λ r. put_row r (old.trees 0)) is ∙ ap (put_row (credential_row place c)) h.table
            ∙ put_in credential_row numbered placed place c;
        by_id = subst (Indexes (λ d. d.id) (finite.insert placed place c))
            (sym (ap (λ v. v.trees 3) u.is ∙ ap (λ v. v.trees 3) t.is
            ∙ ap (λ o. insert_entry o by_id (a.trees 3)) (plain_at old a 3 has.by_id la)
            ∙ ap (λ e. insert_entry plain e (a.trees 3)) id
            ∙ ap (insert_entry plain (entry c.id place)) (ap (λ v. v.trees 3) s.is)))
            (indexes_added (λ d. d.id) placed place c (old.trees 3) fresh h.by_id);
        by_user = subst (Indexes (λ d. d.user) (finite.insert placed place c))
            (sym (ap (λ v. v.trees 4) u.is
            ∙ ap (λ o. insert_entry o by_user (b.trees 4)) (plain_at old b 4 has.by_user lb)
            ∙ ap (λ e. insert_entry plain e (b.trees 4)) user
            ∙ ap (insert_entry plain (entry c.user place)) (ap (λ v. v.trees 4) t.is ∙ ap (λ v. v.trees 4) s.is)))
            (indexes_added (λ d. d.user) placed place c (old.trees 4) fresh h.by_user);
        are = placed_added placed place c fits stored none h.are;
      };
      others = λ n x y z. left_alone b new 4 n (insert_entry (order_of (b.shape 4)) by_user) u z
          ∙ left_alone a b 3 n (insert_entry (order_of (a.shape 3)) by_id) t y ∙ left_alone old a 0 n (put_row row) s x;
      is = later old b new 4 (insert_entry (order_of (b.shape 4)) by_user) lb u;
    }

pub set_there : (old new : View) (placed : Placed) (place : ℕ) (was c : Credential) (row : Row) → row ≡ credential_row place c → SetsTree old new 0 (put_row row)
    → IsStored c → Holds placed old.trees → finite.get placed place ≡ Some was → c.id ≡ was.id → c.user ≡ was.user
    → IsWritten old new (finite.insert placed place c)
set_there old new placed place was c row is s stored h there id user = record {
  holds = record {
    table = ap (λ v. v.trees 0) s.is ∙ ap (λ r. put_row r (old.trees 0)) is ∙ ap (put_row (credential_row place c)) h.table
        ∙ put_in credential_row numbered placed place c;
    by_id = subst (Indexes (λ d. d.id) (finite.insert placed place c)) (sym (ap (λ v. v.trees 3) s.is))
        (indexes_set (λ d. d.id) placed place was c (old.trees 3) there id h.by_id);
    by_user = subst (Indexes (λ d. d.user) (finite.insert placed place c)) (sym (ap (λ v. v.trees 4) s.is))
        (indexes_set (λ d. d.user) placed place was c (old.trees 4) there user h.by_user);
    are = placed_set placed place was c there id stored h.are;
  };
  others = λ n x y z. left_alone old new 0 n (put_row row) s x;
  is = later old old new 0 (put_row row) refl s;
}

pub removed : (old a b new : View) (placed : Placed) (place : ℕ) (c : Credential) (id : ℤ) (by_id by_user : Row) → id ≡ pos place
    → by_id ≡ entry c.id place → by_user ≡ entry c.user place → SetsTree old a 0 (without_rowid id)
    → SetsTree a b 3 (remove_entry (order_of (a.shape 3)) by_id) → SetsTree b new 4 (remove_entry (order_of (b.shape 4)) by_user)
    → HasTrees old → Holds placed old.trees → finite.get placed place ≡ Some c
    → IsWritten old new (finite.remove placed place)
removed old a b new placed place c id by_id by_user at mine user s t u has h there =
    let la = later old old a 0 (without_rowid id) refl s in
    let lb = later old a b 3 (remove_entry (order_of (a.shape 3)) by_id) la t in
    record {
      holds = record {
        table = ap (λ v. v.trees 0) u.is ∙ ap (λ v. v.trees 0) t.is ∙ ap (λ v. v.trees 0) s.is
            ∙ ap (λ n. without_rowid n (old.trees 0)) at ∙ ap (without_rowid (pos place)) h.table
            ∙ without_in credential_row numbered placed place;
        by_id = subst (Indexes (λ d. d.id) (finite.remove placed place))
            (sym (ap (λ v. v.trees 3) u.is ∙ ap (λ v. v.trees 3) t.is
            ∙ ap (λ o. remove_entry o by_id (a.trees 3)) (plain_at old a 3 has.by_id la)
            ∙ ap (λ e. remove_entry plain e (a.trees 3)) mine
            ∙ ap (remove_entry plain (entry c.id place)) (ap (λ v. v.trees 3) s.is)))
            (indexes_removed (λ d. d.id) placed place c (old.trees 3) there h.by_id);
        by_user = subst (Indexes (λ d. d.user) (finite.remove placed place))
            (sym (ap (λ v. v.trees 4) u.is
            ∙ ap (λ o. remove_entry o by_user (b.trees 4)) (plain_at old b 4 has.by_user lb)
            ∙ ap (λ e. remove_entry plain e (b.trees 4)) user
            ∙ ap (remove_entry plain (entry c.user place)) (ap (λ v. v.trees 4) t.is ∙ ap (λ v. v.trees 4) s.is)))
            (indexes_removed (λ d. d.user) placed place c (old.trees 4) there h.by_user);
        are = placed_removed placed place h.are;
      };
      others = λ n x y z. left_alone b new 4 n (remove_entry (order_of (b.shape 4)) by_user) u z
          ∙ left_alone a b 3 n (remove_entry (order_of (a.shape 3)) by_id) t y ∙ left_alone old a 0 n (without_rowid id) s x;
      is = later old b new 4 (remove_entry (order_of (b.shape 4)) by_user) lb u;
    }
