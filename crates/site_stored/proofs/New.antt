-- A store without credentials.
use Rattle.std.proofs.Common.{◌≡◌, ℕ, List, [], map, sym, ap, ◌∙◌, subst}
use Rattle.std.specs.Prelude.{Some, None, filter, pos}
use Rattle.std.specs.FinMap as finite
use Rattle.std.specs.FinMap.{entries-from_sorted, get-empty, get-from_sorted, same_map, nat_cmp-IsAntisymmetric}
use Rattle.std.specs.Ordering.{nat_cmp}
use Rattle.std.specs.Cmp.{nat_cmp_total}
use Rattle.std.specs.List.{AllByRecursion}
use Rattle.sqlite_value.specs.Order.{Row, value_cmp}
use Rattle.sqlite_trees.specs.Tree.{Trees, has_rowid, put_row}
use Rattle.sqlite_trees.specs.View.{SetsTree, View}
use Rattle.verification.specs.Records.{Credential}
use Rattle.site_rows.specs.Endings.{HoldsEndings, ending_row}
use Rattle.site_rows.specs.Held.{Holds, Indexes, entry}
use Rattle.site_rows.specs.Rows.{credential_row}
use Rattle.site_stored.specs.Private.{IsNew}
use Rattle.site_stored.specs.State.{HasKey, HoldsSite, key_row, site_row}

none_entered : {X : Type 0} → finite.entries (finite.empty {K = ℕ} {X = X} {R = nat_cmp}) ≡ []
none_entered {X} =
    ap finite.entries (same_map nat_cmp_total nat_cmp-IsAntisymmetric finite.empty (finite.from_sorted []) (λ q.
    get-empty {X = X} nat_cmp q ∙ sym (get-from_sorted nat_cmp [] q tt)))
    ∙ entries-from_sorted nat_cmp [] tt

pub none_there : (place : ℕ) (c : Credential) → finite.get (finite.empty {K = ℕ} {X = Credential} {R = nat_cmp}) place ≡ Some c → ⊥
none_there place c is = let no : None ≡ Some c = sym (get-empty {X = Credential} nat_cmp place) ∙ is in absurd cc

none_indexed : (column : Credential → List ℕ) (es : List Row) → es ≡ [] → Indexes column finite.empty es
none_indexed column es e = record {
  each = λ place c is. absurd (none_there place c is);
  only = subst (AllByRecursion (λ r. (place : ℕ) × (c : Credential) × (finite.get finite.empty place ≡ Some c) × (r ≡ entry (column c) place))) (sym e) tt;
}

pub holds_none : (db : Trees) → db 0 ≡ [] → db 3 ≡ [] → db 4 ≡ [] → Holds finite.empty db
holds_none db table by_id by_user = record {
  table = table ∙ sym (ap (map (λ e. credential_row e.0 e.1)) none_entered);
  by_id = none_indexed (λ c. c.id) (db 3) by_id;
  by_user = none_indexed (λ c. c.user) (db 4) by_user;
  are = record {
    own = λ p q c d there. absurd (none_there p c there);
    stored = λ p c there. absurd (none_there p c there);
  };
}

pub holds_new : (old new : View) (rp_id : List ℕ) (next : ℕ) → IsNew old → SetsTree old new 2 (put_row (site_row rp_id next)) → HoldsSite finite.empty rp_id next new.trees
holds_new old new rp_id next none s = record {
  credentials = holds_none new.trees (ap (λ v. v.trees 0) s.is ∙ none.credentials) (ap (λ v. v.trees 3) s.is ∙ none.by_id) (ap (λ v. v.trees 4) s.is ∙ none.by_user);
  site = ap (λ v. v.trees 2) s.is ∙ ap (put_row (site_row rp_id next)) none.site;
}

-- and its commit has a mark
pub marked_new : (old set : View) (marked : Trees) (rp_id id : List ℕ) (next : ℕ) → IsNew old → SetsTree old set 2 (put_row (site_row id next))
    → (HoldsSite finite.empty id next set.trees → HoldsSite finite.empty id next marked) → id ≡ rp_id → HoldsSite finite.empty rp_id next marked
marked_new old set marked rp_id id next none sets holds same =
    subst (λ id. HoldsSite finite.empty id next marked) same (holds (holds_new old set id next none sets))

-- the row of the key is in a tree of its own
pub key_stays : (old new : View) (edit : List Row → List Row) (rp_id : List ℕ) (next : ℕ) → SetsTree old new 7 edit
    → HoldsSite finite.empty rp_id next old.trees → HoldsSite finite.empty rp_id next new.trees
key_stays old new edit rp_id next s h = record {
  credentials = record {
    table = ap (λ v. v.trees 0) s.is ∙ h.credentials.table;
    by_id = subst (Indexes (λ c. c.id) finite.empty) (sym (ap (λ v. v.trees 3) s.is)) h.credentials.by_id;
    by_user = subst (Indexes (λ c. c.user) finite.empty) (sym (ap (λ v. v.trees 4) s.is)) h.credentials.by_user;
    are = h.credentials.are;
  };
  site = ap (λ v. v.trees 2) s.is ∙ h.site;
}

-- the row of the key is the one of its table
pub key_new : (old set keyed marked : View) (site mark : List Row → List Row) (key : List ℕ) → IsNew old → SetsTree old set 2 site
    → SetsTree set keyed 7 (put_row (key_row key)) → SetsTree keyed marked 6 mark → HasKey key marked.trees
unfolding value_cmp lib.Ieee.is_nan lib.Ieee.lt
key_new old set keyed marked site mark key none s k m =
    ap (filter (has_rowid (pos 1))) (ap (λ v. v.trees 7) m.is ∙ ap (λ v. v.trees 7) k.is ∙ ap (put_row (key_row key)) (ap (λ v. v.trees 7) s.is ∙ none.key))

none_ended : (tree : ℕ) (db : Trees) → db tree ≡ [] → HoldsEndings tree finite.empty db
none_ended tree db none = none ∙ sym (ap (map (λ e. ending_row e.0 e.1)) none_entered)

-- and nothing has ended
pub endings_new : (old set keyed marked : View) (site key mark : List Row → List Row) → IsNew old → SetsTree old set 2 site → SetsTree set keyed 7 key
    → SetsTree keyed marked 6 mark → HoldsEndings 8 finite.empty marked.trees × HoldsEndings 9 finite.empty marked.trees
endings_new old set keyed marked site key mark none s k m = (
  none_ended 8 marked.trees (ap (λ v. v.trees 8) m.is ∙ ap (λ v. v.trees 8) k.is ∙ ap (λ v. v.trees 8) s.is ∙ none.ended_sessions),
  none_ended 9 marked.trees (ap (λ v. v.trees 9) m.is ∙ ap (λ v. v.trees 9) k.is ∙ ap (λ v. v.trees 9) s.is ∙ none.ended_users),
)
