-- What a write makes of what is held.
use Rattle.std.proofs.Common.{◌≡◌, ◌≤◌, ◌+◌, ◌-◌, ℕ, List, Bool, true, false, cond, refl, sym, ap, ◌∙◌, subst, arith}
use Rattle.std.proofs.lemmas.Grind.{common_steps}
use Rattle.std.specs.Prelude.{Some, None, Option, IfSome, is_some}
use Rattle.std.specs.FinMap as finite
use Rattle.std.specs.FinMap.{get-insert, get-remove, len-insert, len-remove}
use Rattle.std.specs.Ordering.{nat_cmp, eq_by_cmp}
use Rattle.std.specs.Cmp.{nat_cmp_total}
use Rattle.sqlite_trees.specs.Tree.{Trees}
use Rattle.sqlite_trees.specs.View.{View}
use Rattle.verification.specs.Records.{Credential}
use Rattle.site_state.specs.RowViews.{row_view}
use Rattle.site_rows.specs.Held.{HasNone, Indexes, IsAt, IsWritten, Placed}
use Rattle.site_rows.specs.Details.{Details, HoldsDetails, IsDetailed}
use Rattle.site_rows.specs.declared.finding.Found.{Found}
use Rattle.site_stored.specs.Calls.{IsFound}
use Rattle.site_stored.specs.Private.{IsFoundAs, credential_of}
use Rattle.site_stored.specs.State.{HoldsSite, IsHeld, StoredState}

pub found_as : (C : Type 0) (H : Placed → Type 0) (id : List ℕ) (found : Option Found)
    → IfSome found (λ f. C → (placed : Placed) → H placed → IsAt placed id f.place (row_view f.credential))
    → (found ≡ None → C → (placed : Placed) → H placed → HasNone placed id) → C → (placed : Placed) → H placed → IsFoundAs placed id found
found_as C H id None there none clean placed h = none refl clean placed h
found_as C H id (Some f) there none clean placed h = there clean placed h

pub is_found : (placed : Placed) (id : List ℕ) (found : Option Found) → IsFoundAs placed id found → IsFound placed id (credential_of found)
is_found placed id None is = is
is_found placed id (Some f) is = (f.place, is)

tied : (p q : ℕ) → eq_by_cmp nat_cmp p q ≡ true → p ≡ q
tied p q e = grind (arith, common_steps, e)

-- the row of the relying party is in a tree of its own
pub site_stays : (placed after : Placed) (rp_id : List ℕ) (reserved : ℕ) (old new : View) → IsWritten old new after → HoldsSite placed rp_id reserved old.trees
    → HoldsSite after rp_id reserved new.trees
site_stays placed after rp_id reserved old new w h = record {
  credentials = w.holds;
  site = w.others 2 (λ e. grind (arith, common_steps, e)) (λ e. grind (arith, common_steps, e)) (λ e. grind (arith, common_steps, e)) ∙ h.site;
}

there_or : (placed : Placed) (place p : ℕ) (c d : Credential) (last : ℕ) → finite.get (finite.insert placed place c) p ≡ Some d → place ≤ last
    → (finite.get placed p ≡ Some d → p ≤ last) → p ≤ last
there_or placed place p c d last there fits old = go (eq_by_cmp nat_cmp p place) refl
  where
    go : (b : Bool) → eq_by_cmp nat_cmp p place ≡ b → p ≤ last
    go true t = subst (λ k. k ≤ last) (sym (tied p place t)) fits
    go false t = old (sym (get-insert nat_cmp_total placed place c p ∙ ap (λ b. cond b (Some c) (finite.get placed p)) t) ∙ there)

-- a credential is set where one stands
pub held_set : {S : Type 0} (placed : Placed) (s t : StoredState S) (old new : View) (place : ℕ) (was c : Credential) → finite.get placed place ≡ Some was
    → IsHeld placed s old.trees → IsWritten old new (finite.insert placed place c) → t.rp ≡ s.rp → t.reserved ≡ s.reserved → t.count ≡ s.count → t.last ≡ s.last
    → IsHeld (finite.insert placed place c) t new.trees
held_set placed s t old new place was c there h w rp reserved count last = record {
  holds = subst (λ k. HoldsSite (finite.insert placed place c) t.rp.rp_id k new.trees) (sym reserved)
      (subst (λ k. HoldsSite (finite.insert placed place c) k.rp_id s.reserved new.trees) (sym rp)
      (site_stays placed (finite.insert placed place c) s.rp.rp_id s.reserved old new w h.holds));
  count = len-insert nat_cmp_total placed place c ∙ ap (λ o. cond (is_some o) (finite.len placed) (finite.len placed + 1)) there ∙ h.count ∙ sym count;
  last = λ p d x. subst (λ k. p ≤ k) (sym last) (there_or placed place p c d s.last x (h.last place was there) (h.last p d));
}

gone : (placed : Placed) (place p : ℕ) (d : Credential) → finite.get (finite.remove placed place) p ≡ Some d → finite.get placed p ≡ Some d
gone placed place p d there = go (eq_by_cmp nat_cmp p place) refl
  where
    none_left : None ≡ Some d → ⊥
    none_left is = absurd cc

    go : (b : Bool) → eq_by_cmp nat_cmp p place ≡ b → finite.get placed p ≡ Some d
    go true t = absurd (none_left (sym (get-remove nat_cmp_total placed place p ∙ ap (λ b. cond b None (finite.get placed p)) t) ∙ there))
    go false t = sym (get-remove nat_cmp_total placed place p ∙ ap (λ b. cond b None (finite.get placed p)) t) ∙ there

-- a credential is removed
pub held_removed : {S : Type 0} (placed : Placed) (s t : StoredState S) (old new : View) (place : ℕ) (was : Credential) → finite.get placed place ≡ Some was
    → IsHeld placed s old.trees → IsWritten old new (finite.remove placed place) → t.rp ≡ s.rp → t.reserved ≡ s.reserved → t.count ≡ s.count - 1 → t.last ≡ s.last
    → IsHeld (finite.remove placed place) t new.trees
held_removed placed s t old new place was there h w rp reserved count last = record {
  holds = subst (λ k. HoldsSite (finite.remove placed place) t.rp.rp_id k new.trees) (sym reserved)
      (subst (λ k. HoldsSite (finite.remove placed place) k.rp_id s.reserved new.trees) (sym rp)
      (site_stays placed (finite.remove placed place) s.rp.rp_id s.reserved old new w h.holds));
  count = len-remove nat_cmp_total placed place ∙ ap (λ o. cond (is_some o) (finite.len placed - 1) (finite.len placed)) there ∙ ap (λ k. k - 1) h.count ∙ sym count;
  last = λ p d x. subst (λ k. p ≤ k) (sym last) (h.last p d (gone placed place p d x));
}

-- nothing is written
pub held_same : {S : Type 0} (placed : Placed) (s t : StoredState S) (old new : View) → IsHeld placed s old.trees → new.trees ≡ old.trees → t.rp ≡ s.rp
    → t.reserved ≡ s.reserved → t.count ≡ s.count → t.last ≡ s.last → IsHeld placed t new.trees
held_same placed s t old new h same rp reserved count last = record {
  holds = subst (λ k. HoldsSite placed t.rp.rp_id k new.trees) (sym reserved)
      (subst (λ k. HoldsSite placed k.rp_id s.reserved new.trees) (sym rp) (subst (HoldsSite placed s.rp.rp_id s.reserved) (sym same) h.holds));
  count = h.count ∙ sym count;
  last = λ p d x. subst (λ k. p ≤ k) (sym last) (h.last p d x);
}

-- no credential stands above the last place
pub free : {S : Type 0} (placed : Placed) (s : StoredState S) (db : Trees) → IsHeld placed s db → finite.get placed (s.last + 1) ≡ None
free placed s db h = go (finite.get placed (s.last + 1)) refl
  where
    go : (o : Option Credential) → finite.get placed (s.last + 1) ≡ o → finite.get placed (s.last + 1) ≡ None
    go None e = e
    go (Some c) e = let low = h.last (s.last + 1) c e in absurd (omega (arith, low))

-- a credential is added above the last place
pub held_added : {S : Type 0} (placed : Placed) (s t : StoredState S) (old new : View) (c : Credential) → IsHeld placed s old.trees
    → IsWritten old new (finite.insert placed (s.last + 1) c) → t.rp ≡ s.rp → t.reserved ≡ s.reserved → t.count ≡ s.count + 1 → t.last ≡ s.last + 1
    → IsHeld (finite.insert placed (s.last + 1) c) t new.trees
held_added placed s t old new c h w rp reserved count last = record {
  holds = subst (λ k. HoldsSite (finite.insert placed (s.last + 1) c) t.rp.rp_id k new.trees) (sym reserved)
      (subst (λ k. HoldsSite (finite.insert placed (s.last + 1) c) k.rp_id s.reserved new.trees) (sym rp)
      (site_stays placed (finite.insert placed (s.last + 1) c) s.rp.rp_id s.reserved old new w h.holds));
  count = len-insert nat_cmp_total placed (s.last + 1) c
      ∙ ap (λ o. cond (is_some o) (finite.len placed) (finite.len placed + 1)) (free placed s old.trees h) ∙ ap (λ k. k + 1) h.count ∙ sym count;
  last = λ p d x. subst (λ k. p ≤ k) (sym last)
      (there_or placed (s.last + 1) p c d (s.last + 1) x (omega arith) (λ there. let low = h.last p d there in omega (arith, low)));
}

-- no tree of credentials is written, nor that of the relying party
pub held_apart : {S : Type 0} (placed : Placed) (t : StoredState S) (old new : View) → new.trees 0 ≡ old.trees 0 → new.trees 2 ≡ old.trees 2
    → new.trees 3 ≡ old.trees 3 → new.trees 4 ≡ old.trees 4 → IsHeld placed t old.trees → IsHeld placed t new.trees
held_apart placed t old new table site ids users h = record {
  holds = record {
    credentials = record {
      table = table ∙ h.holds.credentials.table;
      by_id = subst (Indexes (λ c. c.id) placed) (sym ids) h.holds.credentials.by_id;
      by_user = subst (Indexes (λ c. c.user) placed) (sym users) h.holds.credentials.by_user;
      are = h.holds.credentials.are;
    };
    site = site ∙ h.holds.site;
  };
  count = h.count;
  last = h.last;
}

-- the table of details is written, and no other
pub held_beside : {S : Type 0} (placed : Placed) (t : StoredState S) (old new : View) (To : Details → Details) → IsDetailed old new To → IsHeld placed t old.trees
    → IsHeld placed t new.trees
held_beside placed t old new To d =
    held_apart placed t old new (d.others 0 (λ e. grind (arith, common_steps, e))) (d.others 2 (λ e. grind (arith, common_steps, e)))
    (d.others 3 (λ e. grind (arith, common_steps, e))) (d.others 4 (λ e. grind (arith, common_steps, e)))

-- a write of credentials leaves the details
pub details_stay : (old new : View) (placed : Placed) (details : Details) → IsWritten old new placed → HoldsDetails details old.trees → HoldsDetails details new.trees
details_stay old new placed details w h =
    w.others 5 (λ e. grind (arith, common_steps, e)) (λ e. grind (arith, common_steps, e)) (λ e. grind (arith, common_steps, e)) ∙ h
