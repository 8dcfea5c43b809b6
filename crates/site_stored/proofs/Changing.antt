-- A credential that ends.
use Rattle.std.proofs.Common.{◌≡◌, ◌-◌, ℕ, List, Bool, true, false, ◌∙◌, refl, sym, ap, subst}
use Rattle.std.specs.FinMap as finite
use Rattle.std.specs.Prelude.{◌≢◌, IsSome, Option, Some, None, if◌then◌else◌}
use Rattle.std.specs.Option.{ForSome}
use Rattle.sqlite_trees.specs.Tree.{Trees}
use Rattle.sqlite_trees.specs.View.{IsClean, IsStorableRow, View}
use Rattle.verification.specs.Records.{Credential}
use Rattle.site_state.specs.Table.{retired}
use Rattle.site_state.specs.RowViews.{row_view}
use Rattle.site_rows.specs.Held.{Holds, IsAt, Placed}
use Rattle.site_rows.specs.Rows.{credential_row}
use Rattle.site_rows.specs.declared.finding.Found.{Found}
use Rattle.site_stored.specs.Calls.{IsFound, TellsDeleted, TellsForgotten, TellsRetired}
use Rattle.site_rows.specs.Details.{Details, HoldsDetails}
use Rattle.site_stored.specs.Causes.{RefusesChange}
use Rattle.site_stored.specs.Private.{DeletesFound, IsFoundAs, RefusesRetired, RetiresFound, credential_of}
use Rattle.site_stored.specs.State.{IsHeld, StoredState}
use Rattle.site_stored.proofs.Held.{details_stay, held_beside, held_removed, held_same, held_set}

not_there : (placed : Placed) (id : List ℕ) (found : Option Found) → IsFoundAs placed id found → ForSome (credential_of found) (λ c. c.retired ≡ true)
    → (f : Option Credential) × IsFound placed id f × ForSome f (λ c. c.retired ≡ true)
not_there placed id None is was = (None, is, λ c e. absurd cc)
not_there placed id (Some f) is was = (Some (row_view f.credential), (f.place, is), was)

pub tells_retired : {S : Type 0} (placed : Placed) (id : List ℕ) (s t : StoredState S) (first old new : View) (found : Option Found) (Same : Type 0)
    (told : Bool) → IsFoundAs placed id found → (Same → new.trees ≡ old.trees) → RetiresFound found Same old new told → old.trees ≡ first.trees → IsClean new
    → IsHeld placed s first.trees → t.rp ≡ s.rp → t.reserved ≡ s.reserved → t.count ≡ s.count → t.last ≡ s.last
    → (after : Placed) × TellsRetired placed id told after × IsHeld after t new.trees
tells_retired placed id s t first old new found Same true is kept i same clean h rp reserved count last =
    let f = i.0 in
    let at : IsAt placed id f.place (row_view f.credential) = subst (IsFoundAs placed id) i.1 is in
    let held : IsHeld placed s old.trees = subst (IsHeld placed s) (sym same) h in
    let c = retired (row_view f.credential) in (
      finite.insert placed f.place c,
      (f.place, row_view f.credential, at, i.2, refl),
      held_set placed s t old new f.place (row_view f.credential) c at.there held (i.3 clean placed held.holds.credentials at.there) rp reserved count last,
    )
tells_retired placed id s t first old new found Same false is kept i same clean h rp reserved count last =
    (placed, (refl, not_there placed id found is i.1), held_same placed s t first new h (kept i.0 ∙ same) rp reserved count last)

pub tells_deleted : {S : Type 0} (placed : Placed) (id : List ℕ) (s t : StoredState S) (first old new : View) (found : Option Found) (Same : Type 0)
    (told : Bool) → IsFoundAs placed id found → (Same → new.trees ≡ old.trees) → DeletesFound found Same old new told → old.trees ≡ first.trees → IsClean new
    → IsHeld placed s first.trees → t.rp ≡ s.rp → t.reserved ≡ s.reserved → t.count ≡ (if told then s.count - 1 else s.count) → t.last ≡ s.last
    → (after : Placed) × TellsDeleted placed id told after × IsHeld after t new.trees
tells_deleted placed id s t first old new found Same true is kept i same clean h rp reserved count last =
    let f = i.0 in
    let at : IsAt placed id f.place (row_view f.credential) = subst (IsFoundAs placed id) i.1 is in
    let held : IsHeld placed s old.trees = subst (IsHeld placed s) (sym same) h in
    let mid = (i.2 clean).0 in (
      finite.remove placed f.place,
      (f.place, row_view f.credential, at, refl),
      held_beside (finite.remove placed f.place) t mid new _ (i.2 clean).2
          (held_removed placed s t old mid f.place (row_view f.credential) at.there held ((i.2 clean).1 placed held.holds.credentials at.there) rp reserved count last),
    )
tells_deleted placed id s t first old new found Same false is kept i same clean h rp reserved count last =
    (placed, (refl, subst (IsFoundAs placed id) i.1 is), held_same placed s t first new h (kept i.0 ∙ same) rp reserved count last)

pub tells_forgotten : {S : Type 0} (placed : Placed) (id : List ℕ) (s : StoredState S) (first old new : View) (found : Option Found) (Same : Type 0) (told : Bool)
    (details : Details) → IsFoundAs placed id found → (Same → new.trees ≡ old.trees) → DeletesFound found Same old new told → old.trees ≡ first.trees → IsClean new
    → IsHeld placed s first.trees → HoldsDetails details first.trees → TellsForgotten placed id told details new.trees
tells_forgotten placed id s first old new found Same true details is kept i same clean h d =
    let f = i.0 in
    let at : IsAt placed id f.place (row_view f.credential) = subst (IsFoundAs placed id) i.1 is in
    let held : IsHeld placed s old.trees = subst (IsHeld placed s) (sym same) h in (
      f.place,
      row_view f.credential,
      at,
      (i.2 clean).2.holds details
          (details_stay old (i.2 clean).0 _ details ((i.2 clean).1 placed held.holds.credentials at.there) (subst (HoldsDetails details) (sym same) d)),
    )
tells_forgotten placed id s first old new found Same false details is kept i same clean h d =
    subst (HoldsDetails details) (sym (kept i.0 ∙ same)) d

-- the row that no store takes is that of the credential of the id
pub refuses_retired : (old mid : View) (id : List ℕ) (found : Option Found) → mid.reals ≡ old.reals
    → ((placed : Placed) → Holds placed old.trees → IsFoundAs placed id found) → RefusesRetired mid found → RefusesChange old id retired
refuses_retired old mid id found reals is refused =
    let f = refused.0 in
    record {
      place = f.place;
      credential = row_view f.credential;
      found = λ placed h. subst (IsFoundAs placed id) refused.1 (is placed h);
      row = subst (λ (k : ℕ → ℕ). ¬ IsStorableRow (k 0) (credential_row f.place (retired (row_view f.credential)))) reals refused.2;
    }

-- what is retired or deleted was found
pub retired_some : (found : Option Found) (Same : Type 0) (old new : View) (was : Bool) → RetiresFound found Same old new was → was ≡ true → IsSome found
retired_some found Same old new true i is = subst IsSome (sym i.1) refl
retired_some found Same old new false i is = absurd cc

pub deleted_some : (found : Option Found) (Same : Type 0) (old new : View) (was : Bool) → DeletesFound found Same old new was → was ≡ true → IsSome found
deleted_some found Same old new true i is = subst IsSome (sym i.1) refl
deleted_some found Same old new false i is = absurd cc

-- the trees beside those of credentials stay, and with a deletion those beside that of details
pub beside_retired : (placed : Placed) (id : List ℕ) (found : Option Found) (Same : Type 0) (old new : View) (was : Bool) (n : ℕ) → IsFoundAs placed id found
    → (Same → new.trees ≡ old.trees) → RetiresFound found Same old new was → IsClean new → Holds placed old.trees → n ≢ 0 → n ≢ 3 → n ≢ 4
    → new.trees n ≡ old.trees n
beside_retired placed id found Same old new true n is kept i clean h x y z =
    let at : IsAt placed id i.0.place (row_view i.0.credential) = subst (IsFoundAs placed id) i.1 is in
    (i.3 clean placed h at.there).others n x y z
beside_retired placed id found Same old new false n is kept i clean h x y z = ap (λ (t : Trees). t n) (kept i.0)

pub beside_deleted : (placed : Placed) (id : List ℕ) (found : Option Found) (Same : Type 0) (old new : View) (was : Bool) (n : ℕ) → IsFoundAs placed id found
    → (Same → new.trees ≡ old.trees) → DeletesFound found Same old new was → IsClean new → Holds placed old.trees → n ≢ 0 → n ≢ 3 → n ≢ 4 → n ≢ 5
    → new.trees n ≡ old.trees n
beside_deleted placed id found Same old new true n is kept i clean h x y z w =
    let at : IsAt placed id i.0.place (row_view i.0.credential) = subst (IsFoundAs placed id) i.1 is in
    (i.2 clean).2.others n w ∙ ((i.2 clean).1 placed h at.there).others n x y z
beside_deleted placed id found Same old new false n is kept i clean h x y z w = ap (λ (t : Trees). t n) (kept i.0)

pub forgotten_stays : (placed : Placed) (id : List ℕ) (told : Bool) (details : Details) (a b : Trees) → b 5 ≡ a 5 → TellsForgotten placed id told details a
    → TellsForgotten placed id told details b
forgotten_stays placed id true details a b same i = (i.0, i.1, i.2, same ∙ i.3)
forgotten_stays placed id false details a b same i = same ∙ i
