-- What is deleted or retired of what was found, and of a user.
use Rattle.std.proofs.Common.{◌≡◌, ◌≤◌, ◌<◌, ◌+◌, ◌-◌, ℕ, suc, drop, drop-cons, get_or, List, [], ◌∷◌, length, filter, not, Bool, true, false, refl, sym, ap, ◌∙◌, subst, arith, inl, inr}
use Rattle.std.proofs.lemmas.Grind.{common_steps}
use Rattle.std.proofs.lemmas.Option.{same_Some}
use Rattle.std.specs.Prelude.{◌⊎◌, Option, Some, None, option_map, if◌then◌else◌}
use Rattle.std.specs.Option.{ForSome}
use Rattle.std.specs.FinMap as finite
use Rattle.sqlite_trees.specs.Tree.{Trees}
use Rattle.sqlite_trees.specs.View.{IsClean, IsStorableRow, View}
use Rattle.verification.specs.Records.{Credential, RelyingParty}
use Rattle.site_state.specs.Table.{retired}
use Rattle.site_state.specs.RowViews.{row_view, rows_view}
use Rattle.site_state.specs.declared.row.Row.{Row as StoredRow}
use Rattle.sqlite_trees.proofs.ListLemmas.{filter-map}
use Rattle.std.proofs.Math.ListN.{drop_of_length-le}
use Rattle.std.proofs.lemmas.List.{length-map}
use Rattle.site_rows.specs.Details.{Details, HoldsDetails, IsDetailed}
use Rattle.site_rows.specs.Held.{ArePlaced, Holds, Indexes, IsAt, IsWritten, Placed}
use Rattle.site_rows.specs.Rows.{credential_row}
use Rattle.site_rows.specs.declared.finding.Found.{Found}
use Rattle.site_stored.specs.Calls.{TellsAllForgotten, is_users}
use Rattle.site_stored.specs.Causes.{RefusesAllRetired, RefusesChange}
use Rattle.site_stored.specs.Private.{AreUsers, DeletesFound, DeletesOne, IsFoundAs, RetiresFound, RetiresOne, credential_of}
use Rattle.site_stored.specs.State.{IsHeld, StoredState, site_row}
use Rattle.site_stored.proofs.Erasing.{IsChanging, IsRetiring}
use Rattle.site_stored.proofs.Held.{details_stay}

-- the next one on a list, and the end of it
pub next_row : (rows : List StoredRow) (i : ℕ) (r : StoredRow) → i < length rows → r ≡ get_or rows i r
    → rows_view (drop i rows) ≡ row_view r ∷ rows_view (drop (i + 1) rows)
next_row rows i r below is =
    let one : suc i ≡ i + 1 = omega arith in
    ap rows_view (drop-cons rows i r below) ∙ ap (λ (x : StoredRow). row_view x ∷ rows_view (drop (suc i) rows)) (sym is)
    ∙ ap (λ (n : ℕ). row_view r ∷ rows_view (drop n rows)) one

pub no_more_rows : (rows : List StoredRow) (i : ℕ) → length rows ≤ i → rows_view (drop i rows) ≡ []
no_more_rows rows i over = ap rows_view (drop_of_length-le rows over)

-- no tree of credentials is written
pub holds_apart : (placed : Placed) (old new : Trees) → new 0 ≡ old 0 → new 3 ≡ old 3 → new 4 ≡ old 4 → Holds placed old → Holds placed new
holds_apart placed old new table ids users h = record {
  table = table ∙ h.table;
  by_id = subst (Indexes (λ c. c.id) placed) (sym ids) h.by_id;
  by_user = subst (Indexes (λ c. c.user) placed) (sym users) h.by_user;
  are = h.are;
}

pub deletes_one : (placed : Placed) (id : List ℕ) (count left : ℕ) (found : Option Found) (Same : Type 0) (was : Bool) (old mid new : View) → IsFoundAs placed id found
    → mid.trees ≡ old.trees → (Same → new.trees ≡ mid.trees) → DeletesFound found Same mid new was → left ≡ (if was then count - 1 else count) → IsClean new
    → Holds placed old.trees → DeletesOne placed id count left old new
deletes_one placed id count left found Same true old mid new is same kept i counted clean h =
    let at : IsAt placed id i.0.place (row_view i.0.credential) = subst (IsFoundAs placed id) i.1 is in
    let w : IsWritten mid (i.2 clean).0 (finite.remove placed i.0.place) = (i.2 clean).1 placed (subst (Holds placed) (sym same) h) at.there in
    let d : IsDetailed (i.2 clean).0 new (λ details. finite.remove details i.0.place) = (i.2 clean).2 in
    inr (
      i.0.place,
      row_view i.0.credential,
      at,
      counted,
      holds_apart (finite.remove placed i.0.place) (i.2 clean).0.trees new.trees (d.others 0 (λ e. grind (arith, common_steps, e)))
          (d.others 3 (λ e. grind (arith, common_steps, e))) (d.others 4 (λ e. grind (arith, common_steps, e))) w.holds,
      λ details k. d.holds details (details_stay mid (i.2 clean).0 _ details w (subst (HoldsDetails details) (sym same) k)),
      λ n x y z v. d.others n v ∙ w.others n x y z ∙ ap (λ (t : Trees). t n) same,
    )
deletes_one placed id count left found Same false old mid new is same kept i counted clean h =
    inl (subst (IsFoundAs placed id) i.1 is, counted, kept i.0 ∙ same)

was_retired : (placed : Placed) (id : List ℕ) (found : Option Found) → ArePlaced placed → IsFoundAs placed id found → ForSome (credential_of found) (λ c. c.retired ≡ true)
    → (place : ℕ) (c : Credential) → IsAt placed id place c → c.retired ≡ true
was_retired placed id None are is was place c at = absurd (is place c at.there at.has_id)
was_retired placed id (Some f) are is was place c at =
    let one : place ≡ f.place = are.own place f.place c (row_view f.credential) at.there is.there (at.has_id ∙ sym is.has_id) in
    let same : row_view f.credential ≡ c = same_Some (row_view f.credential) c (sym is.there ∙ ap (finite.get placed) (sym one) ∙ at.there) in
    subst (λ (x : Credential). x.retired ≡ true) same (was (row_view f.credential) refl)

pub retires_one : (placed : Placed) (id : List ℕ) (found : Option Found) (Same : Type 0) (was : Bool) (old mid new : View) → IsFoundAs placed id found
    → mid.trees ≡ old.trees → (Same → new.trees ≡ mid.trees) → RetiresFound found Same mid new was → IsClean new → Holds placed old.trees
    → RetiresOne placed id old new
retires_one placed id found Same true old mid new is same kept i clean h =
    let at : IsAt placed id i.0.place (row_view i.0.credential) = subst (IsFoundAs placed id) i.1 is in
    let w : IsWritten mid new (finite.insert placed i.0.place (retired (row_view i.0.credential))) = i.3 clean placed (subst (Holds placed) (sym same) h) at.there in
    inr (
      i.0.place,
      row_view i.0.credential,
      at,
      i.2,
      w.holds,
      λ n x y z. w.others n x y z ∙ ap (λ (t : Trees). t n) same,
    )
retires_one placed id found Same false old mid new is same kept i clean h =
    inl (was_retired placed id found h.are is i.1, kept i.0 ∙ same)

-- the row that no store takes is that of one of the user's credentials
pub refuses_all_retired : (user : List ℕ) (rows left : List Credential) (r : Credential) (old mid : View) → mid.reals ≡ old.reals
    → ((placed : Placed) → Holds placed old.trees → IsRetiring rows (r ∷ left) placed old mid)
    → ((placed : Placed) → Holds placed old.trees → AreUsers user placed rows) → RefusesChange mid r.id retired → RefusesAllRetired old user
refuses_all_retired user rows left r old mid reals retiring users refused placed h =
    let is = retiring placed h in
    let at : IsAt is.mid r.id refused.place refused.credential = refused.found is.mid is.holds in
    go is.mid (is.changing user (users placed h)) at ((is.changing user (users placed h)).each refused.place)
  where
    Out : Type 0
    Out = (place : ℕ) × (c : Credential) × (finite.get placed place ≡ Some c) × (c.user ≡ user)
        × (¬ IsStorableRow (old.reals 0) (credential_row place (retired c)))

    row : ¬ IsStorableRow (old.reals 0) (credential_row refused.place (retired refused.credential))
    row = subst (λ (k : ℕ → ℕ). ¬ IsStorableRow (k 0) (credential_row refused.place (retired refused.credential))) reals refused.row

    go : (between : Placed) → IsChanging (λ x. Some (retired x)) (λ x. x.retired ≡ true) user (r ∷ left) placed between → IsAt between r.id refused.place refused.credential
        → (finite.get between refused.place ≡ finite.get placed refused.place)
        ⊎ ((c : Credential) × (finite.get placed refused.place ≡ Some c) × (c.user ≡ user) × (finite.get between refused.place ≡ Some (retired c))) → Out
    go between is at (inl same) =
        let there : finite.get placed refused.place ≡ Some refused.credential = sym same ∙ at.there in
        let one : refused.place ≡ is.listed.0.0 = h.are.own refused.place is.listed.0.0 refused.credential r there is.listed.0.1 at.has_id in
        let next : refused.credential ≡ r = same_Some refused.credential r (sym there ∙ ap (finite.get placed) one ∙ is.listed.0.1) in
        (refused.place, refused.credential, there, ap (λ (x : Credential). x.user) next ∙ is.listed.0.2, row)
    go between is at (inr x) =
        let once : retired x.0 ≡ refused.credential = same_Some (retired x.0) refused.credential (sym x.3 ∙ at.there) in
        (refused.place, x.0, x.1, x.2, subst (λ (c : Credential). ¬ IsStorableRow (old.reals 0) (credential_row refused.place (retired c))) (sym once) row)

-- other credentials stand where they stood, and the row of the relying party is as before
pub held_after : {S : Type 0} (placed after : Placed) (s t : StoredState S) (old new : View) → IsHeld placed s old.trees → Holds after new.trees
    → new.trees 2 ≡ old.trees 2 → finite.len after ≡ t.count
    → ((place : ℕ) (c : Credential) → finite.get after place ≡ Some c → (d : Credential) × (finite.get placed place ≡ Some d))
    → t.rp ≡ s.rp → t.reserved ≡ s.reserved → t.last ≡ s.last → IsHeld after t new.trees
held_after placed after s t old new h holds site count among rp reserved last = record {
  holds = record {
    credentials = holds;
    site = site ∙ h.holds.site ∙ ap (λ (k : RelyingParty). site_row k.rp_id s.reserved ∷ []) (sym rp) ∙ ap (λ (k : ℕ). site_row t.rp.rp_id k ∷ []) (sym reserved);
  };
  count = count;
  last = λ place c there. subst (λ k. place ≤ k) (sym last) (let x = among place c there in h.last place x.0 x.1);
}

-- each that is there then was there
pub erased_among : (user : List ℕ) (placed after : Placed)
    → ((q : ℕ) → finite.get after q ≡ (if is_users user (finite.get placed q) then None else finite.get placed q))
    → (q : ℕ) (c : Credential) → finite.get after q ≡ Some c → (d : Credential) × (finite.get placed q ≡ Some d)
erased_among user placed after is q c there = go (is_users user (finite.get placed q)) refl
  where
    go : (b : Bool) → is_users user (finite.get placed q) ≡ b → (d : Credential) × (finite.get placed q ≡ Some d)
    go true t = let no : None ≡ Some c = sym (is q ∙ ap (λ b. if b then None else finite.get placed q) t) ∙ there in absurd cc
    go false t = (c, sym (is q ∙ ap (λ b. if b then None else finite.get placed q) t) ∙ there)

pub retired_among : (user : List ℕ) (placed after : Placed)
    → ((q : ℕ) → finite.get after q ≡ (if is_users user (finite.get placed q) then option_map retired (finite.get placed q) else finite.get placed q))
    → (q : ℕ) (c : Credential) → finite.get after q ≡ Some c → (d : Credential) × (finite.get placed q ≡ Some d)
retired_among user placed after is q c there = go (finite.get placed q) refl
  where
    of : Option Credential → Option Credential
    of o = if is_users user o then option_map retired o else o

    go : (o : Option Credential) → finite.get placed q ≡ o → (d : Credential) × (finite.get placed q ≡ Some d)
    go (Some d) t = (d, t)
    go None t = let no : None ≡ Some c = sym (is q ∙ ap of t) ∙ there in absurd cc

-- with these credentials their details are gone, also after another table is written
pub forgotten_apart : (placed : Placed) (user : List ℕ) (details : Details) (a b : Trees) → b 5 ≡ a 5 → TellsAllForgotten placed user details a
    → TellsAllForgotten placed user details b
forgotten_apart placed user details a b same x = (x.0, same ∙ x.1, x.2)

-- how many were not retired
pub unretired_seen : (rows : List StoredRow) (listed : List Credential) → rows_view rows ≡ listed
    → length (filter (λ (r : StoredRow). not r.retired) rows) ≡ length (filter (λ (c : Credential). not c.retired) listed)
unretired_seen rows listed is =
    sym (length-map (filter (λ (r : StoredRow). not r.retired) rows) row_view) ∙ ap length (sym (filter-map (λ (c : Credential). not c.retired) row_view rows))
    ∙ ap (λ (l : List Credential). length (filter (λ (c : Credential). not c.retired) l)) is

-- no store takes such a row, as before a call that reads
pub refuses_read : (old mid : View) (user : List ℕ) → mid.reals ≡ old.reals → mid.trees ≡ old.trees → RefusesAllRetired mid user → RefusesAllRetired old user
refuses_read old mid user reals trees refused placed h =
    let x = refused placed (subst (Holds placed) (sym trees) h) in
    (x.0, x.1, x.2, x.3, subst (λ (k : ℕ → ℕ). ¬ IsStorableRow (k 0) (credential_row x.0 (retired x.1))) reals x.4)
