-- What becomes of a user's credentials as they end one after another.
use Rattle.std.proofs.Common.{◌≡◌, ◌+◌, ◌-◌, ℕ, List, [], ◌∷◌, Bool, true, false, cond, map, filter, refl, sym, ap, ◌∙◌, subst, inl, inr, true≢false, arith, Ordering, Less, Equal, Greater}
use Rattle.std.proofs.lemmas.Grind.{common_steps}
use Rattle.std.proofs.lemmas.Option.{same_Some}
use Rattle.std.specs.Prelude.{◌≢◌, ◌⊎◌, Option, Some, None, option_map, is_some, if◌then◌else◌}
use Rattle.std.specs.Cmp.{nat_cmp_total}
use Rattle.std.specs.Cmp.Lexicographic.{bytes_decides}
use Rattle.std.specs.FinMap as finite
use Rattle.std.specs.FinMap.{find, get-entries, get-insert, get-remove, len-insert, len-remove}
use Rattle.std.specs.List.{AllByRecursion}
use Rattle.std.specs.Ordering.{nat_cmp, eq_by_cmp}
use Rattle.std.specs.Str.{bytes_eq}
use Rattle.verification.specs.Records.{Credential}
use Rattle.sqlite_trees.specs.Tree.{Trees}
use Rattle.sqlite_trees.specs.View.{View}
use Rattle.site_state.specs.Table.{retired}
use Rattle.site_rows.specs.Details.{Details, HoldsDetails}
use Rattle.site_rows.specs.Held.{ArePlaced, Holds, IsAt, Placed, rows_of}
use Rattle.site_rows.proofs.Tables.{entries_found}
use Rattle.site_stored.specs.Calls.{is_users}
use Rattle.site_stored.specs.Private.{AreUsers, DeletesOne, ErasesRows, RetiresOne, RetiresRows}

abbrev pub Among : Credential → List Credential → Type 0
Among c [] = ⊥
Among c (d ∷ ds) = (c ≡ d) ⊎ Among c ds

-- a credential stands somewhere, and is the user's
abbrev pub IsUsers : List ℕ → Placed → Credential → Type 0
IsUsers user placed c = (place : ℕ) × (finite.get placed place ≡ Some c) × (c.user ≡ user)

-- some of a user's credentials have been changed, and no other; those that are not done with are on a list of the user's
pub record IsChanging (To : Credential → Option Credential) (Done : Credential → Type 0) (user : List ℕ) (left : List Credential) (placed mid : Placed) : Type 0 where
  pub each : (q : ℕ) → (finite.get mid q ≡ finite.get placed q)
      ⊎ ((c : Credential) × (finite.get placed q ≡ Some c) × (c.user ≡ user) × (finite.get mid q ≡ To c))
  pub rest : (q : ℕ) (c : Credential) → finite.get mid q ≡ Some c → c.user ≡ user → Done c ⊎ Among c left
  pub listed : AllByRecursion (IsUsers user placed) left

-- one credential is so changed, and no other
abbrev pub IsChangedAt : (Credential → Option Credential) → ℕ → Credential → Placed → Placed → Type 0
IsChangedAt To place c mid after = (q : ℕ) → finite.get after q ≡ cond (eq_by_cmp nat_cmp q place) (To c) (finite.get mid q)

-- ---- the list

abbrev of_user : List ℕ → Credential → Bool
of_user user c = bytes_eq c.user user

each_listed : (user : List ℕ) (placed : Placed) (es : List (ℕ × Credential)) → AllByRecursion (λ e. finite.get placed e.0 ≡ Some e.1) es
    → AllByRecursion (IsUsers user placed) (filter (of_user user) (map (λ e. e.1) es))
each_listed user placed [] found = tt
each_listed user placed (e ∷ es) found = go (of_user user e.1) refl (each_listed user placed es found.1)
  where
    go : (b : Bool) → of_user user e.1 ≡ b → AllByRecursion (IsUsers user placed) (filter (of_user user) (map (λ x. x.1) es))
        → AllByRecursion (IsUsers user placed) (filter (of_user user) (map (λ x. x.1) (e ∷ es)))
    go true t more = rw t ((e.0, found.0, (bytes_decides e.1.user user).0 t), more)
    go false t more = rw t more

among_entries : (user : List ℕ) (q : ℕ) (c : Credential) (es : List (ℕ × Credential)) → c.user ≡ user → find nat_cmp q es ≡ Some c
    → Among c (filter (of_user user) (map (λ e. e.1) es))
among_entries user q c [] mine is = absurd cc
among_entries user q c (e ∷ es) mine is = go (nat_cmp q e.0) refl (of_user user e.1) refl (among_entries user q c es mine)
  where
    wider : (b : Bool) → of_user user e.1 ≡ b → Among c (filter (of_user user) (map (λ x. x.1) es))
        → Among c (filter (of_user user) (map (λ x. x.1) (e ∷ es)))
    wider true t among = rw t (inr among)
    wider false t among = rw t among

    here : c ≡ e.1 → Among c (filter (of_user user) (map (λ x. x.1) (e ∷ es)))
    here same =
        let t : of_user user e.1 ≡ true = (bytes_decides e.1.user user).1 (ap (λ (x : Credential). x.user) (sym same) ∙ mine) in
        rw t (inl same)

    go : (o : Ordering) → nat_cmp q e.0 ≡ o → (b : Bool) → of_user user e.1 ≡ b
        → (find nat_cmp q es ≡ Some c → Among c (filter (of_user user) (map (λ x. x.1) es))) → Among c (filter (of_user user) (map (λ x. x.1) (e ∷ es)))
    go Equal u b t more = here (same_Some c e.1 (sym is ∙ rw u refl))
    go Less u b t more = wider b t (more (sym (rw u refl) ∙ is))
    go Greater u b t more = wider b t (more (sym (rw u refl) ∙ is))

-- at first all of a user's credentials are on it
pub all_listed : (To : Credential → Option Credential) (Done : Credential → Type 0) (user : List ℕ) (listed : List Credential) (placed : Placed)
    → listed ≡ filter (λ c. bytes_eq c.user user) (rows_of placed) → IsChanging To Done user listed placed placed
all_listed To Done user listed placed is = record {
  each = λ q. inl refl;
  rest = λ q c there mine. inr (subst (Among c) (sym is) (among_entries user q c (finite.entries placed) mine (sym (get-entries placed q) ∙ there)));
  listed = subst (AllByRecursion (IsUsers user placed)) (sym is) (each_listed user placed (finite.entries placed) (entries_found placed));
}

-- ---- one credential

tied : (p q : ℕ) → eq_by_cmp nat_cmp p q ≡ true → p ≡ q
tied p q e = grind (arith, common_steps, e)

one_place : (p q : ℕ) → p ≡ q → eq_by_cmp nat_cmp p q ≡ true
one_place p q e = grind (arith, common_steps, e)

-- what is found under the id of the next one on the list is it, unchanged so far
found_next : (To : Credential → Option Credential) (Done : Credential → Type 0) (user : List ℕ) (r : Credential) (left : List Credential) (placed mid : Placed)
    (place : ℕ) (c : Credential) → ((x y : Credential) → To x ≡ Some y → Done y) → ArePlaced placed → IsChanging To Done user (r ∷ left) placed mid
    → IsAt mid r.id place c → (Done c → ⊥) → (finite.get placed place ≡ Some c) × (c ≡ r)
found_next To Done user r left placed mid place c done are is at fresh = go (is.each place)
  where
    go : (finite.get mid place ≡ finite.get placed place) ⊎ ((d : Credential) × (finite.get placed place ≡ Some d) × (d.user ≡ user) × (finite.get mid place ≡ To d))
        → (finite.get placed place ≡ Some c) × (c ≡ r)
    go (inl same) =
        let there : finite.get placed place ≡ Some c = sym same ∙ at.there in
        let one : place ≡ is.listed.0.0 = are.own place is.listed.0.0 c r there is.listed.0.1 at.has_id in
        (there, same_Some c r (sym there ∙ ap (finite.get placed) one ∙ is.listed.0.1))
    go (inr was) = absurd (fresh (done was.0 c (sym was.3 ∙ at.there)))

pub changed_one : (To : Credential → Option Credential) (Done : Credential → Type 0) (user : List ℕ) (r : Credential) (left : List Credential) (placed mid after : Placed)
    (place : ℕ) (c : Credential) → ((x y : Credential) → To x ≡ Some y → Done y) → ArePlaced placed → IsChanging To Done user (r ∷ left) placed mid
    → IsAt mid r.id place c → (Done c → ⊥) → IsChangedAt To place c mid after → IsChanging To Done user left placed after
changed_one To Done user r left placed mid after place c done are is at fresh changed = record {
  each = λ q. each_at q (eq_by_cmp nat_cmp q place) refl;
  rest = λ q d there mine. rest_at q d there mine (eq_by_cmp nat_cmp q place) refl;
  listed = is.listed.1;
}
  where
    was : (finite.get placed place ≡ Some c) × (c ≡ r)
    was = found_next To Done user r left placed mid place c done are is at fresh

    now_at : (q : ℕ) (b : Bool) → eq_by_cmp nat_cmp q place ≡ b → finite.get after q ≡ cond b (To c) (finite.get mid q)
    now_at q b t = changed q ∙ ap (λ x. cond x (To c) (finite.get mid q)) t

    each_at : (q : ℕ) (b : Bool) → eq_by_cmp nat_cmp q place ≡ b → (finite.get after q ≡ finite.get placed q)
        ⊎ ((d : Credential) × (finite.get placed q ≡ Some d) × (d.user ≡ user) × (finite.get after q ≡ To d))
    each_at q true t = inr (c, ap (finite.get placed) (tied q place t) ∙ was.0, ap (λ (x : Credential). x.user) was.1 ∙ is.listed.0.2, now_at q true t)
    each_at q false t = go (is.each q)
      where
        go : (finite.get mid q ≡ finite.get placed q) ⊎ ((d : Credential) × (finite.get placed q ≡ Some d) × (d.user ≡ user) × (finite.get mid q ≡ To d))
            → (finite.get after q ≡ finite.get placed q) ⊎ ((d : Credential) × (finite.get placed q ≡ Some d) × (d.user ≡ user) × (finite.get after q ≡ To d))
        go (inl same) = inl (now_at q false t ∙ same)
        go (inr x) = inr (x.0, x.1, x.2, now_at q false t ∙ x.3)

    -- one that stands elsewhere is not the one that was next
    elsewhere : (q : ℕ) (d : Credential) → eq_by_cmp nat_cmp q place ≡ false → finite.get mid q ≡ Some d → d ≡ r → Done d
    elsewhere q d t there next = go (is.each q)
      where
        go : (finite.get mid q ≡ finite.get placed q) ⊎ ((x : Credential) × (finite.get placed q ≡ Some x) × (x.user ≡ user) × (finite.get mid q ≡ To x)) → Done d
        go (inl same) =
            let one : q ≡ place = are.own q place d c (sym same ∙ there) was.0 (ap (λ (x : Credential). x.id) (next ∙ sym was.1)) in
            absurd (true≢false (sym (one_place q place one) ∙ t))
        go (inr x) = done x.0 d (sym x.3 ∙ there)

    rest_at : (q : ℕ) (d : Credential) → finite.get after q ≡ Some d → d.user ≡ user → (b : Bool) → eq_by_cmp nat_cmp q place ≡ b → Done d ⊎ Among d left
    rest_at q d there mine true t = inl (done c d (sym (now_at q true t) ∙ there))
    rest_at q d there mine false t = go (is.rest q d before mine)
      where
        before : finite.get mid q ≡ Some d
        before = sym (now_at q false t) ∙ there

        go : Done d ⊎ Among d (r ∷ left) → Done d ⊎ Among d left
        go (inl x) = inl x
        go (inr (inl next)) = inl (elsewhere q d t before next)
        go (inr (inr more)) = inr more

-- where nothing is changed, what has the id is done with
pub unchanged_one : (To : Credential → Option Credential) (Done : Credential → Type 0) (user : List ℕ) (r : Credential) (left : List Credential) (placed mid : Placed)
    → ((q : ℕ) (d : Credential) → finite.get mid q ≡ Some d → d.id ≡ r.id → Done d) → IsChanging To Done user (r ∷ left) placed mid
    → IsChanging To Done user left placed mid
unchanged_one To Done user r left placed mid none is = record {
  each = is.each;
  rest = λ q d there mine. go q d there (is.rest q d there mine);
  listed = is.listed.1;
}
  where
    go : (q : ℕ) (d : Credential) → finite.get mid q ≡ Some d → Done d ⊎ Among d (r ∷ left) → Done d ⊎ Among d left
    go q d there (inl x) = inl x
    go q d there (inr (inl next)) = inl (none q d there (ap (λ (x : Credential). x.id) next))
    go q d there (inr (inr more)) = inr more

-- ---- all of them

pub all_changed : (To : Credential → Option Credential) (Done : Credential → Type 0) (user : List ℕ) (placed after : Placed) → ((c : Credential) → Done c → Some c ≡ To c)
    → IsChanging To Done user [] placed after → (q : ℕ)
    → ((c : Credential) × (finite.get placed q ≡ Some c) × (is_users user (finite.get placed q) ≡ true) × (finite.get after q ≡ To c))
    ⊎ ((is_users user (finite.get placed q) ≡ false) × (finite.get after q ≡ finite.get placed q))
all_changed To Done user placed after fixed is q = go (finite.get placed q) refl (is.each q)
  where
    End : Type 0
    End = ((c : Credential) × (finite.get placed q ≡ Some c) × (is_users user (finite.get placed q) ≡ true) × (finite.get after q ≡ To c))
        ⊎ ((is_users user (finite.get placed q) ≡ false) × (finite.get after q ≡ finite.get placed q))

    mine : (c : Credential) → finite.get placed q ≡ Some c → c.user ≡ user → is_users user (finite.get placed q) ≡ true
    mine c there own = ap (is_users user) there ∙ (bytes_decides c.user user).1 own

    left : (c : Credential) → finite.get placed q ≡ Some c → c.user ≡ user → finite.get after q ≡ finite.get placed q → Done c ⊎ Among c [] → End
    left c there own same (inl done) = inl (c, there, mine c there own, same ∙ there ∙ fixed c done)
    left c there own same (inr among) = absurd among

    own_or : (c : Credential) → finite.get placed q ≡ Some c → finite.get after q ≡ finite.get placed q → (b : Bool) → bytes_eq c.user user ≡ b → End
    own_or c there same true t =
        let own : c.user ≡ user = (bytes_decides c.user user).0 t in
        left c there own same (is.rest q c (same ∙ there) own)
    own_or c there same false t = inr (ap (is_users user) there ∙ t, same)

    go : (o : Option Credential) → finite.get placed q ≡ o
        → (finite.get after q ≡ finite.get placed q) ⊎ ((c : Credential) × (finite.get placed q ≡ Some c) × (c.user ≡ user) × (finite.get after q ≡ To c)) → End
    go o there (inr x) = inl (x.0, x.1, mine x.0 x.1 x.2, x.3)
    go None there (inl same) = inr (ap (is_users user) there, same)
    go (Some c) there (inl same) = own_or c there same (bytes_eq c.user user) refl

-- ---- the rows of a user

-- a credential is taken out
gone_at : (place : ℕ) (c : Credential) (mid : Placed) → IsChangedAt (λ _. None) place c mid (finite.remove mid place)
gone_at place c mid q = get-remove nat_cmp_total mid place q

retired_at : (place : ℕ) (c : Credential) (mid : Placed) → IsChangedAt (λ x. Some (retired x)) place c mid (finite.insert mid place (retired c))
retired_at place c mid q = get-insert nat_cmp_total mid place (retired c) q

-- a credential and its detail are as before, or both are gone
abbrev pub IsForgottenAt : Placed → Placed → Details → Details → ℕ → Type 0
IsForgottenAt placed mid details now q =
    ((finite.get mid q ≡ finite.get placed q) × (finite.get now q ≡ finite.get details q))
    ⊎ ((c : Credential) × (finite.get placed q ≡ Some c) × (finite.get mid q ≡ None) × (finite.get now q ≡ None))

forgotten_next : (placed mid : Placed) (place : ℕ) (c : Credential) (details now : Details) → finite.get mid place ≡ Some c
    → ((q : ℕ) → IsForgottenAt placed mid details now q) → (q : ℕ) (b : Bool) → eq_by_cmp nat_cmp q place ≡ b
    → IsForgottenAt placed (finite.remove mid place) details (finite.remove now place) q
forgotten_next placed mid place c details now there was q true t =
    inr (
      c,
      ap (finite.get placed) (tied q place t) ∙ before (was place),
      get-remove nat_cmp_total mid place q ∙ ap (λ b. cond b None (finite.get mid q)) t,
      get-remove nat_cmp_total now place q ∙ ap (λ b. cond b None (finite.get now q)) t,
    )
  where
    before : IsForgottenAt placed mid details now place → finite.get placed place ≡ Some c
    before (inl x) = sym x.0 ∙ there
    before (inr x) = let no : None ≡ Some c = sym x.2 ∙ there in absurd cc
forgotten_next placed mid place c details now there was q false t = go (was q)
  where
    still : finite.get (finite.remove mid place) q ≡ finite.get mid q
    still = get-remove nat_cmp_total mid place q ∙ ap (λ b. cond b None (finite.get mid q)) t

    known : finite.get (finite.remove now place) q ≡ finite.get now q
    known = get-remove nat_cmp_total now place q ∙ ap (λ b. cond b None (finite.get now q)) t

    go : IsForgottenAt placed mid details now q → IsForgottenAt placed (finite.remove mid place) details (finite.remove now place) q
    go (inl x) = inl (still ∙ x.0, known ∙ x.1)
    go (inr x) = inr (x.0, x.1, still ∙ x.2, known ∙ x.3)

-- what the loop keeps that deletes the credentials on a list: those that are left are on the rest of it
pub record IsErasing (rows left : List Credential) (count counted : ℕ) (placed : Placed) (old new : View) : Type 0 where
  pub mid : Placed
  pub holds : Holds mid new.trees
  pub counts : finite.len placed ≡ count → finite.len mid ≡ counted
  pub changing : (user : List ℕ) → AreUsers user placed rows → IsChanging (λ _. None) (λ _. ⊥) user left placed mid
  pub details : (details : Details) → HoldsDetails details old.trees → (now : Details) × HoldsDetails now new.trees
      × ((q : ℕ) → IsForgottenAt placed mid details now q)
  pub others : (n : ℕ) → n ≢ 0 → n ≢ 3 → n ≢ 4 → n ≢ 5 → new.trees n ≡ old.trees n

pub erasing_first : (rows : List Credential) (count : ℕ) (placed : Placed) (old new : View) → new.trees ≡ old.trees → Holds placed old.trees
    → IsErasing rows rows count count placed old new
erasing_first rows count placed old new same h = record {
  mid = placed;
  holds = subst (Holds placed) (sym same) h;
  counts = λ e. e;
  changing = λ user are. all_listed (λ _. None) (λ _. ⊥) user rows placed are;
  details = λ details d. (details, subst (HoldsDetails details) (sym same) d, λ q. inl (refl, refl));
  others = λ n x y z w. ap (λ (t : Trees). t n) same;
}

pub erasing_next : (rows : List Credential) (r : Credential) (left : List Credential) (count counted fewer : ℕ) (placed : Placed) (old mid new : View)
    → (is : IsErasing rows (r ∷ left) count counted placed old mid) → ArePlaced placed → DeletesOne is.mid r.id counted fewer mid new
    → IsErasing rows left count fewer placed old new
erasing_next rows r left count counted fewer placed old mid new is are (inl (none, same_count, same)) = record {
  mid = is.mid;
  holds = subst (Holds is.mid) (sym same) is.holds;
  counts = λ e. is.counts e ∙ sym same_count;
  changing = λ user users. unchanged_one (λ _. None) (λ _. ⊥) user r left placed is.mid none (is.changing user users);
  details = λ details d. let x = is.details details d in (x.0, subst (HoldsDetails x.0) (sym same) x.1, x.2);
  others = λ n x y z w. ap (λ (t : Trees). t n) same ∙ is.others n x y z w;
}
erasing_next rows r left count counted fewer placed old mid new is are (inr (place, c, at, one_less, holds, details, others)) = record {
  mid = finite.remove is.mid place;
  holds = holds;
  counts = λ e. len-remove nat_cmp_total is.mid place ∙ ap (λ o. cond (is_some o) (finite.len is.mid - 1) (finite.len is.mid)) at.there
      ∙ ap (λ k. k - 1) (is.counts e) ∙ sym one_less;
  changing = λ user users. changed_one (λ _. None) (λ _. ⊥) user r left placed is.mid (finite.remove is.mid place) place c (λ x y no. absurd cc) are
      (is.changing user users) at (λ no. no) (gone_at place c is.mid);
  details = λ all d.
      let x = is.details all d in
      (finite.remove x.0 place, details x.0 x.1, λ q. forgotten_next placed is.mid place c all x.0 at.there x.2 q (eq_by_cmp nat_cmp q place) refl);
  others = λ n x y z w. others n x y z w ∙ is.others n x y z w;
}

pub erased : (rows : List Credential) (user : List ℕ) (count counted : ℕ) (placed : Placed) (old new : View) → AreUsers user placed rows
    → IsErasing rows [] count counted placed old new → ErasesRows user placed count counted old new
erased rows user count counted placed old new users is = record {
  after = is.mid;
  after_is = λ q. end q (all_changed (λ _. None) (λ _. ⊥) user placed is.mid (λ c no. absurd no) changing q);
  holds = is.holds;
  counted = is.counts;
  details = λ details d. let x = is.details details d in
      (x.0, x.1, λ q. end_detail details x.0 q (all_changed (λ _. None) (λ _. ⊥) user placed is.mid (λ c no. absurd no) changing q) (x.2 q));
  others = is.others;
}
  where
    changing : IsChanging (λ _. None) (λ _. ⊥) user [] placed is.mid
    changing = is.changing user users

    End : ℕ → Type 0
    End q = ((c : Credential) × (finite.get placed q ≡ Some c) × (is_users user (finite.get placed q) ≡ true) × (finite.get is.mid q ≡ None))
        ⊎ ((is_users user (finite.get placed q) ≡ false) × (finite.get is.mid q ≡ finite.get placed q))

    end : (q : ℕ) → End q → finite.get is.mid q ≡ (if is_users user (finite.get placed q) then None else finite.get placed q)
    end q (inl x) = x.3 ∙ sym (ap (λ b. if b then None else finite.get placed q) x.2)
    end q (inr x) = x.1 ∙ sym (ap (λ b. if b then None else finite.get placed q) x.0)

    end_detail : (details now : Details) (q : ℕ) → End q → IsForgottenAt placed is.mid details now q
        → finite.get now q ≡ (if is_users user (finite.get placed q) then None else finite.get details q)
    end_detail details now q (inl x) (inl y) = let no : Some x.0 ≡ None = sym x.1 ∙ sym y.0 ∙ x.3 in absurd cc
    end_detail details now q (inl x) (inr y) = y.3 ∙ sym (ap (λ b. if b then None else finite.get details q) x.2)
    end_detail details now q (inr x) (inl y) = y.1 ∙ sym (ap (λ b. if b then None else finite.get details q) x.0)
    end_detail details now q (inr x) (inr y) = let no : None ≡ Some y.0 = sym y.2 ∙ x.1 ∙ y.1 in absurd cc

-- ---- the same, retired

pub record IsRetiring (rows left : List Credential) (placed : Placed) (old new : View) : Type 0 where
  pub mid : Placed
  pub holds : Holds mid new.trees
  pub counts : finite.len mid ≡ finite.len placed
  pub changing : (user : List ℕ) → AreUsers user placed rows → IsChanging (λ x. Some (retired x)) (λ x. x.retired ≡ true) user left placed mid
  pub others : (n : ℕ) → n ≢ 0 → n ≢ 3 → n ≢ 4 → new.trees n ≡ old.trees n

pub retiring_first : (rows : List Credential) (placed : Placed) (old new : View) → new.trees ≡ old.trees → Holds placed old.trees
    → IsRetiring rows rows placed old new
retiring_first rows placed old new same h = record {
  mid = placed;
  holds = subst (Holds placed) (sym same) h;
  counts = refl;
  changing = λ user are. all_listed (λ x. Some (retired x)) (λ x. x.retired ≡ true) user rows placed are;
  others = λ n x y z. ap (λ (t : Trees). t n) same;
}

done_so : (x y : Credential) → Some (retired x) ≡ Some y → y.retired ≡ true
done_so x y is = ap (λ (c : Credential). c.retired) (sym (same_Some (retired x) y is))

not_both : (c : Credential) → c.retired ≡ false → c.retired ≡ true → ⊥
not_both c fresh done = true≢false (sym done ∙ fresh)

pub retiring_next : (rows : List Credential) (r : Credential) (left : List Credential) (placed : Placed) (old mid new : View)
    → (is : IsRetiring rows (r ∷ left) placed old mid) → ArePlaced placed → RetiresOne is.mid r.id mid new → IsRetiring rows left placed old new
retiring_next rows r left placed old mid new is are (inl (was, same)) = record {
  mid = is.mid;
  holds = subst (Holds is.mid) (sym same) is.holds;
  counts = is.counts;
  changing = λ user users. unchanged_one (λ x. Some (retired x)) (λ x. x.retired ≡ true) user r left placed is.mid
      (λ q d there id. was q d (record { there = there; has_id = id })) (is.changing user users);
  others = λ n x y z. ap (λ (t : Trees). t n) same ∙ is.others n x y z;
}
retiring_next rows r left placed old mid new is are (inr (place, c, at, not_yet, holds, others)) = record {
  mid = finite.insert is.mid place (retired c);
  holds = holds;
  counts = len-insert nat_cmp_total is.mid place (retired c)
      ∙ ap (λ o. cond (is_some o) (finite.len is.mid) (finite.len is.mid + 1)) at.there ∙ is.counts;
  changing = λ user users. changed_one (λ x. Some (retired x)) (λ x. x.retired ≡ true) user r left placed is.mid (finite.insert is.mid place (retired c)) place c
      done_so are (is.changing user users) at (not_both c not_yet) (retired_at place c is.mid);
  others = λ n x y z. others n x y z ∙ is.others n x y z;
}

pub all_retired : (rows : List Credential) (user : List ℕ) (placed : Placed) (old new : View) → AreUsers user placed rows
    → IsRetiring rows [] placed old new → RetiresRows user placed old new
all_retired rows user placed old new users is = record {
  after = is.mid;
  after_is = λ q. end q (all_changed (λ x. Some (retired x)) (λ x. x.retired ≡ true) user placed is.mid fixed (is.changing user users) q);
  holds = is.holds;
  counted = is.counts;
  others = is.others;
}
  where
    fixed : (c : Credential) → c.retired ≡ true → Some c ≡ Some (retired c)
    fixed c was = ap (λ b. Some (record c { retired = b })) was

    end : (q : ℕ) → ((c : Credential) × (finite.get placed q ≡ Some c) × (is_users user (finite.get placed q) ≡ true) × (finite.get is.mid q ≡ Some (retired c)))
        ⊎ ((is_users user (finite.get placed q) ≡ false) × (finite.get is.mid q ≡ finite.get placed q))
        → finite.get is.mid q ≡ (if is_users user (finite.get placed q) then option_map retired (finite.get placed q) else finite.get placed q)
    end q (inl x) = x.3 ∙ ap (option_map retired) (sym x.1) ∙ sym (ap (λ b. if b then option_map retired (finite.get placed q) else finite.get placed q) x.2)
    end q (inr x) = x.1 ∙ sym (ap (λ b. if b then option_map retired (finite.get placed q) else finite.get placed q) x.0)
