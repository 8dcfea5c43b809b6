-- All credentials of a user end, one after another.
use Rattle.std.proofs.Common.{◌≡◌, ◌≤◌, ◌+◌, inl, inr, ℕ, Bool, true, false, cond, List, [], ◌∷◌, map, filter, not, refl, sym, ap, ◌∙◌, subst, arith, T}
use Rattle.std.proofs.lemmas.Grind.{common_steps}
use Rattle.std.proofs.lemmas.Option.{same_Some}
use Rattle.std.specs.Prelude.{◌&&◌, ◌||◌, None, Option, Some, if◌then◌else◌, is_some, option_map}
use Rattle.std.specs.Cmp.{nat_cmp_total}
use Rattle.std.specs.FinMap.{entries_sorted, get-entries, gets, is_sorted, nat_cmp-IsAntisymmetric, same_map}
use Rattle.std.specs.FinMap.Entries.{below_all, find-where_key, is_some-find, is_sorted-where_key}
use Rattle.std.specs.FinMap as finite
use Rattle.std.specs.List.{AllByRecursion, list_any}
use Rattle.std.specs.Ordering.{eq_by_cmp, nat_cmp}
use Rattle.std.specs.Str.{bytes_eq}
use Rattle.cose.specs.Schemes.{Validity}
use Rattle.verification.specs.Records.{Credential}
use Rattle.site_state.specs.Table.{retired, with_row}
use Rattle.site_rows.specs.Held.{ArePlaced, Placed, rows_of}
use Rattle.site_rows.specs.Rows.{IsStored}
use Rattle.site_rows.proofs.Listed.{changed_rows}
use Rattle.site_rows.proofs.Tables.{all_above, entries_found, first_of, second_of}
use Rattle.site.specs.State as site
use Rattle.site.specs.Laws.{after_retire}
use Rattle.site_stored.specs.Calls.{TellsAllRetired, TellsErased, is_users}
use Rattle.authenticator.specs.Steps.{Keys}
use Rattle.agreement.specs.World.{after_delete}
use Rattle.agreement.specs.World as world
use Rattle.stored_runs.specs.History.{ids_of, of_user}
use Rattle.stored_runs.proofs.Pieces.{Leads, after, by_the_same, happens, here}
use Rattle.stored_runs.proofs.Rows.{removed_rows}
use Rattle.stored_runs.proofs.Standing.{same_number}

abbrev Entry : Type 0
Entry = ℕ × Credential

abbrev AreIn : Placed → List Entry → Type 0
AreIn m es = AllByRecursion (λ e. finite.get m e.0 ≡ Some e.1) es

-- ---- the entries of these credentials

-- whether such a credential stands there
abbrev at_place : (Credential → Bool) → Option Credential → Bool
at_place mine None = false
at_place mine (Some c) = mine c

module _ (mine : Credential → Bool) (m : Placed) where
  abbrev keep : ℕ → Bool
  keep q = at_place mine (finite.get m q)

  abbrev pub chosen : List Entry
  chosen = filter (λ e. keep e.0) (finite.entries m)

  rising : T (is_sorted nat_cmp chosen)
  rising = is_sorted-where_key nat_cmp keep (finite.entries m) (entries_sorted m)

  -- just the places of such credentials
  placed_there : (q : ℕ) → list_any (eq_by_cmp nat_cmp q) (map (λ e. e.0) chosen) ≡ keep q
  placed_there q =
      sym (is_some-find nat_cmp q chosen)
      ∙ ap is_some (find-where_key nat_cmp keep q (λ x t. ap keep (sym (nat_cmp-IsAntisymmetric q x t))) (finite.entries m)
      ∙ ap (λ o. cond (keep q) o None) (sym (get-entries m q)))
      ∙ by_place (finite.get m q)
    where
      by_place : (o : Option Credential) → is_some (cond (at_place mine o) o None) ≡ at_place mine o
      by_place None = refl
      by_place (Some c) = go (mine c) refl
        where
          go : (b : Bool) → mine c ≡ b → is_some (cond (mine c) (Some c) None) ≡ mine c
          go true t = rw t refl
          go false t = rw t refl

  found_in : (es : List Entry) → AreIn m es → AreIn m (filter (λ e. keep e.0) es)
  found_in [] are = tt
  found_in (e ∷ es) are = go (keep e.0) refl (found_in es are.1)
    where
      go : (b : Bool) → keep e.0 ≡ b → AreIn m (filter (λ e. keep e.0) es) → AreIn m (cond (keep e.0) (e ∷ filter (λ e. keep e.0) es) (filter (λ e. keep e.0) es))
      go true t more = rw t (are.0, more)
      go false t more = rw t more

  ids_in : (es : List Entry) → AreIn m es → map (λ e. e.1.id) (filter (λ e. keep e.0) es) ≡ ids_of (filter mine (map (λ e. e.1) es))
  ids_in [] are = refl
  ids_in (e ∷ es) are = go (mine e.1) refl (ap (at_place mine) are.0) (ids_in es are.1)
    where
      go : (b : Bool) → mine e.1 ≡ b → keep e.0 ≡ mine e.1 → map (λ e. e.1.id) (filter (λ e. keep e.0) es) ≡ ids_of (filter mine (map (λ e. e.1) es))
          → map (λ e. e.1.id) (cond (keep e.0) (e ∷ filter (λ e. keep e.0) es) (filter (λ e. keep e.0) es)) ≡ ids_of (cond (mine e.1) (e.1 ∷ filter mine (map (λ e. e.1) es)) (filter mine (map (λ e. e.1) es)))
      go true t same more = rw (same ∙ t, t) (ap (λ ids. e.1.id ∷ ids) more)
      go false t same more = rw (same ∙ t, t) more

  their_ids : map (λ e. e.1.id) chosen ≡ ids_of (filter mine (rows_of m))
  their_ids = ids_in (finite.entries m) (entries_found m)

-- ---- one after another

-- others stand where they stood
apart_from : (m n : Placed) (place : ℕ) (es : List Entry) → ((q : ℕ) → place + 1 ≤ q → finite.get n q ≡ finite.get m q) → AllByRecursion (λ x. place + 1 ≤ x.0) es
    → AreIn m es → AreIn n es
apart_from m n place [] same above are = tt
apart_from m n place (e ∷ es) same above are = (same e.0 above.0 ∙ are.0, apart_from m n place es same above.1 are.1)

deleted_at : List Entry → Placed → Placed
deleted_at [] m = m
deleted_at (e ∷ es) m = deleted_at es (finite.remove m e.0)

retired_at : List Entry → Placed → Placed
retired_at [] m = m
retired_at (e ∷ es) m = retired_at es (finite.insert m e.0 (retired e.1))

deleted_there : (es : List Entry) (m : Placed) (q : ℕ)
    → finite.get (deleted_at es m) q ≡ (if list_any (eq_by_cmp nat_cmp q) (map (λ e. e.0) es) then None else finite.get m q)
unfolding deleted_at
deleted_there [] m q = refl
deleted_there (e ∷ es) m q = deleted_there es (finite.remove m e.0) q ∙ go (eq_by_cmp nat_cmp q e.0) refl (list_any (eq_by_cmp nat_cmp q) (map (λ e. e.0) es)) refl
  where
    go : (a : Bool) → eq_by_cmp nat_cmp q e.0 ≡ a → (b : Bool) → list_any (eq_by_cmp nat_cmp q) (map (λ e. e.0) es) ≡ b
        → (if list_any (eq_by_cmp nat_cmp q) (map (λ e. e.0) es) then None else finite.get (finite.remove m e.0) q)
        ≡ (if list_any (eq_by_cmp nat_cmp q) (map (λ e. e.0) (e ∷ es)) then None else finite.get m q)
    go a t b u = grind (arith, gets, common_steps, t, u)

put_apart : (m : Placed) (place : ℕ) (c : Credential) (q : ℕ) → place + 1 ≤ q → finite.get (finite.insert m place c) q ≡ finite.get m q
put_apart m place c q above = grind (arith, gets, common_steps, above)

out_apart : (m : Placed) (place q : ℕ) → place + 1 ≤ q → finite.get (finite.remove m place) q ≡ finite.get m q
out_apart m place q above = grind (arith, gets, common_steps, above)

-- one that is retired twice is retired
picked : (c : Credential) (a b : Bool) (was now : Option Credential) → (a ≡ true → was ≡ Some c) × (a ≡ true → now ≡ Some (retired c)) → (a ≡ false → now ≡ was)
    → (if b then option_map retired now else now) ≡ (if a || b then option_map retired was else was)
picked c true true was now same other = ap (option_map retired) (same.1 refl) ∙ ap (option_map retired) (sym (same.0 refl))
picked c true false was now same other = same.1 refl ∙ ap (option_map retired) (sym (same.0 refl))
picked c false true was now same other = ap (option_map retired) (other refl)
picked c false false was now same other = other refl

retired_there : (es : List Entry) (m : Placed) (q : ℕ) → AreIn m es → T (is_sorted nat_cmp es)
    → finite.get (retired_at es m) q ≡ (if list_any (eq_by_cmp nat_cmp q) (map (λ e. e.0) es) then option_map retired (finite.get m q) else finite.get m q)
unfolding retired_at
retired_there [] m q are sorted = refl
retired_there (e ∷ es) m q are sorted =
    retired_there es (finite.insert m e.0 (retired e.1)) q
    (apart_from m (finite.insert m e.0 (retired e.1)) e.0 es (λ k above. put_apart m e.0 (retired e.1) k above)
    (all_above e.0 es (first_of (below_all nat_cmp e.0 es) (is_sorted nat_cmp es) sorted)) are.1)
    (second_of (below_all nat_cmp e.0 es) (is_sorted nat_cmp es) sorted)
    ∙ picked e.1 (eq_by_cmp nat_cmp q e.0) (list_any (eq_by_cmp nat_cmp q) (map (λ e. e.0) es)) (finite.get m q) (finite.get (finite.insert m e.0 (retired e.1)) q)
    (λ t. here_before q t, λ t. here_now q t) (λ t. there q t)
  where
    here_before : (k : ℕ) → eq_by_cmp nat_cmp k e.0 ≡ true → finite.get m k ≡ Some e.1
    here_before k t = let place : k ≡ e.0 = grind (arith, common_steps, t) in ap (finite.get m) place ∙ are.0

    here_now : (k : ℕ) → eq_by_cmp nat_cmp k e.0 ≡ true → finite.get (finite.insert m e.0 (retired e.1)) k ≡ Some (retired e.1)
    here_now k t = grind (arith, gets, common_steps, t)

    there : (k : ℕ) → eq_by_cmp nat_cmp k e.0 ≡ false → finite.get (finite.insert m e.0 (retired e.1)) k ≡ finite.get m k
    there k t = grind (arith, gets, common_steps, t)

-- ---- no two have one id

left_there : (m : Placed) (place q : ℕ) (c : Credential) → finite.get (finite.remove m place) q ≡ Some c → finite.get m q ≡ Some c
left_there m place q c there = grind (arith, gets, common_steps, there)

fewer_placed : (m : Placed) (place : ℕ) → ArePlaced m → ArePlaced (finite.remove m place)
fewer_placed m place are = record {
  own = λ p q c d f g same. are.own p q c d (left_there m place p c f) (left_there m place q d g) same;
  stored = λ p c f. are.stored p c (left_there m place p c f);
}

module _ (m : Placed) (place : ℕ) (c : Credential) (at : finite.get m place ≡ Some c) (are : ArePlaced m) where
  before : (q : ℕ) (d : Credential) → finite.get (finite.insert m place (retired c)) q ≡ Some d
      → (was : Credential) × (finite.get m q ≡ Some was) × (was.id ≡ d.id) × (IsStored was → IsStored d)
  before q d there = elim (same_number q place) [
    | inl same ↦
        let it : retired c ≡ d = same_Some (retired c) d (sym (at_it q same) ∙ there) in
        (c, ap (finite.get m) same ∙ at, ap (λ (x : Credential). x.id) it, λ s. subst IsStored it (record { key = s.key; sign_count = s.sign_count }))
    | inr apart ↦ (d, sym (apart_it q apart) ∙ there, refl, λ s. s)
  ] where
    at_it : (k : ℕ) → k ≡ place → finite.get (finite.insert m place (retired c)) k ≡ Some (retired c)
    at_it k same = grind (arith, gets, common_steps, same)

    apart_it : (k : ℕ) → (k ≡ place → ⊥) → finite.get (finite.insert m place (retired c)) k ≡ finite.get m k
    apart_it k apart = grind (arith, gets, common_steps, apart)

  still_placed : ArePlaced (finite.insert m place (retired c))
  still_placed = record {
    own = λ p q d e f g same. let x = before p d f in let y = before q e g in are.own p q x.0 y.0 x.1 y.1 (x.2 ∙ same ∙ sym y.2);
    stored = λ p d f. let x = before p d f in let s = are.stored p x.0 x.1 in (x.3 s.0, s.1);
  }

-- ---- as events

same_acts : (E : List ℕ → world.SiteEvent) (es : List Entry) → map (λ e. E e.1.id) es ≡ map E (map (λ e. e.1.id) es)
same_acts E [] = refl
same_acts E (e ∷ es) = ap (λ xs. E e.1.id ∷ xs) (same_acts E es)

module _ (valid : Validity) (public : Keys) (i : ℕ) where
  deletes_each : (es : List Entry) (m : Placed) (t : site.SiteState) → ArePlaced m → AreIn m es → T (is_sorted nat_cmp es) → t.rows ≡ rows_of m
      → Leads valid public i t (map (λ e. world.Deletes e.1.id) es) (λ u. u ≡ record t { rows = rows_of (deleted_at es m) })
  unfolding deleted_at
  deletes_each [] m t placed are sorted rows = here valid public i t _ (λ k. record t { rows = rows k })
  deletes_each (e ∷ es) m t placed are sorted rows =
      after valid public i t (world.Deletes e.1.id ∷ []) (map (λ e. world.Deletes e.1.id) es) (λ u. u ≡ after_delete t e.1.id) _
      (after_delete t e.1.id, refl, λ w at. happens valid public w i t (world.Deletes e.1.id) (after_delete t e.1.id) at refl)
      (λ u is. subst (λ (x : site.SiteState). Leads valid public i x (map (λ e. world.Deletes e.1.id) es) (λ y. y ≡ record t { rows = rows_of (deleted_at es (finite.remove m e.0)) }))
      (sym is)
      (deletes_each es (finite.remove m e.0) (after_delete t e.1.id) (fewer_placed m e.0 placed)
      (apart_from m (finite.remove m e.0) e.0 es (λ k above. out_apart m e.0 k above)
      (all_above e.0 es (first_of (below_all nat_cmp e.0 es) (is_sorted nat_cmp es) sorted)) are.1)
      (second_of (below_all nat_cmp e.0 es) (is_sorted nat_cmp es) sorted)
      (ap (filter (λ row. not (bytes_eq e.1.id row.id))) rows ∙ sym (removed_rows m e.1.id e.0 e.1 placed (record { there = are.0; has_id = refl })))))

  retires_each : (es : List Entry) (m : Placed) (t : site.SiteState) → ArePlaced m → AreIn m es → T (is_sorted nat_cmp es) → t.rows ≡ rows_of m
      → Leads valid public i t (map (λ e. world.Retires e.1.id) es) (λ u. u ≡ record t { rows = rows_of (retired_at es m) })
  unfolding retired_at
  retires_each [] m t placed are sorted rows = here valid public i t _ (λ k. record t { rows = rows k })
  retires_each (e ∷ es) m t placed are sorted rows =
      after valid public i t (world.Retires e.1.id ∷ []) (map (λ e. world.Retires e.1.id) es) (λ u. u ≡ after_retire t e.1.id) _
      (after_retire t e.1.id, refl, λ w at. happens valid public w i t (world.Retires e.1.id) (after_retire t e.1.id) at refl)
      (λ u is. subst (λ (x : site.SiteState). Leads valid public i x (map (λ e. world.Retires e.1.id) es)
      (λ y. y ≡ record t { rows = rows_of (retired_at es (finite.insert m e.0 (retired e.1))) })) (sym is)
      (retires_each es (finite.insert m e.0 (retired e.1)) (after_retire t e.1.id) (still_placed m e.0 e.1 are.0 placed)
      (apart_from m (finite.insert m e.0 (retired e.1)) e.0 es (λ k above. put_apart m e.0 (retired e.1) k above)
      (all_above e.0 es (first_of (below_all nat_cmp e.0 es) (is_sorted nat_cmp es) sorted)) are.1)
      (second_of (below_all nat_cmp e.0 es) (is_sorted nat_cmp es) sorted)
      (ap (with_row e.1.id retired) rows ∙ sym (changed_rows m e.0 e.1 retired placed are.0))))

  -- ---- the calls

  pub erases : (placed new : Placed) (user : List ℕ) (ids : List (List ℕ)) (told : ℕ) (t : site.SiteState) → ArePlaced placed → ids ≡ ids_of (of_user user placed)
      → TellsErased placed user told new → t.rows ≡ rows_of placed → Leads valid public i t (map world.Deletes ids) (λ u. u ≡ record t { rows = rows_of new })
  erases placed new user ids told t are is h rows =
      let es = chosen users placed in
      let all = deletes_each es placed t are (found_in users placed (finite.entries placed) (entries_found placed)) (rising users placed) rows in
      let gone : deleted_at es placed ≡ new =
      same_map nat_cmp_total nat_cmp-IsAntisymmetric _ _ (λ q. deleted_there es placed q
      ∙ ap (λ b. if b then None else finite.get placed q) (placed_there users placed q ∙ of_them (finite.get placed q)) ∙ sym (h.1 q)) in
      by_the_same valid public i t (map (λ e. world.Deletes e.1.id) es) (map world.Deletes ids) _
      (same_acts world.Deletes es ∙ ap (map world.Deletes) (their_ids users placed ∙ sym is))
      (all.0, all.1 ∙ ap (λ (m : Placed). record t { rows = rows_of m }) gone, all.2)
    where
      users : Credential → Bool
      users c = bytes_eq c.user user

      of_them : (o : Option Credential) → at_place users o ≡ is_users user o
      of_them None = refl
      of_them (Some c) = refl

  pub retires_all : (placed new : Placed) (user : List ℕ) (ids : List (List ℕ)) (told : ℕ) (t : site.SiteState) → ArePlaced placed
      → ids ≡ ids_of (filter (λ c. not c.retired) (of_user user placed)) → TellsAllRetired placed user told new → t.rows ≡ rows_of placed
      → Leads valid public i t (map world.Retires ids) (λ u. u ≡ record t { rows = rows_of new })
  retires_all placed new user ids told t are is h rows =
      let es = chosen unretired placed in
      let all = retires_each es placed t are (found_in unretired placed (finite.entries placed) (entries_found placed)) (rising unretired placed) rows in
      let done : retired_at es placed ≡ new =
      same_map nat_cmp_total nat_cmp-IsAntisymmetric _ _ (λ q.
      retired_there es placed q (found_in unretired placed (finite.entries placed) (entries_found placed)) (rising unretired placed)
      ∙ ap (λ b. if b then option_map retired (finite.get placed q) else finite.get placed q) (placed_there unretired placed q)
      ∙ as_told (finite.get placed q) ∙ sym (h.1 q)) in
      by_the_same valid public i t (map (λ e. world.Retires e.1.id) es) (map world.Retires ids) _
      (same_acts world.Retires es ∙ ap (map world.Retires) (their_ids unretired placed ∙ ap ids_of (both (rows_of placed)) ∙ sym is))
      (all.0, all.1 ∙ ap (λ (m : Placed). record t { rows = rows_of m }) done, all.2)
    where
      unretired : Credential → Bool
      unretired c = bytes_eq c.user user && not c.retired

      as_told : (o : Option Credential) → (if at_place unretired o then option_map retired o else o) ≡ (if is_users user o then option_map retired o else o)
      as_told None = refl
      as_told (Some c) = go (bytes_eq c.user user) refl c.retired refl
        where
          go : (a : Bool) → bytes_eq c.user user ≡ a → (b : Bool) → c.retired ≡ b
              → (if bytes_eq c.user user && not c.retired then Some (retired c) else Some c) ≡ (if bytes_eq c.user user then Some (retired c) else Some c)
          go false t b u = rw t refl
          go true t false u = rw (t, u) refl
          go true t true u = rw t (ap (λ x. if not x then Some (retired c) else Some c) u ∙ ap Some (λ k. record c { retired = u k }))

      both : (cs : List Credential) → filter (λ c. bytes_eq c.user user && not c.retired) cs ≡ filter (λ c. not c.retired) (filter (λ c. bytes_eq c.user user) cs)
      both [] = refl
      both (c ∷ cs) = go (bytes_eq c.user user) refl (not c.retired) refl (both cs)
        where
          go : (a : Bool) → bytes_eq c.user user ≡ a → (b : Bool) → not c.retired ≡ b
              → filter (λ c. bytes_eq c.user user && not c.retired) cs ≡ filter (λ c. not c.retired) (filter (λ c. bytes_eq c.user user) cs)
              → filter (λ c. bytes_eq c.user user && not c.retired) (c ∷ cs) ≡ filter (λ c. not c.retired) (filter (λ c. bytes_eq c.user user) (c ∷ cs))
          go false t b u more = rw t more
          go true t true u more = rw (t, u) (ap (λ xs. c ∷ xs) more)
          go true t false u more = rw (t, u) more
