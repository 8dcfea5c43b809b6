-- The credentials' maps one after the other, and the map round them.
use Rattle.std.proofs.Common.{◌≡◌, ◌<◌, ◌≤◌, ℕ, true, List, [], ◌∷◌, ◌++◌, length, Some, None, Result, Err, refl, sym, ap, ◌∙◌, subst, arith}
use Rattle.std.proofs.Common.{map as each}
use Rattle.std.proofs.lemmas.Option.{cond_some, same_Some}
use Rattle.std.proofs.lemmas.List.{length-append}
use Rattle.refusal_order.specs.Lines.{Each}
use Rattle.ccbor.specs.Item.{Item, Items, no_items, item, uint, text, array, map, Pairs, no_pairs, pair}
use Rattle.ccbor.specs.Access.{split_key, is_end, uint_in, text_in, items_in, pairs_in}
use Rattle.ccbor.specs.Canon.{Canon}
use Rattle.ccbor.specs.View.{items_of}
use Rattle.ccbor.proofs.AccessLemmas.{split_key_takes, pairs_in_is, uint_in_is, text_in_is, items_in_is, end_is}
use Rattle.ccbor.proofs.Decoding.{same_item}
use Rattle.ccbor.proofs.Numbers.{bind_some}
use Rattle.authdata.specs.declared.profile.Profile.{Profile}
use Rattle.verification.specs.Records.{Credential}
use Rattle.site_state.specs.Table.{row_of, IsRow, IsTable}
use Rattle.site_state.proofs.RowLemmas.{front_absent, looser}
use Rattle.site.specs.Saved.{Saved, FitsVersion, TableOf, credential_item, has_version_4, table_item}
use Rattle.site.specs.Private.{IsOf, table_in}
use Rattle.site.specs.declared.table_error.TableError.{TableError}
use Rattle.site.proofs.Credentials.{one_credential}

-- ---- the credentials' maps, in front of other values

abbrev pub in_front : List Credential → Items → Items
in_front [] xs = xs
in_front (c ∷ rows) xs = item (credential_item c) (in_front rows xs)

pub in_front-none : (rows : List Credential) → in_front rows no_items ≡ items_of (each credential_item rows)
in_front-none [] = refl
in_front-none (c ∷ rows) = ap (λ (l : Items). item (credential_item c) l) (in_front-none rows)

pub in_front-one_more : (rows : List Credential) (c : Credential) (xs : Items) → in_front (rows ++ c ∷ []) xs ≡ in_front rows (item (credential_item c) xs)
in_front-one_more [] c xs = refl
in_front-one_more (d ∷ rows) c xs = ap (λ (l : Items). item (credential_item d) l) (in_front-one_more rows c xs)

-- the error that an answer is refused by
pub same_error : {X : Type 0} (r : Result X TableError) (y f e : TableError) → r ≡ Err y → y ≡ f → r ≡ Err e → f ≡ e
same_error r y f e p q s = cc

item_parts : (x y : Item) (xs ys : Items) → item x xs ≡ item y ys → (x ≡ y) × (xs ≡ ys)
item_parts x y xs ys e = (cc, cc)

module _ (version : ℕ) where
  -- credentials whose maps are those of some, then a value, then more: they are these, then one that has the value as its map
  pub record Goes (rows front : List Credential) (x : Item) (xs : Items) : Type 0 where
    pub row : Credential
    pub rest : List Credential
    pub is : rows ≡ front ++ row ∷ rest
    pub fits : FitsVersion version row
    pub map_is : x ≡ credential_item row

  pub goes_on : (rows front : List Credential) (x : Item) (xs : Items) → Each (FitsVersion version) front → Each (FitsVersion version) rows
      → in_front front (item x xs) ≡ items_of (each credential_item rows) → Goes rows front x xs
  goes_on [] [] x xs f r e = absurd cc
  goes_on [] (c ∷ front) x xs f r e = absurd cc
  goes_on (d ∷ rows) [] x xs f r e =
      let parts = item_parts x (credential_item d) xs (items_of (each credential_item rows)) e in
      record { row = d; rest = rows; is = refl; fits = r.0; map_is = parts.0 }
  goes_on (d ∷ rows) (c ∷ front) x xs f r e =
      let parts = item_parts (credential_item c) (credential_item d) (in_front front (item x xs)) (items_of (each credential_item rows)) e in
      let more = goes_on rows front x xs f.1 r.1 parts.1 in
      let same : c ≡ d = one_credential c d f.0.key r.0.key parts.0 in
      record {
        row = more.row;
        rest = more.rest;
        is = ap (λ (l : List Credential). d ∷ l) more.is
            ∙ ap (λ (y : Credential). y ∷ (front ++ more.row ∷ more.rest)) (sym same);
        fits = more.fits;
        map_is = more.map_is;
      }

  -- and it may stand after them
  pub goes_behind : (p : Profile) (rows front : List Credential) (x : Item) (xs : Items) → IsTable p rows → (g : Goes rows front x xs)
      → IsRow p g.row × (row_of g.row.id front ≡ None) × (length front < 65536)
  goes_behind p rows front x xs table g =
      let whole : IsTable p (front ++ g.row ∷ g.rest) = subst (IsTable p) g.is table in
      let absent = front_absent p front g.rest g.row whole.1 in
      let len = length-append front (g.row ∷ g.rest) in
      let most = whole.0 in
      (absent.0, absent.1, omega (arith, len, most))

  -- the same maps are those of the same credentials
  pub one_list : (rows others : List Credential) → Each (FitsVersion version) rows → Each (FitsVersion version) others
      → items_of (each credential_item rows) ≡ items_of (each credential_item others) → rows ≡ others
  one_list [] [] r o e = refl
  one_list [] (d ∷ others) r o e = absurd cc
  one_list (c ∷ rows) [] r o e = absurd cc
  one_list (c ∷ rows) (d ∷ others) r o e =
      let parts = item_parts (credential_item c) (credential_item d) (items_of (each credential_item rows)) (items_of (each credential_item others)) e in
      ap (λ (x : Credential). x ∷ rows) (one_credential c d r.0.key o.0.key parts.0)
      ∙ ap (λ (l : List Credential). d ∷ l) (one_list rows others r.1 o.1 parts.1)

-- ---- the map round them

abbrev pub whole : ℕ → List ℕ → ℕ → Items → Item
whole version rp_id next xs = map (pair (uint 1) (uint version) (pair (uint 2) (text rp_id) (pair (uint 3) (uint next) (pair (uint 4) (array xs) no_pairs))))

-- it is read
pub whole_read : (version : ℕ) (rp_id : List ℕ) (next : ℕ) (xs : Items) → table_in (whole version rp_id next xs) ≡ Some (version, rp_id, next, xs)
unfolding table_in
whole_read version rp_id next xs = refl

joined : (x a b c d : Item) (p q r s t : Pairs) (version : ℕ) (rp_id : List ℕ) (next : ℕ) (xs : Items) → x ≡ map p → p ≡ pair (uint 1) a q → a ≡ uint version
    → q ≡ pair (uint 2) b r → b ≡ text rp_id
    → r ≡ pair (uint 3) c s → c ≡ uint next → s ≡ pair (uint 4) d t → d ≡ array xs → t ≡ no_pairs → x ≡ whole version rp_id next xs
joined x a b c d p q r s t version rp_id next xs e0 e1 e2 e3 e4 e5 e6 e7 e8 e9 = cc

-- what is read is that map
pub read_whole : (x : Item) (version : ℕ) (rp_id : List ℕ) (next : ℕ) (xs : Items) → table_in x ≡ Some (version, rp_id, next, xs)
    → x ≡ whole version rp_id next xs
unfolding table_in
read_whole x version rp_id next xs e =
    let t : ℕ × List ℕ × ℕ × Items = (version, rp_id, next, xs) in
    let ps = bind_some (pairs_in x) _ t e in
    let one = bind_some (split_key (uint 1) ps.0) _ t ps.2 in
    let v = bind_some (uint_in one.0.0) _ t one.2 in
    let two = bind_some (split_key (uint 2) one.0.1) _ t v.2 in
    let r = bind_some (text_in two.0.0) _ t two.2 in
    let three = bind_some (split_key (uint 3) two.0.1) _ t r.2 in
    let n = bind_some (uint_in three.0.0) _ t three.2 in
    let four = bind_some (split_key (uint 4) three.0.1) _ t n.2 in
    let c = bind_some (items_in four.0.0) _ t four.2 in
    let made : ℕ × List ℕ × ℕ × Items = (v.0, r.0, n.0, c.0) in
    let last = cond_some (is_end four.0.1) made t c.2 in
    let is : x ≡ whole v.0 r.0 n.0 c.0 =
    joined x one.0.0 two.0.0 three.0.0 four.0.0 ps.0 one.0.1 two.0.1 three.0.1 four.0.1 v.0 r.0 n.0 c.0 (pairs_in_is x ps.0 ps.1)
    (split_key_takes (uint 1) ps.0 one.0 one.1) (uint_in_is one.0.0 v.0 v.1)
    (split_key_takes (uint 2) one.0.1 two.0 two.1) (text_in_is two.0.0 r.0 r.1) (split_key_takes (uint 3) two.0.1 three.0 three.1)
    (uint_in_is three.0.0 n.0 n.1)
    (split_key_takes (uint 4) three.0.1 four.0 four.1) (items_in_is four.0.0 c.0 c.1) (end_is four.0.1 last.0) in
    is ∙ ap (λ (y : ℕ × List ℕ × ℕ × Items). whole y.0 y.1 y.2 y.3) last.1

saved_from : List ℕ → ℕ → List Credential → Saved
saved_from rp_id next rows = record { rp_id = rp_id; next = next; rows = rows }

-- bytes are those of one table
pub one_saved : (v w : ℕ) (s t : Saved) (bytes : List ℕ) → TableOf v s bytes → TableOf w t bytes → (v ≡ w) × (s ≡ t)
unfolding saved_from
one_saved v w s t bytes h g =
    let items = same_item (table_item v s) (table_item w t) bytes h.spelled g.spelled in
    let xs = items_of (each credential_item s.rows) in
    let ys = items_of (each credential_item t.rows) in
    let same = same_Some (v, s.rp_id, s.next, xs) (w, t.rp_id, t.next, ys) (sym (whole_read v s.rp_id s.next xs) ∙ ap table_in items
    ∙ whole_read w t.rp_id t.next ys) in
    let versions : v ≡ w = ap (λ (y : ℕ × List ℕ × ℕ × Items). y.0) same in
    let rps : s.rp_id ≡ t.rp_id = ap (λ (y : ℕ × List ℕ × ℕ × Items). y.1) same in
    let nexts : s.next ≡ t.next = ap (λ (y : ℕ × List ℕ × ℕ × Items). y.2) same in
    let rows = one_list v s.rows t.rows h.each (subst (λ (n : ℕ). Each (FitsVersion n) t.rows) (sym versions) g.each)
    (ap (λ (y : ℕ × List ℕ × ℕ × Items). y.3) same) in (
      versions,
      ap (λ (x : List ℕ). saved_from x s.next s.rows) rps ∙ ap (λ (x : ℕ). saved_from t.rp_id x s.rows) nexts
          ∙ ap (λ (x : List Credential). saved_from t.rp_id t.next x) rows,
    )

-- ---- loading

module _ (bytes : List ℕ) (x : Item) (canon : Canon x bytes) where
  same_value : (v : ℕ) (s : Saved) → TableOf v s bytes → x ≡ table_item v s
  same_value v s h = same_item x (table_item v s) bytes canon h.spelled

  members_of : (v : ℕ) (s : Saved) → TableOf v s bytes → table_in x ≡ Some (v, s.rp_id, s.next, items_of (each credential_item s.rows))
  members_of v s h = ap table_in (same_value v s h) ∙ whole_read v s.rp_id s.next (items_of (each credential_item s.rows))

  pub no_members : table_in x ≡ None → (v : ℕ) (s : Saved) → TableOf v s bytes → ⊥
  no_members none v s h = let read = sym none ∙ members_of v s h in absurd cc

  module _ (rp_id : List ℕ) (found : ℕ × List ℕ × ℕ × Items) (read : table_in x ≡ Some found) where
    pub found_is : (v : ℕ) (s : Saved) → TableOf v s bytes → found ≡ (v, s.rp_id, s.next, items_of (each credential_item s.rows))
    found_is v s h = same_Some found (v, s.rp_id, s.next, items_of (each credential_item s.rows)) (sym read ∙ members_of v s h)

    pub not_of : (IsOf rp_id found → ⊥) → (v : ℕ) (s : Saved) → s.rp_id ≡ rp_id → TableOf v s bytes → ⊥
    not_of none v s is h = none (rw (found_is v s h) (h.known.0, h.known.1, is, h.next))

    pub no_rows : (p : Profile) → ((rows : List Credential) → IsTable p rows → (4 ≤ found.0 → has_version_4 rows ≡ true) → Each (FitsVersion found.0) rows
        → found.3 ≡ items_of (each credential_item rows) → ⊥)
        → (v : ℕ) (s : Saved) → IsTable p s.rows → TableOf v s bytes → ⊥
    no_rows p none v s table h =
        let e = found_is v s h in
        none s.rows table (rw e h.needed) (rw e h.each) (ap (λ (y : ℕ × List ℕ × ℕ × Items). y.3) e)

    pub loaded : (p : Profile) → IsOf rp_id found → (rows : List Credential) → IsTable p rows → (4 ≤ found.0 → has_version_4 rows ≡ true)
        → Each (FitsVersion found.0) rows → found.3 ≡ items_of (each credential_item rows)
        → TableOf found.0 (record { rp_id = rp_id; next = found.2; rows = rows }) bytes
    loaded p is rows table needed fit e =
        let item = read_whole x found.0 found.1 found.2 found.3 read in
        let value : x ≡ whole found.0 rp_id found.2 (items_of (each credential_item rows)) = item ∙ ap (λ (r : List ℕ). whole found.0 r found.2 found.3) is.2
        ∙ ap (λ (xs : Items). whole found.0 rp_id found.2 xs) e in
        record {
          known = (is.0, is.1);
          next = is.3;
          rows = (table.0, looser p rows table.1);
          each = fit;
          needed = needed;
          spelled = rw value at canon;
        }
