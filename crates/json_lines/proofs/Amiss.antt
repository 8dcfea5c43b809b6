-- Lists that are refused, since an item is.
use Rattle.std.proofs.Common.{◌≡◌, ◌<◌, ℕ, zero, suc, List, [], ◌∷◌, length, get_or, map, Bor, Option, Some, None, refl, sym, subst, ap, inl, inr, ◌∙◌, arith}
use Rattle.std.specs.Prelude.{option_and_then}
use Rattle.std.specs.List.{AllByRecursion}
use Rattle.serde_json.specs.Data.{Data, Items, item}
use Rattle.serde_json.specs.Find.{as_array}
use Rattle.serde_json.specs.View.{items_of, view}
use Rattle.serde_json.specs.declared.value.Value.{Value}
use Rattle.json_lines.specs.Faults.{AreItems, HasItems, IsIllFormed, IsRefusedAs}
use Rattle.json_lines.specs.Members.{member}
use Rattle.json_lines.specs.declared.error.LineError.{LineError}

each : (Is : Data → Type 0) (values : List Value) (i : ℕ) (v : Value) → i < length values → v ≡ get_or values i v → AllByRecursion Is (map view values) → Is (view v)
each Is [] i v below is all = absurd (omega arith)
each Is (x ∷ values) zero v below is all = subst (λ y. Is (view y)) (sym is) all.0
each Is (x ∷ values) (suc i) v below is all = each Is values i v (omega arith) is all.1

-- a list with a value that is refused is refused
pub item_refused : (name : Bor (List ℕ)) (Is : Data → Type 0) (values : List Value) (i : ℕ) (v : Value) (e : LineError) → i < length values → v ≡ get_or values i v
    → IsRefusedAs name (Is (view v)) e → IsRefusedAs name (AllByRecursion Is (map view values)) e
item_refused name Is values i v e below is (inl memory) = inl memory
item_refused name Is values i v e below is (inr (form, none)) = inr (form, λ all. none (each Is values i v below is all))

pub some : (x y : Items) → Some x ≡ Some y → x ≡ y
some x y h = cc

pub same_items : (ds es : List Data) → items_of ds ≡ items_of es → ds ≡ es
same_items [] [] is = refl
same_items [] (e ∷ es) is = absurd cc
same_items (d ∷ ds) [] is = absurd cc
same_items (d ∷ ds) (e ∷ es) is =
    let both : (d ≡ e) × (items_of ds ≡ items_of es) = parts d e _ _ is in
    ap (λ x. x ∷ ds) both.0 ∙ ap (λ xs. e ∷ xs) (same_items ds es both.1)
  where
    parts : (a b : Data) (x y : Items) → item a x ≡ item b y → (a ≡ b) × (x ≡ y)
    parts a b x y h = (cc, cc)

-- a member whose value is no such list is not in its form
pub list_amiss : (name : Bor (List ℕ)) (Is : Data → Type 0) (d m : Data) (values : List Value) (e : LineError) → member name.now d ≡ Some m
    → as_array m ≡ Some (items_of (map view values)) → IsRefusedAs name (AllByRecursion Is (map view values)) e → IsIllFormed name.now (HasItems Is) d e
list_amiss name Is d m values e there list (inl memory) = subst (IsIllFormed name.now (HasItems Is) d) (sym memory) tt
list_amiss name Is d m values e there list (inr (form, none)) =
    subst (IsIllFormed name.now (HasItems Is) d) (sym form) (refl, (m, there, λ has. none (subst (AllByRecursion Is) (same_items has.0 (map view values) (some _ _ (sym has.1 ∙ list))) has.2)))

split : (name : List ℕ) (d : Data) (o : Option Data) (x : Items) → member name d ≡ o → option_and_then as_array o ≡ Some x
    → (m : Data) × (member name d ≡ Some m) × (as_array m ≡ Some x)
split name d None x is list = absurd cc
split name d (Some m) x is list = (m, is, list)

pub items_amiss : (name : Bor (List ℕ)) (Is : Data → Type 0) (d : Data) (values : List Value) (e : LineError) → AreItems name.now d values
    → IsRefusedAs name (AllByRecursion Is (map view values)) e → IsIllFormed name.now (HasItems Is) d e
items_amiss name Is d values e (inl is) refused =
    let found = split name.now d _ _ refl is in
    list_amiss name Is d found.0 values e found.1 found.2 refused
items_amiss name Is d values e (inr (none, empty)) (inl memory) = subst (IsIllFormed name.now (HasItems Is) d) (sym memory) tt
items_amiss name Is d values e (inr (none, empty)) (inr (form, not)) = absurd (not (subst (λ vs. AllByRecursion Is (map view vs)) (sym empty) tt))

-- the items of a member are those of its list, where there are any
pub listed : (name : List ℕ) (d : Data) (values : List Value) → AreItems name d values → (values ≡ [] → ⊥)
    → (m : Data) × (member name d ≡ Some m) × (as_array m ≡ Some (items_of (map view values)))
listed name d values (inl is) there = split name d _ _ refl is
listed name d values (inr none) there = absurd (there none.1)
