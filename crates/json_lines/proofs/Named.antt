-- The names of an object's members.
use Rattle.std.proofs.Common.{◌≡◌, ◌∙◌, ℕ, zero, suc, List, [], ◌∷◌, map, Some, String, Global, Bor, string_bytes, refl, sym, subst, ap, inl, inr}
use Rattle.std.specs.List.{AllByRecursion}
use Rattle.std.specs.Map.Iter.{deref_pair}
use Rattle.std.specs.List.{slice_get}
use Rattle.serde_json.specs.View.{members_view}
use Rattle.serde_json.specs.declared.value.Value.{Value}
use Rattle.json_lines.specs.Faults.{IsOneOf, names_in}

some : (x y : String Global × Value) → Some x ≡ Some y → x ≡ y
some x y h = cc

pub name_there : (es : List (String Global × Value)) (i : ℕ) (e : String Global × Value) → slice_get es i ≡ Some e → IsOneOf (names_in (members_view es)) (string_bytes e.0)
name_there [] i e is = absurd cc
name_there (x ∷ es) zero e is = inl (ap (λ (y : String Global × Value). string_bytes y.0) (sym (some x e is)))
name_there (x ∷ es) (suc i) e is = inr (name_there es i e is)

names_are : (es : List (String Global × Value)) → names_in (members_view es) ≡ map (λ e. string_bytes e.0) es
names_are [] = refl
names_are (e ∷ es) = ap (λ ns. string_bytes e.0 ∷ ns) (names_are es)

lent : (ps : List (Bor (String Global) × Bor Value)) → map (λ e. string_bytes e.0) (map deref_pair ps) ≡ map (λ p. string_bytes p.0.now) ps
lent [] = refl
lent (p ∷ ps) = ap (λ ns. string_bytes p.0.now ∷ ns) (lent ps)

-- what is so of each name that was yielded, where all were
pub all_named : (P : List ℕ → Type 0) (ps : List (Bor (String Global) × Bor Value)) (es : List (String Global × Value)) → map deref_pair ps ≡ es
    → AllByRecursion P (map (λ p. string_bytes p.0.now) ps) → AllByRecursion P (names_in (members_view es))
all_named P ps es is all = subst (AllByRecursion P) (sym (lent ps) ∙ ap (map (λ (e : String Global × Value). string_bytes e.0)) is ∙ sym (names_are es)) all
