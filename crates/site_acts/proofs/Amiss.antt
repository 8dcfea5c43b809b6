-- Transports that are refused.
use Rattle.std.proofs.Common.{◌≡◌, ◌<◌, ◌≤◌, ◌+◌, ℕ, zero, suc, List, [], ◌∷◌, length, get_or, map, take, Bor, Some, refl, sym, subst, ap, inl, inr, ◌∙◌, arith}
use Rattle.std.specs.List.{AllByRecursion}
use Rattle.serde_json.specs.Data.{Data}
use Rattle.serde_json.specs.Find.{as_array}
use Rattle.serde_json.specs.View.{items_of, view}
use Rattle.serde_json.specs.declared.value.Value.{Value}
use Rattle.json_lines.proofs.Amiss.{listed, same_items, some}
use Rattle.json_lines.specs.Faults.{AreItems, IsIllFormed, IsRefusedAs}
use Rattle.json_lines.specs.Members.{member}
use Rattle.json_lines.specs.declared.error.LineError.{LineError}
use Rattle.site_acts.specs.Faults.{AreTransports, IsPlain, IsTransport}

length_of : (vs : List Value) → length (map view vs) ≡ length vs
length_of [] = refl
length_of (v ∷ vs) = ap suc (length_of vs)

pub transports_amiss : (name : Bor (List ℕ)) (d : Data) (values : List Value) (e : LineError) → AreItems name.now d values
    → IsRefusedAs name (AllByRecursion IsTransport (map view values)) e → IsIllFormed name.now AreTransports d e
transports_amiss name d values e are (inl memory) = subst (IsIllFormed name.now AreTransports d) (sym memory) tt
transports_amiss name d values e are (inr (form, not)) =
    let found = listed name.now d values are (λ empty. not (subst (λ vs. AllByRecursion IsTransport (map view vs)) (sym empty) tt)) in
    subst (IsIllFormed name.now AreTransports d) (sym form) (refl, (found.0, found.1, λ has. not (subst (AllByRecursion IsTransport) (same_items has.0 (map view values) (some _ _ (sym has.1 ∙ found.2))) has.3)))

pub many_transports : (name : List ℕ) (d : Data) (values : List Value) → AreItems name d values → 16 < length values
    → (m : Data) × (member name d ≡ Some m) × (AreTransports m → ⊥)
many_transports name d values are many =
    let found = listed name d values are (λ empty. none (subst (λ vs. 16 < length vs) empty many)) in
    (found.0, found.1, λ has. above (ap length (same_items has.0 (map view values) (some _ _ (sym has.1 ∙ found.2))) ∙ length_of values) has.2)
  where
    none : 16 < 0 → ⊥
    none h = omega arith

    above : {n : ℕ} → n ≡ length values → n ≤ 16 → ⊥
    above is h = omega (arith, many)

-- ---- bytes

pub plain_at : (xs : List ℕ) (i b : ℕ) → i < length xs → b ≡ get_or xs i b → AllByRecursion IsPlain xs → IsPlain b
plain_at [] i b below is all = absurd (omega arith)
plain_at (x ∷ xs) zero b below is all = subst IsPlain (sym is) all.0
plain_at (x ∷ xs) (suc i) b below is all = plain_at xs i b (omega arith) is all.1

pub plain_more : (xs : List ℕ) (i b : ℕ) → i < length xs → b ≡ get_or xs i b → AllByRecursion IsPlain (take i xs) → IsPlain b
    → AllByRecursion IsPlain (take (i + 1) xs)
plain_more [] i b below is all plain = absurd (omega arith)
plain_more (x ∷ xs) zero b below is all plain = (subst IsPlain is plain, tt)
plain_more (x ∷ xs) (suc i) b below is all plain =
    let next : suc (i + 1) ≡ suc i + 1 = omega arith in
    subst (λ n. AllByRecursion IsPlain (take n (x ∷ xs))) next (all.0, plain_more xs i b (omega arith) is all.1 plain)
