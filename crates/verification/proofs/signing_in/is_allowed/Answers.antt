-- What is owed of `is_allowed`.
use Rattle.std.proofs.Common.{◌≡◌, ◌==◌, [], ◌∷◌, List, length, false, Vec, Global, ℕ, map, rules, inl, inr, sym, ◌∙◌}
use Rattle.std.proofs.lemmas.Bool.Decides.{Decides-eqb}
use Rattle.std.proofs.lemmas.Slice.Eq.{slice_eq-Decides}
use Rattle.cose.proofs.Search.{none_found}
use Rattle.clientdata.proofs.Lists.{met}
use Rattle.verification.proofs.signing_in.is_allowed.Goals as goal

-- a list that has elements is not empty
filled : {X Y : Type 0} (f : X → Y) (xs : List X) → (length xs == 0) ≡ false → map f xs ≡ [] → ⊥
filled f [] some none = absurd cc
filled f (x ∷ xs) some none = absurd cc

pub returns-then-eq : goal.returns-then-eq
returns-then-eq c =
    let same = (slice_eq-Decides Decides-eqb c.as_slice.result.now c.args.id.now c.eq.result c.eq.ensures).0 (search rules) in
    let there = met (λ (v : Vec ℕ Global). v.items) c.args.allow.now c.loop-allowed.allowed-index c.allowed-item.result c.args.id.now
    c.loop-allowed-test.true c.allowed-item.is (sym c.as_slice.ensures.value ∙ same) in
    (λ _. inr there, λ _. search rules)

pub returns : goal.returns
returns c = (
  λ h. search rules,
  λ h. elim h [
    | inl none ↦ absurd (filled (λ (v : Vec ℕ Global). v.items) c.args.allow.now (sym c.is_empty.ensures ∙ c.if-is_empty.false) none)
    | inr there ↦ absurd (none_found (λ (v : Vec ℕ Global). v.items) c.args.allow.now c.loop-allowed.allowed-index c.args.id.now
        c.loop-allowed-test.false c.loop-allowed.invariant there)
  ],
)
