-- The order of spelled keys is strict.
use Rattle.std.proofs.Common.{◌≡◌, ℕ, true, cond, eqb, ltb, List, length, refl, sym, ap, ◌∙◌, arith}
use Rattle.std.proofs.Common.{Ordering, Less, Equal, Greater}
use Rattle.std.specs.Ordering.{nat_cmp, is_lt, ordering_then, on, then_cmp}
use Rattle.std.specs.Cmp.{IsTotalOrder, on_total, then_total, nat_cmp_total}
use Rattle.std.specs.Cmp.Lexicographic.{slice_cmp, lists_total}
use Rattle.std.proofs.lemmas.Cmp.{tied_itself}
use Rattle.std.proofs.lemmas.Bool.Decides.{nat_tests}
use Rattle.ccbor.specs.Canon.{before, major_of}

abbrev key_cmp : List ℕ → List ℕ → Ordering
key_cmp = then_cmp (on major_of nat_cmp) (then_cmp (on length nat_cmp) (slice_cmp nat_cmp))

key_total : IsTotalOrder key_cmp
key_total = then_total (on_total major_of nat_cmp_total) (then_total (on_total length nat_cmp_total) (lists_total nat_cmp_total))

by_parts : (m n p q : ℕ) (o : Ordering)
    → cond (eqb m n) (cond (eqb p q) (is_lt o) (ltb p q)) (ltb m n) ≡ is_lt (ordering_then (nat_cmp m n) (ordering_then (nat_cmp p q) o))
by_parts m n p q o = grind (arith, nat_tests)

before_is : (a b : List ℕ) → before a b ≡ is_lt (key_cmp a b)
unfolding before
before_is a b = by_parts (major_of a) (major_of b) (length a) (length b) (slice_cmp nat_cmp a b)

less : (o : Ordering) → is_lt o ≡ true → o ≡ Less
less Less e = refl
less Equal e = absurd cc
less Greater e = absurd cc

pub before_trans : (a b c : List ℕ) → before a b ≡ true → before b c ≡ true → before a c ≡ true
before_trans a b c p q =
    let x = less (key_cmp a b) (sym (before_is a b) ∙ p) in
    let y = less (key_cmp b c) (sym (before_is b c) ∙ q) in
    before_is a c ∙ ap is_lt (key_total.trans a b c x y)

pub before_itself : (a : List ℕ) → before a a ≡ true → ⊥
before_itself a p =
    let x = less (key_cmp a a) (sym (before_is a a) ∙ p) in
    let y = tied_itself key_total a in
    absurd cc
