-- Algorithms in order.
use Rattle.std.proofs.Common.{◌≡◌, List, Bool, true, false, Decides, refl}
use Rattle.std.specs.Cmp.Lexicographic.{pointwise}
use Rattle.std.proofs.lemmas.Slice.Eq.{slice_eq-Decides}
use Rattle.cose.specs.declared.key.Alg.{Alg}
use Rattle.cose.specs.declared.key.Alg.TheVariants as algorithm
use Rattle.std.specs.List.{list_any}
use Rattle.site_seal.specs.Seal.{AreInOrder, in_order, is_es256, is_ed_dsa, is_rs256}

-- which are offered tells which are listed in order
pub offered_es256 : (a b c : Bool) → list_any is_es256 (in_order a b c) ≡ a
offered_es256 false false false = refl
offered_es256 false false true = refl
offered_es256 false true false = refl
offered_es256 false true true = refl
offered_es256 true false false = refl
offered_es256 true false true = refl
offered_es256 true true false = refl
offered_es256 true true true = refl

pub offered_ed_dsa : (a b c : Bool) → list_any is_ed_dsa (in_order a b c) ≡ b
offered_ed_dsa false false false = refl
offered_ed_dsa false false true = refl
offered_ed_dsa false true false = refl
offered_ed_dsa false true true = refl
offered_ed_dsa true false false = refl
offered_ed_dsa true false true = refl
offered_ed_dsa true true false = refl
offered_ed_dsa true true true = refl

pub offered_rs256 : (a b c : Bool) → list_any is_rs256 (in_order a b c) ≡ c
offered_rs256 false false false = refl
offered_rs256 false false true = refl
offered_rs256 false true false = refl
offered_rs256 false true true = refl
offered_rs256 true false false = refl
offered_rs256 true false true = refl
offered_rs256 true true false = refl
offered_rs256 true true true = refl

pub listed_in_order : (a b c : Bool) → AreInOrder (in_order a b c)
listed_in_order a b c = rw (offered_es256 a b c, offered_ed_dsa a b c, offered_rs256 a b c) refl

-- a test that tells the three algorithms apart tells lists of them apart
pub same_algorithms : (E : Alg → Alg → Bool) (xs ys : List Alg) (r : Bool) → r ≡ pointwise E xs ys
    → E algorithm.Es256 algorithm.Es256 ≡ true → E algorithm.Es256 algorithm.EdDsa ≡ false → E algorithm.Es256 algorithm.Rs256 ≡ false
    → E algorithm.EdDsa algorithm.Es256 ≡ false → E algorithm.EdDsa algorithm.EdDsa ≡ true → E algorithm.EdDsa algorithm.Rs256 ≡ false
    → E algorithm.Rs256 algorithm.Es256 ≡ false → E algorithm.Rs256 algorithm.EdDsa ≡ false → E algorithm.Rs256 algorithm.Rs256 ≡ true
    → Decides r (xs ≡ ys)
same_algorithms E xs ys r is ss se sr es ee er rs re rr = slice_eq-Decides tells xs ys r is where
  tells : (a b : Alg) → Decides (E a b) (a ≡ b)
  tells algorithm.Es256 algorithm.Es256 = (λ _. refl, λ _. ss)
  tells algorithm.Es256 algorithm.EdDsa = (λ t. absurd cc, λ same. absurd cc)
  tells algorithm.Es256 algorithm.Rs256 = (λ t. absurd cc, λ same. absurd cc)
  tells algorithm.EdDsa algorithm.Es256 = (λ t. absurd cc, λ same. absurd cc)
  tells algorithm.EdDsa algorithm.EdDsa = (λ _. refl, λ _. ee)
  tells algorithm.EdDsa algorithm.Rs256 = (λ t. absurd cc, λ same. absurd cc)
  tells algorithm.Rs256 algorithm.Es256 = (λ t. absurd cc, λ same. absurd cc)
  tells algorithm.Rs256 algorithm.EdDsa = (λ t. absurd cc, λ same. absurd cc)
  tells algorithm.Rs256 algorithm.Rs256 = (λ _. refl, λ _. rr)
