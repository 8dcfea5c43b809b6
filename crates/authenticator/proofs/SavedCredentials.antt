-- A credential and the map of its parts.
use Rattle.std.proofs.Common.{◌≡◌, ◌<◌, ◌≤◌, ◌^◌, ℕ, List, Bool, Some, length, nat_le, refl, sym, ap, subst, ◌∙◌, arith, ◌&&◌}
use Rattle.std.proofs.lemmas.Option.{cond_some, same_Some}
use Rattle.std.proofs.lemmas.Bool.Decides.{nat_tests}
use Rattle.std.proofs.lemmas.Grind.{common_steps}
use Rattle.ccbor.specs.Item.{Item, uint, nint, bytes, text, map, boolean, Pairs, no_pairs, pair}
use Rattle.ccbor.specs.Access.{split_key, is_end, uint_in, nint_in, bytes_in, text_in, bool_in, pairs_in}
use Rattle.ccbor.proofs.AccessLemmas.{split_key_takes, pairs_in_is, uint_in_is, bytes_in_is, text_in_is, end_is}
use Rattle.ccbor.proofs.Numbers.{bind_some}
use Rattle.cose.specs.Keys.{alg_item, signed_alg}
use Rattle.cose.specs.declared.key.SigningAlg.{SigningAlg}
use Rattle.cose.specs.declared.key.SigningAlg.TheVariants as algs
use Rattle.authenticator.specs.State.{CredentialSource}
use Rattle.authenticator.specs.Saved.{IsSource, source_item}
use Rattle.authenticator.specs.Private.{alg_at, alg_in, after_secret, counter_in, sized_in, source_in}

-- ---- its parts

nint_in_is : (x : Item) (n : ℕ) → nint_in x ≡ Some n → x ≡ nint n
nint_in_is (nint m) n e = cc
nint_in_is _ n e = absurd cc

pub bool_in_is : (x : Item) (b : Bool) → bool_in x ≡ Some b → x ≡ boolean b
bool_in_is (boolean c) b e = cc
bool_in_is _ b e = absurd cc

pub sized : (low high : ℕ) (bs : List ℕ) → low ≤ length bs → length bs ≤ high → sized_in low high (bytes bs) ≡ Some bs
sized low high bs l h = grind (arith, nat_tests, common_steps, l, h)

pub sized_is : (low high : ℕ) (x : Item) (bs : List ℕ) → sized_in low high x ≡ Some bs → (x ≡ bytes bs) × (low ≤ length bs) × (length bs ≤ high)
sized_is low high x bs e =
    let found = bind_some (bytes_in x) _ bs e in
    let last = cond_some (nat_le low (length found.0) && nat_le (length found.0) high) found.0 bs found.2 in
    let same = last.1 in
    let test = last.0 in
    (bytes_in_is x found.0 found.1 ∙ ap bytes same, grind (arith, nat_tests, test, same), grind (arith, nat_tests, test, same))

pub exactly : (n : ℕ) (x : Item) (bs : List ℕ) → sized_in n n x ≡ Some bs → (x ≡ bytes bs) × (length bs ≡ n)
exactly n x bs e = let is = sized_is n n x bs e in (is.0, omega (arith, is.1, is.2))

algorithm : (alg : SigningAlg) → alg_in (alg_item (signed_alg alg)) ≡ Some alg
algorithm algs.Es256 = refl
algorithm algs.EdDsa = refl

alg_at_is : (n : ℕ) (alg : SigningAlg) → alg_at n ≡ Some alg → nint n ≡ alg_item (signed_alg alg)
alg_at_is n algs.Es256 e = grind (arith, nat_tests, common_steps, e)
alg_at_is n algs.EdDsa e = grind (arith, nat_tests, common_steps, e)

algorithm_is : (x : Item) (alg : SigningAlg) → alg_in x ≡ Some alg → x ≡ alg_item (signed_alg alg)
algorithm_is x alg e =
    let found = bind_some (nint_in x) _ alg e in
    nint_in_is x found.0 found.1 ∙ alg_at_is found.0 alg found.2

counter : (n : ℕ) → n < 2 ^ 32 → counter_in (uint n) ≡ Some n
counter n h = grind (arith, nat_tests, common_steps, h)

counter_is : (x : Item) (n : ℕ) → counter_in x ≡ Some n → (x ≡ uint n) × (n < 2 ^ 32)
counter_is x n e =
    let found = bind_some (uint_in x) _ n e in
    let last = cond_some (nat_le found.0 4294967295) found.0 n found.2 in
    let same = last.1 in
    let test = last.0 in
    (uint_in_is x found.0 found.1 ∙ ap uint same, grind (arith, nat_tests, test, same))

-- ---- the map

-- a credential's map is read
pub source_read : (c : CredentialSource) → IsSource c → source_in (source_item c) ≡ Some c
unfolding source_in
source_read c is =
    rw (
      sized 32 32 c.id (omega (arith, is.id)) (omega (arith, is.id)),
      sized 1 64 c.user is.user_low is.user_high,
      sized 32 32 c.secret (omega (arith, is.secret)) (omega (arith, is.secret)),
      algorithm c.alg,
      counter c.sign_count is.sign_count,
    ) refl

-- credentials of one map are one
pub one_source : (c d : CredentialSource) → IsSource c → IsSource d → source_item c ≡ source_item d → c ≡ d
one_source c d h g e = same_Some c d (sym (source_read c h) ∙ ap source_in e ∙ source_read d g)

-- the members after the secret
record Behind (id rp user secret : List ℕ) (ps : Pairs) (c : CredentialSource) : Type 0 where
  pub sign_count : c.sign_count < 2 ^ 32
  pub is : c ≡ record { id = id; rp_id = rp; user = user; secret = secret; alg = c.alg; resident = c.resident; sign_count = c.sign_count }
  pub members : ps ≡ pair (uint 5) (alg_item (signed_alg c.alg)) (pair (uint 6) (boolean c.resident) (pair (uint 7) (uint c.sign_count) no_pairs))

joined_behind : (e f g : Item) (t u v w : Pairs) (alg : SigningAlg) (resident : Bool) (n : ℕ) → t ≡ pair (uint 5) e u → e ≡ alg_item (signed_alg alg)
    → u ≡ pair (uint 6) f v → f ≡ boolean resident → v ≡ pair (uint 7) g w → g ≡ uint n → w ≡ no_pairs
    → t ≡ pair (uint 5) (alg_item (signed_alg alg)) (pair (uint 6) (boolean resident) (pair (uint 7) (uint n) no_pairs))
joined_behind e f g t u v w alg resident n e0 e1 e2 e3 e4 e5 e6 = cc

behind_is : (id rp user secret : List ℕ) (ps : Pairs) (c : CredentialSource) → after_secret id rp user secret ps ≡ Some c → Behind id rp user secret ps c
behind_is id rp user secret ps c e =
    let five = bind_some (split_key (uint 5) ps) _ c e in
    let alg = bind_some (alg_in five.0.0) _ c five.2 in
    let six = bind_some (split_key (uint 6) five.0.1) _ c alg.2 in
    let resident = bind_some (bool_in six.0.0) _ c six.2 in
    let seven = bind_some (split_key (uint 7) six.0.1) _ c resident.2 in
    let count = bind_some (counter_in seven.0.0) _ c seven.2 in
    let made : CredentialSource = record { id = id; rp_id = rp; user = user; secret = secret; alg = alg.0; resident = resident.0; sign_count = count.0 } in
    let last = cond_some (is_end seven.0.1) made c count.2 in
    let n = counter_is seven.0.0 count.0 count.1 in
    let found : Behind id rp user secret ps made = record {
      sign_count = n.1;
      is = refl;
      members = joined_behind five.0.0 six.0.0 seven.0.0 ps five.0.1 six.0.1 seven.0.1 alg.0 resident.0 count.0
          (split_key_takes (uint 5) ps five.0 five.1) (algorithm_is five.0.0 alg.0 alg.1)
          (split_key_takes (uint 6) five.0.1 six.0 six.1) (bool_in_is six.0.0 resident.0 resident.1)
          (split_key_takes (uint 7) six.0.1 seven.0 seven.1) n.0 (end_is seven.0.1 last.0);
    } in
    subst (Behind id rp user secret ps) last.1 found

joined : (x a b c d : Item) (p q r s t behind : Pairs) (id rp user secret : List ℕ) → x ≡ map p → p ≡ pair (uint 1) a q → a ≡ bytes id
    → q ≡ pair (uint 2) b r → b ≡ text rp → r ≡ pair (uint 3) c s → c ≡ bytes user → s ≡ pair (uint 4) d t → d ≡ bytes secret → t ≡ behind
    → x ≡ map (pair (uint 1) (bytes id) (pair (uint 2) (text rp) (pair (uint 3) (bytes user) (pair (uint 4) (bytes secret) behind))))
joined x a b c d p q r s t behind id rp user secret e0 e1 e2 e3 e4 e5 e6 e7 e8 e9 = cc

whole_source : (x : Item) (id rp user secret : List ℕ) (ps : Pairs) (c : CredentialSource) → Behind id rp user secret ps c → length id ≡ 32
    → 1 ≤ length user → length user ≤ 64 → length secret ≡ 32
    → ((behind : Pairs) → ps ≡ behind
    → x ≡ map (pair (uint 1) (bytes id) (pair (uint 2) (text rp) (pair (uint 3) (bytes user) (pair (uint 4) (bytes secret) behind)))))
    → IsSource c × (x ≡ source_item c)
whole_source x id rp user secret ps c b i low high s is =
    let made : CredentialSource =
    record { id = id; rp_id = rp; user = user; secret = secret; alg = c.alg; resident = c.resident; sign_count = c.sign_count } in
    let found : IsSource made × (x ≡ source_item made) =
    (record { id = i; user_low = low; user_high = high; secret = s; sign_count = b.sign_count }, is _ b.members) in
    subst (λ (k : CredentialSource). IsSource k × (x ≡ source_item k)) (sym b.is) found

-- what is read is a credential, and it has the map
pub source_is : (x : Item) (c : CredentialSource) → source_in x ≡ Some c → IsSource c × (x ≡ source_item c)
unfolding source_in
source_is x c e =
    let ps = bind_some (pairs_in x) _ c e in
    let one = bind_some (split_key (uint 1) ps.0) _ c ps.2 in
    let id = bind_some (sized_in 32 32 one.0.0) _ c one.2 in
    let two = bind_some (split_key (uint 2) one.0.1) _ c id.2 in
    let rp = bind_some (text_in two.0.0) _ c two.2 in
    let three = bind_some (split_key (uint 3) two.0.1) _ c rp.2 in
    let user = bind_some (sized_in 1 64 three.0.0) _ c three.2 in
    let four = bind_some (split_key (uint 4) three.0.1) _ c user.2 in
    let secret = bind_some (sized_in 32 32 four.0.0) _ c four.2 in
    let i = exactly 32 one.0.0 id.0 id.1 in
    let u = sized_is 1 64 three.0.0 user.0 user.1 in
    let s = exactly 32 four.0.0 secret.0 secret.1 in
    let behind : Behind id.0 rp.0 user.0 secret.0 four.0.1 c = behind_is id.0 rp.0 user.0 secret.0 four.0.1 c secret.2 in
    whole_source x id.0 rp.0 user.0 secret.0 four.0.1 c behind i.1 u.1 u.2 s.1
    (λ rest is. joined x one.0.0 two.0.0 three.0.0 four.0.0 ps.0 one.0.1 two.0.1 three.0.1 four.0.1 rest id.0 rp.0 user.0 secret.0
    (pairs_in_is x ps.0 ps.1)
    (split_key_takes (uint 1) ps.0 one.0 one.1) i.0
    (split_key_takes (uint 2) one.0.1 two.0 two.1) (text_in_is two.0.0 rp.0 rp.1)
    (split_key_takes (uint 3) two.0.1 three.0 three.1) u.0
    (split_key_takes (uint 4) three.0.1 four.0 four.1) s.0 is)
