-- Passing over values one after the other: what follows them, without what was read.
use Rattle.std.proofs.Common.{◌≡◌, ℕ, ◌-◌, ◌+◌, ◌<◌, Bool, true, false, cond, List, length, take, Option, Some, None, refl, ◌||◌}
use Rattle.ccbor.specs.declared.error.Error.{Error}
use Rattle.ccbor.specs.declared.error.Error.TheVariants as errors
use Rattle.ccbor.specs.Item.{Item, item, Pairs, pair}
use Rattle.ccbor.specs.Canon.{before}
use Rattle.ccbor.specs.Reading.{Read, ◌>>=◌, Refuses, rest_of, key_rest, head_at, leaf_at, begins_key, key_at, items_at, pairs_at}
use Rattle.ccbor.proofs.Loop.{one_more}

pub no_head : {X : Type 0} (e : Error) (read : Option X) → Refuses e read → read ≡ None
no_head errors.NotCanonical read h = h
no_head _ read h = absurd h

pub same_rest : {A B : Type 0} → (f : A → B) (read : Read A) → rest_of (read >>= λ x. Some (f x.0, x.1)) ≡ rest_of read
same_rest f (Some x) = refl
same_rest f None = refl

behind : {A B : Type 0} (read : Read A) (next : A × List ℕ → Read B) (g : List ℕ → Option (List ℕ)) → ((x : A × List ℕ) → rest_of (next x) ≡ g x.1)
    → rest_of (read >>= next) ≡ (rest_of read >>= g)
behind (Some x) next g same = same x
behind None next g same = refl

pub key_passed : (known : Bool) (bs : List ℕ) (m n : ℕ) (r : List ℕ) → head_at bs ≡ Some ((m, n), r) → begins_key m ≡ true
    → key_rest (key_at known bs) ≡ (rest_of (leaf_at known (m, n) r) >>= λ rest. Some (take (length bs - length rest) bs, rest))
unfolding key_at
key_passed known bs m n r e t = rw (e, t) (of (leaf_at known (m, n) r)) where
  of : (read : Read Item) → key_rest (read >>= λ k. Some ((k.0, take (length bs - length k.1) bs), k.1))
      ≡ (rest_of read >>= λ rest. Some (take (length bs - length rest) bs, rest))
  of (Some x) = refl
  of None = refl

module _ (inside : List ℕ → Read Item) (count i : ℕ) (lt : i < count) where
  pub items_passed : (bs : List ℕ) → rest_of (items_at inside (count - i) bs) ≡ (rest_of (inside bs) >>= λ r. rest_of (items_at inside (count - (i + 1)) r))
  unfolding items_at
  items_passed bs = rw (one_more count i lt) (behind (inside bs) _ _ (λ x. same_rest (item x.0) (items_at inside (count - (i + 1)) x.1)))

  pub pairs_passed : (known : Bool) (last bs : List ℕ) → rest_of (pairs_at known inside last (count - i) bs)
      ≡ (key_rest (key_at known bs) >>= λ k. cond (known || before last k.0)
      (rest_of (inside k.1) >>= λ r. rest_of (pairs_at known inside k.0 (count - (i + 1)) r)) None)
  unfolding pairs_at
  pairs_passed known last bs = rw (one_more count i lt) (of (key_at known bs)) where
    others : Item × List ℕ → Item × List ℕ → Read Pairs
    others k v = pairs_at known inside k.1 (count - (i + 1)) v.1 >>= λ ps. Some (pair k.0 v.0 ps.0, ps.1)

    of : (read : Read (Item × List ℕ)) → rest_of (read >>= λ k. cond (known || before last k.0.1) (inside k.1 >>= others k.0) None)
        ≡ (key_rest read >>= λ k. cond (known || before last k.0) (rest_of (inside k.1) >>= λ r. rest_of (pairs_at known inside k.0 (count - (i + 1)) r)) None)
    of None = refl
    of (Some k) = test (known || before last k.0.1) where
      test : (b : Bool) → rest_of (cond b (inside k.1 >>= others k.0) None) ≡ cond b
          (rest_of (inside k.1) >>= λ r. rest_of (pairs_at known inside k.0.1 (count - (i + 1)) r)) None
      test true = behind (inside k.1) _ _ (λ v. same_rest (pair k.0.0 v.0) (pairs_at known inside k.0.1 (count - (i + 1)) v.1))
      test false = refl
