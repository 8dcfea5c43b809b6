-- Each key has one value, and an encoding of a fixed length.
use Rattle.std.proofs.Common.{◌≡◌, ℕ, List, length, refl, sym, ◌∙◌, ap, arith}
use Rattle.std.proofs.lemmas.List.{length-append}
use Rattle.ccbor.specs.Item.{Item, Pairs, uint, nint, bytes, pair, no_pairs}
use Rattle.ccbor.specs.Canon.{head, before, spelling, Fits, PairsFit, Canon}
use Rattle.ccbor.proofs.Numbers.{head_tiny, head_16}
use Rattle.ccbor.proofs.Shows.{wider}
use Rattle.cose.specs.declared.key.CoseKey.{CoseKey}
use Rattle.cose.specs.declared.key.CoseKey.TheVariants as keys
use Rattle.cose.specs.Rsa.{RsaPublicKey, IsRsaKey}
use Rattle.cose.specs.Keys.{item_of, IsKey, KeyOf, encoded_length}

-- after the first three members, the coordinates
abbrev y_of : List ℕ → Pairs
y_of y = pair (nint 2) (bytes y) no_pairs

y_fits : (y : List ℕ) → length y ≡ 32 → PairsFit 0 (spelling (nint 1)) (y_of y)
unfolding head before
y_fits y is = (refl, refl, omega arith, omega arith, tt)

x_fits : (x : List ℕ) (ps : Pairs) → length x ≡ 32 → PairsFit 0 (spelling (nint 1)) ps → PairsFit 0 (spelling (nint 0)) (pair (nint 1) (bytes x) ps)
unfolding head before
x_fits x ps is h = (refl, refl, omega arith, omega arith, h)

-- after the first two members of an RSA key, the modulus and the exponent
e_fits : (k : RsaPublicKey) → IsRsaKey k → PairsFit 0 (spelling (nint 0)) (pair (nint 1) (bytes k.e) no_pairs)
unfolding head before
e_fits k h = (refl, refl, omega arith, omega arith, tt)

n_fits : (k : RsaPublicKey) → IsRsaKey k → PairsFit 0 (spelling (uint 3)) (pair (nint 0) (bytes k.n) (pair (nint 1) (bytes k.e) no_pairs))
unfolding head before
n_fits k h = (refl, refl, omega arith, omega arith, e_fits k h)

-- a key's map has no arrays or maps inside it
pub key_fits : (k : CoseKey) → IsKey k → Fits 1 (item_of k)
unfolding head before
key_fits (keys.Es256 x y) h = (
  omega arith,
  (refl, refl, omega arith, omega arith, (refl, refl, omega arith, omega arith, (refl, refl, omega arith, omega arith, x_fits x (y_of y) h.0 (y_fits y h.1)))),
)
key_fits (keys.EdDsa x) h = (
  omega arith,
  (refl, refl, omega arith, omega arith, (refl, refl, omega arith, omega arith, (refl, refl, omega arith, omega arith, x_fits x no_pairs h tt))),
)
key_fits (keys.Rs256 k) h = (omega arith, (refl, refl, omega arith, omega arith, (refl, refl, omega arith, omega arith, n_fits k h)))

-- a key's value has its spelling in canonical CBOR
pub key_canon : (k : CoseKey) → IsKey k → Canon (item_of k) (spelling (item_of k))
key_canon k h = (wider (item_of k) 3 (wider (item_of k) 2 (wider (item_of k) 1 (key_fits k h))), refl)

-- 77 bytes, 42, or those of a modulus and an exponent and 13 more
pub length-key : (k : CoseKey) → IsKey k → length (spelling (item_of k)) ≡ encoded_length k
unfolding head
length-key (keys.Es256 x y) h = let a = h.0 in let b = h.1 in simp (a, b, length-append) (omega arith)
length-key (keys.EdDsa x) h = simp (h, length-append) (omega arith)
length-key (keys.Rs256 k) h =
    let n = ap length (head_16 2 (length k.n) h.0.0 (omega (arith, h.0.1))) in
    let e = ap length (head_tiny 2 (length k.e) (omega (arith, h.1.1))) in
    simp length-append (omega (arith, n, e))

rsa_from : List ℕ → List ℕ → RsaPublicKey
rsa_from n e = record { n = n; e = e }

same_rsa : (k l : RsaPublicKey) → k.n ≡ l.n → k.e ≡ l.e → k ≡ l
unfolding rsa_from
same_rsa k l n e =
    ap (λ (bs : List ℕ). rsa_from bs k.e) n ∙ ap (λ (bs : List ℕ). rsa_from l.n bs) e

-- a value is of one key
same_item : (k l : CoseKey) → item_of k ≡ item_of l → k ≡ l
same_item (keys.Es256 x y) (keys.Es256 u v) e = cc
same_item (keys.Es256 x y) (keys.EdDsa u) e = absurd cc
same_item (keys.Es256 x y) (keys.Rs256 l) e = absurd cc
same_item (keys.EdDsa x) (keys.Es256 u v) e = absurd cc
same_item (keys.EdDsa x) (keys.EdDsa u) e = cc
same_item (keys.EdDsa x) (keys.Rs256 l) e = absurd cc
same_item (keys.Rs256 k) (keys.Es256 u v) e = absurd cc
same_item (keys.Rs256 k) (keys.EdDsa u) e = absurd cc
same_item (keys.Rs256 k) (keys.Rs256 l) e = let n : k.n ≡ l.n = cc in let m : k.e ≡ l.e = cc in ap keys.Rs256 (same_rsa k l n m)

pub one_key : (k l : CoseKey) (v : Item) → KeyOf k v → KeyOf l v → k ≡ l
one_key k l v h g = same_item k l (sym h.1 ∙ g.1)
