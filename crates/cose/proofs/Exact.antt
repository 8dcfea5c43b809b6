-- Reading finds the key whose value the pairs are, and no other.
use Rattle.std.proofs.Common.{◌≡◌, ℕ, cond, eqb, List, length, Some, None, refl, sym, ap, ◌∙◌, subst}
use Rattle.std.proofs.lemmas.Bool.{eqb-true, eq-eqb}
use Rattle.std.proofs.lemmas.Option.{cond_some, same_Some}
use Rattle.ccbor.specs.Item.{Item, uint, nint, bytes, map, Pairs, no_pairs, pair}
use Rattle.ccbor.specs.Reading.{◌>>=◌}
use Rattle.ccbor.specs.Access.{is_same_key, split_key, bytes_in, is_end}
use Rattle.ccbor.proofs.Numbers.{bind_some}
use Rattle.ccbor.proofs.AccessLemmas.{same_key, split_key_takes, bytes_in_is, end_is}
use Rattle.cose.specs.declared.key.CoseKey.{CoseKey}
use Rattle.cose.specs.declared.key.CoseKey.TheVariants as keys
use Rattle.cose.specs.Keys.{item_of, KeyOf}
use Rattle.cose.specs.Rsa.{RsaPublicKey}
use Rattle.cose.specs.Reading.{bytes_at, constant_at, coordinate_at, es256_at, eddsa_at, rsa_at}

-- ---- what is read is the key's

constant_takes : (k v : Item) (ps rest : Pairs) → constant_at k v ps ≡ Some rest → ps ≡ pair k v rest
unfolding constant_at
constant_takes k v ps rest e =
    let a = bind_some (split_key k ps) (λ m. cond (is_same_key m.0 v) (Some m.1) None) rest e in
    let b = cond_some (is_same_key a.0.0 v) a.0.1 rest a.2 in
    let same : a.0.0 ≡ v = same_key a.0.0 v b.0 in
    split_key_takes k ps a.0 a.1 ∙ ap (λ (i : Item). pair k i a.0.1) same ∙ ap (λ (q : Pairs). pair k v q) b.1

bytes_takes : (k : Item) (ps : Pairs) (x : List ℕ × Pairs) → bytes_at k ps ≡ Some x → ps ≡ pair k (bytes x.0) x.1
unfolding bytes_at
bytes_takes k ps x e =
    let a = bind_some (split_key k ps) (λ m. bytes_in m.0 >>= λ bs. Some (bs, m.1)) x e in
    let b = bind_some (bytes_in a.0.0) (λ bs. Some (bs, a.0.1)) x a.2 in
    let is = split_key_takes k ps a.0 a.1 ∙ ap (λ (i : Item). pair k i a.0.1) (bytes_in_is a.0.0 b.0 b.1) in
    subst (λ (y : List ℕ × Pairs). ps ≡ pair k (bytes y.0) y.1) (same_Some (b.0, a.0.1) x b.2) is

coordinate_takes : (k : Item) (ps : Pairs) (x : List ℕ × Pairs) → coordinate_at k ps ≡ Some x → (ps ≡ pair k (bytes x.0) x.1) × (length x.0 ≡ 32)
unfolding coordinate_at
coordinate_takes k ps x e =
    let a = bind_some (bytes_at k ps) (λ m. cond (eqb (length m.0) 32) (Some m) None) x e in
    let c = cond_some (eqb (length a.0.0) 32) a.0 x a.2 in
    subst (λ (y : List ℕ × Pairs). (ps ≡ pair k (bytes y.0) y.1) × (length y.0 ≡ 32)) c.1
    (bytes_takes k ps a.0 a.1, eqb-true (length a.0.0) 32 c.0)

pub es256_takes : (ps : Pairs) (key : CoseKey) → es256_at ps ≡ Some key → KeyOf key (map ps)
unfolding es256_at
es256_takes ps key e =
    let a = bind_some (constant_at (uint 1) (uint 2) ps) _ key e in
    let b = bind_some (constant_at (uint 3) (nint 6) a.0) _ key a.2 in
    let c = bind_some (constant_at (nint 0) (uint 1) b.0) _ key b.2 in
    let d = bind_some (coordinate_at (nint 1) c.0) _ key c.2 in
    let f = bind_some (coordinate_at (nint 2) d.0.1) _ key d.2 in
    let g = cond_some (is_end f.0.1) (keys.Es256 d.0.0 f.0.0) key f.2 in
    let x = coordinate_takes (nint 1) c.0 d.0 d.1 in
    let y = coordinate_takes (nint 2) d.0.1 f.0 f.1 in
    let e1 = constant_takes (uint 1) (uint 2) ps a.0 a.1 in
    let e2 = constant_takes (uint 3) (nint 6) a.0 b.0 b.1 in
    let e3 = constant_takes (nint 0) (uint 1) b.0 c.0 c.1 in
    let e4 = end_is f.0.1 g.0 in
    let is : map ps ≡ item_of (keys.Es256 d.0.0 f.0.0) = cc in
    subst (λ (k : CoseKey). KeyOf k (map ps)) g.1 ((x.1, y.1), is)

pub eddsa_takes : (ps : Pairs) (key : CoseKey) → eddsa_at ps ≡ Some key → KeyOf key (map ps)
unfolding eddsa_at
eddsa_takes ps key e =
    let a = bind_some (constant_at (uint 1) (uint 1) ps) _ key e in
    let b = bind_some (constant_at (uint 3) (nint 7) a.0) _ key a.2 in
    let c = bind_some (constant_at (nint 0) (uint 6) b.0) _ key b.2 in
    let d = bind_some (coordinate_at (nint 1) c.0) _ key c.2 in
    let g = cond_some (is_end d.0.1) (keys.EdDsa d.0.0) key d.2 in
    let x = coordinate_takes (nint 1) c.0 d.0 d.1 in
    let e1 = constant_takes (uint 1) (uint 1) ps a.0 a.1 in
    let e2 = constant_takes (uint 3) (nint 7) a.0 b.0 b.1 in
    let e3 = constant_takes (nint 0) (uint 6) b.0 c.0 c.1 in
    let e4 = end_is d.0.1 g.0 in
    let is : map ps ≡ item_of (keys.EdDsa d.0.0) = cc in
    subst (λ (k : CoseKey). KeyOf k (map ps)) g.1 (x.1, is)

pub rsa_takes : (ps : Pairs) (k : RsaPublicKey) → rsa_at ps ≡ Some k → map ps ≡ item_of (keys.Rs256 k)
unfolding rsa_at
rsa_takes ps k e =
    let a = bind_some (constant_at (uint 1) (uint 3) ps) _ k e in
    let b = bind_some (constant_at (uint 3) (nint 256) a.0) _ k a.2 in
    let c = bind_some (bytes_at (nint 0) b.0) _ k b.2 in
    let d = bind_some (bytes_at (nint 1) c.0.1) _ k c.2 in
    let g = cond_some (is_end d.0.1) (record { n = c.0.0; e = d.0.0 }) k d.2 in
    let n = bytes_takes (nint 0) b.0 c.0 c.1 in
    let m = bytes_takes (nint 1) c.0.1 d.0 d.1 in
    let e1 = constant_takes (uint 1) (uint 3) ps a.0 a.1 in
    let e2 = constant_takes (uint 3) (nint 256) a.0 b.0 b.1 in
    let e4 = end_is d.0.1 g.0 in
    let is : map ps ≡ item_of (keys.Rs256 (record { n = c.0.0; e = d.0.0 })) = cc in
    subst (λ (k : RsaPublicKey). map ps ≡ item_of (keys.Rs256 k)) g.1 is

-- ---- the key's pairs are read

abbrev pairs_of_es256 : List ℕ → List ℕ → Pairs
pairs_of_es256 x y = pair (uint 1) (uint 2) (pair (uint 3) (nint 6) (pair (nint 0) (uint 1) (pair (nint 1) (bytes x) (pair (nint 2) (bytes y) no_pairs))))

abbrev pairs_of_eddsa : List ℕ → Pairs
pairs_of_eddsa x = pair (uint 1) (uint 1) (pair (uint 3) (nint 7) (pair (nint 0) (uint 6) (pair (nint 1) (bytes x) no_pairs)))

es256_again : (x y : List ℕ) → length x ≡ 32 → length y ≡ 32 → es256_at (pairs_of_es256 x y) ≡ Some (keys.Es256 x y)
unfolding es256_at constant_at coordinate_at bytes_at
es256_again x y p q = rw (eq-eqb (length x) 32 p, eq-eqb (length y) 32 q) refl

eddsa_again : (x : List ℕ) → length x ≡ 32 → eddsa_at (pairs_of_eddsa x) ≡ Some (keys.EdDsa x)
unfolding eddsa_at constant_at coordinate_at bytes_at
eddsa_again x p = rw (eq-eqb (length x) 32 p) refl

abbrev pairs_of_rsa : RsaPublicKey → Pairs
pairs_of_rsa k = pair (uint 1) (uint 3) (pair (uint 3) (nint 256) (pair (nint 0) (bytes k.n) (pair (nint 1) (bytes k.e) no_pairs)))

rsa_again : (k : RsaPublicKey) → rsa_at (pairs_of_rsa k) ≡ Some k
unfolding rsa_at constant_at bytes_at
rsa_again k = refl

-- the members of an RSA key are read as they are
pub rsa_read : (ps : Pairs) (k : RsaPublicKey) → map ps ≡ item_of (keys.Rs256 k) → rsa_at ps ≡ Some k
rsa_read ps k e =
    let same : ps ≡ pairs_of_rsa k = cc in
    ap rsa_at same ∙ rsa_again k

pub never_refused : (v : Item) (ps : Pairs) (k : CoseKey) → v ≡ map ps → es256_at ps ≡ None → eddsa_at ps ≡ None
    → ((l : RsaPublicKey) → KeyOf (keys.Rs256 l) (map ps) → ⊥) → KeyOf k v → ⊥
never_refused v ps (keys.Es256 x y) is no1 no2 no3 h =
    let same : ps ≡ pairs_of_es256 x y = let e = h.1 in cc in
    let again = es256_again x y h.0.0 h.0.1 in
    absurd cc
never_refused v ps (keys.EdDsa x) is no1 no2 no3 h =
    let same : ps ≡ pairs_of_eddsa x = let e = h.1 in cc in
    let again = eddsa_again x h.0 in
    absurd cc
never_refused v ps (keys.Rs256 l) is no1 no2 no3 h = no3 l (h.0, sym is ∙ h.1)
