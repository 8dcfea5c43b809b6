-- A row is one credential's.
use Rattle.std.proofs.Common.{◌≡◌, ℕ, pos, Bool, true, false, List, Some, None, refl, ap, ◌∙◌}
use Rattle.std.specs.Prelude.{Option, ℤ}
use Rattle.sqlite_value.specs.Order.{column, bytes}
use Rattle.sqlite_value.specs.declared.value.Value.TheVariants.{Int, Blob}
use Rattle.cose.specs.declared.key.CoseKey.{CoseKey}
use Rattle.cose.specs.declared.key.CoseKey.TheVariants as keys
use Rattle.cose.specs.Rsa.{RsaPublicKey}
use Rattle.cose.specs.Keys.{alg_of, number_of, x_of}
use Rattle.verification.specs.Records.{Credential}
use Rattle.site_rows.specs.Rows.{credential_row, y_value}
use Rattle.site_rows.specs.Values.{truth_or_null, truth_value}

pub truth_once : (a b : Bool) → truth_value a ≡ truth_value b → a ≡ b
truth_once true true e = refl
truth_once false false e = refl
truth_once true false e = absurd cc
truth_once false true e = absurd cc

known_once : (a b : Option Bool) → truth_or_null a ≡ truth_or_null b → a ≡ b
known_once None None e = refl
known_once None (Some true) e = absurd cc
known_once None (Some false) e = absurd cc
known_once (Some true) None e = absurd cc
known_once (Some false) None e = absurd cc
known_once (Some a) (Some b) e = ap Some (truth_once a b e)

pub blob_once : (x y : List ℕ) → Blob x ≡ Blob y → x ≡ y
blob_once x y e = ap bytes e

rsa_once : (k l : RsaPublicKey) → k.n ≡ l.n → k.e ≡ l.e → keys.Rs256 k ≡ keys.Rs256 l
rsa_once k l n e =
    ap (λ (bs : List ℕ). keys.Rs256 (record { n = bs; e = k.e })) n ∙ ap (λ (bs : List ℕ). keys.Rs256 (record { n = l.n; e = bs })) e

key_once : (k l : CoseKey) → number_of (alg_of k) ≡ number_of (alg_of l) → Blob (x_of k) ≡ Blob (x_of l) → y_value k ≡ y_value l → k ≡ l
key_once (keys.Es256 x y) (keys.Es256 v w) a e f =
    let p = blob_once x v e in
    let q = blob_once y w f in
    rw (p, q) refl
key_once (keys.Es256 x y) (keys.EdDsa v) a e f = absurd cc
key_once (keys.Es256 x y) (keys.Rs256 l) a e f = absurd cc
key_once (keys.EdDsa x) (keys.Es256 v w) a e f = absurd cc
key_once (keys.EdDsa x) (keys.EdDsa v) a e f = ap keys.EdDsa (blob_once x v e)
key_once (keys.EdDsa x) (keys.Rs256 l) a e f = absurd cc
key_once (keys.Rs256 k) (keys.Es256 v w) a e f = absurd cc
key_once (keys.Rs256 k) (keys.EdDsa v) a e f = absurd cc
key_once (keys.Rs256 k) (keys.Rs256 l) a e f = rsa_once k l (blob_once k.n l.n e) (blob_once k.e l.e f)

algorithm_once : (m n : ℤ) → Int m ≡ Int n → m ≡ n
algorithm_once m n e = cc

pub number_once : (m n : ℕ) → Int (pos m) ≡ Int (pos n) → m ≡ n
number_once m n e = cc

pub one_credential : (p q : ℕ) (c d : Credential) → credential_row p c ≡ credential_row q d → (p ≡ q) × (c ≡ d)
one_credential p q c d e =
    let at : (i : ℕ) → column (credential_row p c) i ≡ column (credential_row q d) i = λ i. ap (λ r. column r i) e in
    let place = number_once p q (at 0) in
    let id = blob_once c.id d.id (at 2) in
    let user = blob_once c.user d.user (at 3) in
    let key = key_once c.key d.key (algorithm_once (number_of (alg_of c.key)) (number_of (alg_of d.key)) (at 4)) (at 5) (at 6) in
    let count = number_once c.sign_count d.sign_count (at 7) in
    let eligible = known_once c.eligible d.eligible (at 8) in
    let retired = truth_once c.retired d.retired (at 9) in
    let same : record { id = c.id; user = c.user; key = c.key; sign_count = c.sign_count; eligible = c.eligible; retired = c.retired } ≡ d =
    rw (id, user, key, count, eligible, retired) refl in
    (place, same)
