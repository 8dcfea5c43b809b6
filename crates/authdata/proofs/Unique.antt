-- Authenticator data in front of other bytes: what the parts are is determined.
use Rattle.std.proofs.Common.{◌≡◌, ◌+◌, ◌^◌, ◌<◌, ◌≤◌, ℕ, List, [], ◌∷◌, ◌++◌, Option, Some, None, length, is_some, sym, ◌∙◌, ap, refl, subst, arith}
use Rattle.std.proofs.Common.{take, drop, append_assoc}
use Rattle.std.specs.Prelude.{IfSome}
use Rattle.std.specs.Int.{w16, w32, to_be_bytes, from_be_bytes}
use Rattle.std.proofs.lemmas.List.{length-append, take_at, drop_at}
use Rattle.std.proofs.lemmas.Nat.{from_be_bytes-to_be_bytes_2, from_be_bytes-to_be_bytes_4}
use Rattle.ccbor.specs.Item.{map}
use Rattle.ccbor.proofs.Decoding.{one_reading}
use Rattle.cose.specs.declared.key.CoseKey.{CoseKey}
use Rattle.cose.specs.Keys.{item_of, IsKey, encoded_length}
use Rattle.cose.specs.declared.key.CoseKey.TheVariants as keys
use Rattle.cose.proofs.KeyLemmas.{key_canon, length-key, one_key}
use Rattle.authdata.specs.declared.profile.Profile.{Profile}
use Rattle.authdata.specs.declared.profile.Profile.TheVariants.{Strict, Open, Level3}
use Rattle.authdata.specs.Profiles.{max_id}
use Rattle.authdata.specs.Flags.{is_set, AT, ED}
use Rattle.authdata.specs.Layout.{AttestedCredential, AuthenticatorData, AuthOf, IsAttestedCredential, IsAuthenticatorData, attested_bytes}
use Rattle.authdata.specs.Layout.{IsExtensionMap, credential_bytes, data_bytes, extension_bytes, key_bytes}

pub most_id : (p : Profile) → max_id p ≤ 1023
most_id Strict = omega arith
most_id Open = omega arith
most_id Level3 = omega arith

-- lists of one length that begin two equal lists are equal, and so is what follows
pub same_parts : (a b c d : List ℕ) → a ++ b ≡ c ++ d → length a ≡ length c → (a ≡ c) × (b ≡ d)
same_parts a b c d e l = (
  sym (take_at a b (length a) refl) ∙ ap (take (length a)) e ∙ take_at c d (length a) (sym l),
  sym (drop_at a b (length a) refl) ∙ ap (drop (length a)) e ∙ drop_at c d (length a) (sym l),
)

-- no key's encoding begins another
pub same_key : (k l : CoseKey) (u v : List ℕ) → IsKey k → IsKey l → key_bytes k ++ u ≡ key_bytes l ++ v → (k ≡ l) × (u ≡ v)
same_key k l u v h g e =
    let same = one_reading (item_of k) (item_of l) (key_bytes k) (key_bytes l) u v (key_canon k h) (key_canon l g) e in
    (one_key k l (item_of k) (h, refl) (g, same.0), (same_parts (key_bytes k) u (key_bytes l) v e (ap length same.1)).1)

credential_parts : (c : AttestedCredential) (u : List ℕ)
    → credential_bytes c ++ u ≡ c.aaguid ++ (to_be_bytes w16 (length c.id) ++ (c.id ++ (key_bytes c.key ++ u)))
credential_parts c u =
    append_assoc c.aaguid (to_be_bytes w16 (length c.id) ++ (c.id ++ key_bytes c.key)) u
    ∙ ap (λ (l : List ℕ). c.aaguid ++ (to_be_bytes w16 (length c.id) ++ l)) (append_assoc c.id (key_bytes c.key) u)

credential_from : List ℕ → List ℕ → CoseKey → AttestedCredential
credential_from aaguid id key = record { aaguid = aaguid; id = id; key = key }

equal_credentials : (c d : AttestedCredential) → c.aaguid ≡ d.aaguid → c.id ≡ d.id → c.key ≡ d.key → c ≡ d
unfolding credential_from
equal_credentials c d e f g =
    ap (λ (x : List ℕ). credential_from x c.id c.key) e
    ∙ ap (λ (x : List ℕ). credential_from d.aaguid x c.key) f
    ∙ ap (λ (x : CoseKey). credential_from d.aaguid d.id x) g

same_credential : {p q : Profile} (c d : AttestedCredential) (u v : List ℕ) → IsAttestedCredential p c → IsAttestedCredential q d
    → credential_bytes c ++ u ≡ credential_bytes d ++ v → (c ≡ d) × (u ≡ v)
same_credential {p} {q} c d u v h g e =
    let parts = sym (credential_parts c u) ∙ e ∙ credential_parts d v in
    let a = same_parts c.aaguid _ d.aaguid _ parts (h.aaguid ∙ sym g.aaguid) in
    let l = same_parts (to_be_bytes w16 (length c.id)) (c.id ++ (key_bytes c.key ++ u)) (to_be_bytes w16 (length d.id))
    (d.id ++ (key_bytes d.key ++ v)) a.1 refl in
    let low : length c.id < 2 ^ 16 = omega (arith, h.id_high, most_id p) in
    let low' : length d.id < 2 ^ 16 = omega (arith, g.id_high, most_id q) in
    let len : length c.id ≡ length d.id = sym (from_be_bytes-to_be_bytes_2 (length c.id) low) ∙ ap (from_be_bytes w16) l.0
    ∙ from_be_bytes-to_be_bytes_2 (length d.id) low' in
    let i = same_parts c.id (key_bytes c.key ++ u) d.id (key_bytes d.key ++ v) l.1 len in
    let k = same_key c.key d.key u v h.key g.key i.1 in
    (equal_credentials c d a.0 i.0 k.0, k.1)

same_attested : (p q : Profile) (o r : Option AttestedCredential) (u v : List ℕ) → is_some o ≡ is_some r → IfSome o (IsAttestedCredential p)
    → IfSome r (IsAttestedCredential q) → attested_bytes o ++ u ≡ attested_bytes r ++ v → (o ≡ r) × (u ≡ v)
same_attested p q None None u v s h g e = (refl, e)
same_attested p q None (Some d) u v s h g e = absurd cc
same_attested p q (Some c) None u v s h g e = absurd cc
same_attested p q (Some c) (Some d) u v s h g e = let k = same_credential c d u v h g e in (ap Some k.0, k.1)

-- no map of extensions begins another
pub same_map : (a b u v : List ℕ) → IsExtensionMap a → IsExtensionMap b → a ++ u ≡ b ++ v → (a ≡ b) × (u ≡ v)
same_map a b u v h g e =
    let same = one_reading (map h.0) (map g.0) a b u v h.2 g.2 e in
    (same.1, (same_parts a u b v e (ap length same.1)).1)

same_extensions : (o r : Option (List ℕ)) (u v : List ℕ) → is_some o ≡ is_some r → IfSome o IsExtensionMap → IfSome r IsExtensionMap
    → extension_bytes o ++ u ≡ extension_bytes r ++ v → (o ≡ r) × (u ≡ v)
same_extensions None None u v s h g e = (refl, e)
same_extensions None (Some d) u v s h g e = absurd cc
same_extensions (Some c) None u v s h g e = absurd cc
same_extensions (Some c) (Some d) u v s h g e = let k = same_map c d u v h g e in (ap Some k.0, k.1)

data_parts : (a : AuthenticatorData) (u : List ℕ)
    → data_bytes a ++ u
    ≡ a.rp_id_hash ++ (a.flags ∷ (to_be_bytes w32 a.sign_count ++ (attested_bytes a.attested ++ (extension_bytes a.extensions ++ u))))
data_parts a u = simp append_assoc

data_from : List ℕ → ℕ → ℕ → Option AttestedCredential → Option (List ℕ) → AuthenticatorData
data_from hash flags count attested extensions =
    record { rp_id_hash = hash; flags = flags; sign_count = count; attested = attested; extensions = extensions }

equal_data : (a b : AuthenticatorData) → a.rp_id_hash ≡ b.rp_id_hash → a.flags ≡ b.flags → a.sign_count ≡ b.sign_count → a.attested ≡ b.attested
    → a.extensions ≡ b.extensions → a ≡ b
unfolding data_from
equal_data a b e f g h i =
    ap (λ (x : List ℕ). data_from x a.flags a.sign_count a.attested a.extensions) e
    ∙ ap (λ (x : ℕ). data_from b.rp_id_hash x a.sign_count a.attested a.extensions) f
    ∙ ap (λ (x : ℕ). data_from b.rp_id_hash b.flags x a.attested a.extensions) g
    ∙ ap (λ (x : Option AttestedCredential). data_from b.rp_id_hash b.flags b.sign_count x a.extensions) h
    ∙ ap (λ (x : Option (List ℕ)). data_from b.rp_id_hash b.flags b.sign_count b.attested x) i

-- what the front of the bytes determines: the credential, and what follows it
pub same_front : (p q : Profile) (o : Option AttestedCredential) (hash : List ℕ) (flags count : ℕ) (r u : List ℕ) (b : AuthenticatorData)
    → length hash ≡ 32 → count < 2 ^ 32 → is_set flags AT ≡ is_some o → IfSome o (IsAttestedCredential p) → IsAuthenticatorData q b
    → hash ++ (flags ∷ (to_be_bytes w32 count ++ (attested_bytes o ++ r))) ≡ data_bytes b ++ u
    → ((hash ≡ b.rp_id_hash) × (flags ≡ b.flags) × (count ≡ b.sign_count)) × (o ≡ b.attested) × (r ≡ extension_bytes b.extensions ++ u)
same_front p q o hash flags count r u b len low at is g e =
    let parts = e ∙ data_parts b u in
    let i = same_parts hash _ b.rp_id_hash _ parts (len ∙ sym g.rp_id_hash) in
    let same : flags ≡ b.flags = let j = i.1 in cc in
    let n = same_parts (to_be_bytes w32 count) (attested_bytes o ++ r) (to_be_bytes w32 b.sign_count)
    (attested_bytes b.attested ++ (extension_bytes b.extensions ++ u)) (ap (drop 1) i.1) refl in
    let number : count ≡ b.sign_count = sym (from_be_bytes-to_be_bytes_4 count low) ∙ ap (from_be_bytes w32) n.0
    ∙ from_be_bytes-to_be_bytes_4 b.sign_count g.sign_count in
    let some = sym at ∙ ap (λ (f : ℕ). is_set f AT) same ∙ g.attested_flag in
    let k = same_attested p q o b.attested r (extension_bytes b.extensions ++ u) some is g.attested n.1 in
    ((i.0, same, number), k.0, k.1)

same_data : {p q : Profile} (a b : AuthenticatorData) (u v : List ℕ) → IsAuthenticatorData p a → IsAuthenticatorData q b
    → data_bytes a ++ u ≡ data_bytes b ++ v → (a ≡ b) × (u ≡ v)
same_data {p} {q} a b u v h g e =
    let k = same_front p q a.attested a.rp_id_hash a.flags a.sign_count (extension_bytes a.extensions ++ u) v b h.rp_id_hash h.sign_count
    h.attested_flag h.attested g (sym (data_parts a u) ∙ e) in
    let some = sym h.extensions_flag ∙ ap (λ (f : ℕ). is_set f ED) k.0.1 ∙ g.extensions_flag in
    let m = same_extensions a.extensions b.extensions u v some h.extensions g.extensions k.2 in
    (equal_data a b k.0.0 k.0.1 k.0.2 k.1 m.0, m.1)

-- authenticator data in front of other bytes
pub one_front : (p q : Profile) (a b : AuthenticatorData) (x y u v : List ℕ) → AuthOf p a x → AuthOf q b y → x ++ u ≡ y ++ v
    → (a ≡ b) × (x ≡ y) × (u ≡ v)
one_front p q a b x y u v h g e =
    let k = same_data a b u v h.0 g.0 (sym (ap (λ (l : List ℕ). l ++ u) h.1) ∙ e ∙ ap (λ (l : List ℕ). l ++ v) g.1) in
    (k.0, h.1 ∙ ap data_bytes k.0 ∙ sym g.1, k.1)

pub one_value : (p q : Profile) (a b : AuthenticatorData) (bs : List ℕ) → AuthOf p a bs → AuthOf q b bs → a ≡ b
one_value p q a b bs h g = (one_front p q a b bs bs [] [] h g refl).0

-- ---- sizes

pub length-data : {p : Profile} (a : AuthenticatorData) → IsAuthenticatorData p a
    → length (data_bytes a) ≡ 37 + length (attested_bytes a.attested) + length (extension_bytes a.extensions)
length-data a h =
    let l = length-append a.rp_id_hash (a.flags ∷ (to_be_bytes w32 a.sign_count ++ (attested_bytes a.attested ++ extension_bytes a.extensions))) in
    let m = length-append (attested_bytes a.attested) (extension_bytes a.extensions) in
    omega (arith, l, m, h.rp_id_hash)

at_least_42 : (k : CoseKey) → IsKey k → 42 ≤ length (key_bytes k)
at_least_42 (keys.Es256 x y) h = omega (arith, length-key (keys.Es256 x y) h)
at_least_42 (keys.EdDsa x) h = omega (arith, length-key (keys.EdDsa x) h)
at_least_42 (keys.Rs256 k) h = omega (arith, length-key (keys.Rs256 k) h, h.0.0)

pub length-credential : {p : Profile} (c : AttestedCredential) → IsAttestedCredential p c
    → length (credential_bytes c) ≡ 18 + length c.id + length (key_bytes c.key)
length-credential c h =
    let l = length-append c.aaguid (to_be_bytes w16 (length c.id) ++ (c.id ++ key_bytes c.key)) in
    let m = length-append c.id (key_bytes c.key) in
    omega (arith, l, m, h.aaguid)

pub is_credential : {p : Profile} (a : AuthenticatorData) (c : AttestedCredential) → IsAuthenticatorData p a → a.attested ≡ Some c
    → IsAttestedCredential p c
is_credential {p} a c h e = subst (λ o. IfSome o (IsAttestedCredential p)) e h.attested

pub length-full : {p : Profile} (a : AuthenticatorData) (c : AttestedCredential) (bs : List ℕ) → AuthOf p a bs → a.attested ≡ Some c
    → length bs ≡ 55 + length c.id + length (key_bytes c.key) + length (extension_bytes a.extensions)
length-full a c bs h e =
    let m = ap length h.1 ∙ length-data a h.0 ∙ ap (λ o. 37 + length (attested_bytes o) + length (extension_bytes a.extensions)) e in
    omega (arith, length-credential c (is_credential a c h.0 e), m)

-- the strict profile has no extensions
none_behind : (a : AuthenticatorData) → IsAuthenticatorData Strict a → length (extension_bytes a.extensions) ≡ 0
none_behind a h = ap (λ o. length (extension_bytes o)) (h.no_extensions refl)

pub length-bare : (a : AuthenticatorData) (bs : List ℕ) → AuthOf Strict a bs → a.attested ≡ None → length bs ≡ 37
length-bare a bs h e =
    let m = ap length h.1 ∙ length-data a h.0 ∙ ap (λ o. 37 + length (attested_bytes o) + length (extension_bytes a.extensions)) e in
    omega (arith, m, none_behind a h.0)

pub length-exact : (a : AuthenticatorData) (c : AttestedCredential) (bs : List ℕ) → AuthOf Strict a bs → a.attested ≡ Some c
    → length bs ≡ 55 + length c.id + encoded_length c.key
length-exact a c bs h e =
    omega (arith, length-full a c bs h e, length-key c.key (is_credential a c h.0 e).key, none_behind a h.0)

pub length-low : (a : AuthenticatorData) (c : AttestedCredential) (bs : List ℕ) → AuthOf Strict a bs → a.attested ≡ Some c → 55 + length c.id + 42 ≤ length bs
length-low a c bs h e = omega (arith, length-full a c bs h e, at_least_42 c.key (is_credential a c h.0 e).key)

pub length-least : (a : AuthenticatorData) (c : AttestedCredential) (bs : List ℕ) → AuthOf Strict a bs → a.attested ≡ Some c → 55 + 1 + 42 ≤ length bs
length-least a c bs h e = omega (arith, length-low a c bs h e, (is_credential a c h.0 e).id_low)
