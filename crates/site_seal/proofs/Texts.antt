-- One text is of one session.
use Rattle.std.proofs.Common.{◌≡◌, ◌<◌, ◌^◌, ◌++◌, ◌∷◌, [], ℕ, List, Bool, true, false, Option, Some, None, Result, Ok, Err, length, map, option_map, drop, refl, sym, ap, ◌∙◌, arith}
use Rattle.std.specs.Prelude.{IfNone, IfOk, IfSome}
use Rattle.std.specs.Int.{w64, from_be_bytes, to_be_bytes}
use Rattle.std.specs.List.{AllByRecursion, concat, list_any}
use Rattle.std.proofs.lemmas.Nat.{from_be_bytes-to_be_bytes_8}
use Rattle.sha2.proofs.Facts256.{length-sha256}
use Rattle.verification.specs.Records.{ExpectedRegistration, ExpectedSignIn}
use Rattle.cose.specs.declared.key.Alg.{Alg}
use Rattle.std.proofs.lemmas.List.{length-append, length-map}
use Rattle.site_seal.specs.Hmac.{hmac_sha256}
use Rattle.site_seal.specs.Seal.{Session, Ceremony, SealedSignIn, registration, sign_in, IsSession, IsHash, IsRegistration, IsSealedSignIn, IsSignIn}
use Rattle.site_seal.specs.Seal.{flag, is_es256, is_ed_dsa, is_rs256, id_hash, registration_bytes, sealed_sign_in, sealed_text, sign_in_bytes, spelled, text_of, user_bytes, user_hash}
use Rattle.site_seal.proofs.Bytes.{joined_same, hashes_same}

pub length-hmac_sha256 : (key message : List ℕ) → length (hmac_sha256 key message) ≡ 32
unfolding hmac_sha256
length-hmac_sha256 key message = length-sha256 _

-- two texts are the same part by part
pub same_parts : (k l b d : ℕ) (c e x y : List ℕ) → length c ≡ 32 → length e ≡ 32 → text_of k b c x ≡ text_of l d e y
    → (k ≡ l) × (to_be_bytes w64 b ≡ to_be_bytes w64 d) × (c ≡ e) × (x ≡ y)
same_parts k l b d c e x y p q same =
    let ends = joined_same (to_be_bytes w64 b) (to_be_bytes w64 d) (c ++ x) (e ++ y) refl (cc) in
    let rest = joined_same c e x y (p ∙ sym q) ends.1 in
    (cc, ends.0, rest.0, rest.1)

same_second : (b d : ℕ) → b < 2 ^ 64 → d < 2 ^ 64 → to_be_bytes w64 b ≡ to_be_bytes w64 d → b ≡ d
same_second b d p q same = sym (from_be_bytes-to_be_bytes_8 b p) ∙ ap (λ (l : List ℕ). from_be_bytes w64 l) same ∙ from_be_bytes-to_be_bytes_8 d q

pub same_flag : (a b : Bool) → flag a ≡ flag b → a ≡ b
same_flag true true same = refl
same_flag true false same = absurd cc
same_flag false true same = absurd cc
same_flag false false same = refl

pub same_user : (u v : Option (List ℕ)) (x y : List ℕ) → IfSome u IsHash → IfSome v IsHash → user_bytes u ++ x ≡ user_bytes v ++ y → (u ≡ v) × (x ≡ y)
same_user None None x y p q same = (refl, cc)
same_user None (Some h) x y p q same = absurd cc
same_user (Some g) None x y p q same = absurd cc
same_user (Some g) (Some h) x y p q same =
    let parts = joined_same g h x y (p ∙ sym q) (cc) in
    (ap Some parts.0, parts.1)

abbrev registration_with : List ℕ → List Alg → Bool → List ℕ → Bool → Bool → ExpectedRegistration
registration_with user algorithms uv challenge conditional attestation = record {
  user = user;
  algorithms = algorithms;
  uv = uv;
  challenge = challenge;
  conditional = conditional;
  attestation = attestation;
}

abbrev sign_in_with : Option (List ℕ) → List (List ℕ) → Bool → List ℕ → SealedSignIn
sign_in_with user allow uv challenge = record { user = user; allow = allow; uv = uv; challenge = challenge }

abbrev session_with : ℕ → Ceremony → Session
session_with ends ceremony = record { ends = ends; ceremony = ceremony }

same_registration : (e f : ExpectedRegistration) → IsRegistration e → IsRegistration f → e.challenge ≡ f.challenge
    → registration_bytes e ≡ registration_bytes f → e ≡ f
same_registration e f p q challenge same =
    let uv = same_flag e.uv f.uv cc in
    let conditional = same_flag e.conditional f.conditional cc in
    let attestation = same_flag e.attestation f.attestation cc in
    let es256 = same_flag (list_any is_es256 e.algorithms) (list_any is_es256 f.algorithms) cc in
    let ed_dsa = same_flag (list_any is_ed_dsa e.algorithms) (list_any is_ed_dsa f.algorithms) cc in
    let rs256 = same_flag (list_any is_rs256 e.algorithms) (list_any is_rs256 f.algorithms) cc in
    let algorithms : e.algorithms ≡ f.algorithms = cc (p.algorithms, q.algorithms) in
    let user : e.user ≡ f.user = cc in
    let whole : registration_with e.user e.algorithms e.uv e.challenge e.conditional e.attestation
    ≡ registration_with f.user f.algorithms f.uv f.challenge f.conditional f.attestation = cc in
    whole

same_sign_in : (s t : SealedSignIn) → IsSealedSignIn s → IsSealedSignIn t → s.challenge ≡ t.challenge → sign_in_bytes s ≡ sign_in_bytes t → s ≡ t
same_sign_in s t p q challenge same =
    let uv = same_flag s.uv t.uv cc in
    let user = same_user s.user t.user (length s.allow ∷ concat s.allow) (length t.allow ∷ concat t.allow) p.user q.user cc in
    let allow = hashes_same s.allow t.allow p.allow q.allow cc in
    let whole : sign_in_with s.user s.allow s.uv s.challenge ≡ sign_in_with t.user t.allow t.uv t.challenge = cc (user.0) in
    whole

same_session : (b d : ℕ) (x y : Ceremony) → IsSession (record { ends = b; ceremony = x }) → IsSession (record { ends = d; ceremony = y })
    → spelled (record { ends = b; ceremony = x }) ≡ spelled (record { ends = d; ceremony = y }) → (b ≡ d) × (x ≡ y)
same_session b d (registration e) (registration f) p q same =
    let parts = same_parts 1 1 b d e.challenge f.challenge (registration_bytes e) (registration_bytes f) p.1.challenge q.1.challenge same in
    (same_second b d p.0 q.0 parts.1, ap registration (same_registration e f p.1 q.1 parts.2 parts.3))
same_session b d (registration e) (sign_in t) p q same = absurd cc
same_session b d (sign_in s) (registration f) p q same = absurd cc
same_session b d (sign_in s) (sign_in t) p q same =
    let parts = same_parts 2 2 b d s.challenge t.challenge (sign_in_bytes s) (sign_in_bytes t) p.1.challenge q.1.challenge same in
    (same_second b d p.0 q.0 parts.1, ap sign_in (same_sign_in s t p.1 q.1 parts.2 parts.3))

pub same_spelled : (s t : Session) → IsSession s → IsSession t → spelled s ≡ spelled t → s ≡ t
same_spelled s t p q same =
    let both = same_session s.ends t.ends s.ceremony t.ceremony p q same in
    let whole : session_with s.ends s.ceremony ≡ session_with t.ends t.ceremony = cc (both.0, both.1) in
    whole

-- their lengths distinguish the text and its hash
pub same_sealed : (x y g h : List ℕ) → length g ≡ 32 → length h ≡ 32 → x ++ g ≡ y ++ h → (x ≡ y) × (g ≡ h)
same_sealed x y g h p q same =
    let long : length x ≡ length y = omega (arith, p, q, length-append x g, length-append y h, ap length same) in
    joined_same x y g h long same

pub one_text_of : (key rp_id_hash other_key other_rp_id_hash : List ℕ) (s t : Session) → IsSession s → IsSession t
    → sealed_text key rp_id_hash s ≡ sealed_text other_key other_rp_id_hash t → s ≡ t
one_text_of key rp other_key other_rp s t p q same =
    same_spelled s t p q (same_sealed (spelled s) (spelled t) _ _ (length-hmac_sha256 key _) (length-hmac_sha256 other_key _) same).0

-- what no registration spells after its challenge, no session spells after it
pub no_registration : (text c rest : List ℕ) (b : ℕ) → text ≡ text_of 1 b c rest → length c ≡ 32
    → ((e : ExpectedRegistration) → IsRegistration e → rest ≡ registration_bytes e → ⊥) → (s : Session) → IsSession s → text ≡ spelled s → ⊥
no_registration text c rest b is long none s p same = none_of s.ceremony p same where
  none_of : (x : Ceremony) → IsSession (record { ends = s.ends; ceremony = x }) → text ≡ spelled (record { ends = s.ends; ceremony = x }) → ⊥
  none_of (registration e) q same =
      none e q.1 (same_parts 1 1 b s.ends c e.challenge rest (registration_bytes e) long q.1.challenge (sym is ∙ same)).3
  none_of (sign_in t) q same = absurd cc

pub no_sign_in : (text c rest : List ℕ) (b : ℕ) → text ≡ text_of 2 b c rest → length c ≡ 32
    → ((t : SealedSignIn) → IsSealedSignIn t → rest ≡ sign_in_bytes t → ⊥) → (s : Session) → IsSession s → text ≡ spelled s → ⊥
no_sign_in text c rest b is long none s p same = none_of s.ceremony p same where
  none_of : (x : Ceremony) → IsSession (record { ends = s.ends; ceremony = x }) → text ≡ spelled (record { ends = s.ends; ceremony = x }) → ⊥
  none_of (registration e) q same = absurd cc
  none_of (sign_in t) q same =
      none t q.1 (same_parts 2 2 b s.ends c t.challenge rest (sign_in_bytes t) long q.1.challenge (sym is ∙ same)).3

-- where the credentials' count stands
pub behind_user : (rest behind : List ℕ) (user : Option (List ℕ)) → drop 1 rest ≡ user_bytes user ++ behind → IfSome user IsHash
    → (s : SealedSignIn) → IsSealedSignIn s → rest ≡ sign_in_bytes s → behind ≡ length s.allow ∷ concat s.allow
behind_user rest behind user found hash s is same =
    let tail : drop 1 rest ≡ user_bytes s.user ++ (length s.allow ∷ concat s.allow) = ap (λ (l : List ℕ). drop 1 l) same in
    (same_user user s.user behind (length s.allow ∷ concat s.allow) hash is.user (sym found ∙ tail)).1

pub none_from : {X E : Type 0} (r : Result (Option X) E) (P Q : Type 0) → (P → Q) → IfOk r (λ o. IfNone o P) → IfOk r (λ o. IfNone o Q)
none_from (Ok None) P Q f p = f p
none_from (Ok (Some x)) P Q f p = tt
none_from (Err e) P Q f p = tt

all_hashes : (key challenge : List ℕ) (ids : List (List ℕ)) → AllByRecursion IsHash (map (id_hash key challenge) ids)
all_hashes key challenge [] = tt
all_hashes key challenge (id ∷ ids) = (length-hmac_sha256 key _, all_hashes key challenge ids)

user_hashed : (key challenge : List ℕ) (user : Option (List ℕ)) → IfSome (option_map (user_hash key challenge) user) IsHash
user_hashed key challenge None = tt
user_hashed key challenge (Some handle) = length-hmac_sha256 key _

-- what is within the limits is within them sealed
pub sealed_within : (key : List ℕ) (e : ExpectedSignIn) → IsSignIn e → length e.challenge ≡ 32 → IsSealedSignIn (sealed_sign_in key e)
sealed_within key e is whole = record {
  user = user_hashed key e.challenge e.user;
  count = rw length-map (is.count);
  allow = all_hashes key e.challenge e.allow;
  challenge = whole;
}
