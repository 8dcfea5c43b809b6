-- What each outcome comes of.
use Rattle.std.proofs.Common.{◌≡◌, ◌⊎◌, ◌≤◌, ◌<◌, ℕ, zero, suc, List, [], ◌∷◌, ◌++◌, length, Bool, true, false, cond, eqb, leb, ltb, Some, None, Result, Ok, Err, refl, sym, ap, subst, ◌∙◌, inl, inr, arith}
use Rattle.std.specs.Prelude.{Option, ℤ, pos, negsuc, ◌&&◌, replicate, drop}
use Rattle.std.specs.Str.{bytes_eq}
use Rattle.std.proofs.lemmas.Bool.{eq-eqb, eqb-true, eqb-false, leb-true, leb-false, ltb-false}
use Rattle.std.proofs.lemmas.Option.{same_Some}
use Rattle.std.proofs.lemmas.Slice.Eq.{bytes_eq-Decides}
use Rattle.sha2.specs.Sha256.{sha256}
use Rattle.pin_client_messages.specs.Commands.{PublicPoint}
use Rattle.pin_client_messages.specs.Replies.{IsPoint, ToldKey}
use Rattle.pin_protocols.specs.declared.protocol.Protocol.{Protocol}
use Rattle.pin_protocols.specs.declared.protocol.Protocol.TheVariants as protocols
use Rattle.pin_protocols.specs.Asks.{Answered, Asked, answer_of, answer_size}
use Rattle.pin_protocols.specs.Flows.{Scope}
use Rattle.pin_protocols.specs.Pins.{code_points, pin_hash}
use Rattle.pin_protocols.specs.Protocols.{Authenticates, IsProduct, IsSecret, SharedSecret, aes_info, authentication, decryption, derivation, encryption, hmac_info, number, product_ask, shortened}
use Rattle.key_pin.specs.declared.state.KeyPair.{KeyPair}
use Rattle.key_pin.specs.declared.words.PinWords.{PinWords}
use Rattle.key_pin.specs.Brought.{BringsHash, BringsNewPin, BringsParam, ComesOf, IsChange, IsFirst, IsGiven, IsPair, IsScoped, IsShared, IsTried, with_iv}
use Rattle.key_pin.specs.Host.{Ending, asks, refused, ◌>>=◌, answer, sized_answer, product, secret, decrypted, encrypted, verified}
use Rattle.key_pin.specs.Outcomes.{Outcome, Verdict, retries_told, key_told, pin_set, pin_refused, token_told, mismatch}
use Rattle.key_pin.specs.Pins.{is_allowed, kept_hash, new_hash, sealed_size, unpadded, without_zero}
use Rattle.key_pin.specs.Query.{Query}
use Rattle.key_pin.specs.State.{PinState, pair_of, pair_or, with_pair}
use Rattle.key_pin.specs.Steps.{Try, allowed_permissions, change_begun, changed, client_point, counting, is_agreement_key, is_negsuc, is_pos, is_right, judged, judged_by, key_agreement, known, known_protocol, needed, pin_token_begun, replaced, set_pin, shared, token, token_begun, token_given, tried_pin, try_begun, unset, verdict, without_scope}
use Rattle.key_pin.proofs.Binds.{bind_ok}
use Rattle.key_pin.proofs.Host.{answered_is}
use Rattle.key_pin.proofs.Free.{Free, Giving, giving_err, giving_if, giving_ok, giving_then, tried_gives, unset_gives}

abbrev done : {A : Type 0} → A → Result A Ending
done x = Ok x

-- ---- a step that goes on

ok_same : {A : Type 0} (x y : A) → done x ≡ done y → x ≡ y
ok_same x y e = cc

pub if_done : {A : Type 0} (b : Bool) (e : Ending) (r : Result A Ending) (y : A) → cond b r (Err e) ≡ Ok y → (b ≡ true) × (r ≡ Ok y)
if_done true e r y h = (refl, h)
if_done false e r y h = absurd cc

pub both : (a b : Bool) → (a && b) ≡ true → (a ≡ true) × (b ≡ true)
both true b e = (refl, e)
both false b e = absurd cc

pub needed_is : {A : Type 0} (o : Option A) (x : A) → needed o ≡ Ok x → o ≡ Some x
needed_is {A = A} (Some a) x e = ap (λ (y : A). Some y) (ok_same a x e)
needed_is None x e = absurd cc

known_by : (n : ℕ) (a b : Bool) (p : Protocol) → eqb n 1 ≡ a → eqb n 2 ≡ b → known (cond a (Some protocols.One) (cond b (Some protocols.Two) None)) ≡ Ok p
    → n ≡ number p
known_by n true b p is other e = subst (λ (q : Protocol). n ≡ number q) (ok_same protocols.One p e) (eqb-true n 1 is)
known_by n false true p other is e = subst (λ (q : Protocol). n ≡ number q) (ok_same protocols.Two p e) (eqb-true n 2 is)
known_by n false false p other another e = absurd cc

pub known_is : (n : ℕ) (p : Protocol) → known_protocol n ≡ Ok p → n ≡ number p
known_is n p e = known_by n (eqb n 1) (eqb n 2) p refl refl e

-- ---- the host's answers

sized_is : (size status : ℕ) (a : Asked) (o : Option (List ℕ)) (b : List ℕ) → sized_answer size status a o ≡ Ok b → (o ≡ Some b) × (length b ≡ size)
sized_is size status a None b e = absurd cc
sized_is size status a (Some x) b e =
    let k = if_done (eqb (length x) size) (refused status) (Ok x) b e in
    let same : x ≡ b = ok_same x b k.1 in
    (ap (λ (y : List ℕ). Some y) same, subst (λ (y : List ℕ). length y ≡ size) same (eqb-true (length x) size k.0))

answer_is : (es : List (Asked × List ℕ)) (a : Asked) (b : List ℕ) → answer es a ≡ Ok b → Answered es a b
unfolding answer
answer_is es a b e = sized_is (answer_size a.operation (length a.text)) 0x7f a (answer_of es a) b e

product_is : (es : List (Asked × List ℕ)) (key : List ℕ) (peer : PublicPoint) (z : List ℕ) → product es key peer ≡ Ok z → IsProduct es key peer z
unfolding product
product_is es key peer z e =
    let b = bind_ok (sized_answer 96 0x02 (product_ask key peer) (answer_of es (product_ask key peer))) _ z e in
    (b.0, sized_is 96 0x02 (product_ask key peer) (answer_of es (product_ask key peer)) b.0 b.1, sym (ok_same _ z b.2))

secret_is : (es : List (Asked × List ℕ)) (protocol : Protocol) (z : List ℕ) (s : SharedSecret) → secret es protocol z ≡ Ok s → IsSecret es protocol z s
unfolding secret
secret_is es protocols.One z s e =
    let same = ok_same (record { hmac = sha256 z; aes = sha256 z }) s e in
    (ap (λ (x : SharedSecret). x.hmac) (sym same), ap (λ (x : SharedSecret). x.aes) (sym same))
secret_is es protocols.Two z s e =
    let h = bind_ok (answer es (derivation z hmac_info)) _ s e in
    let a = bind_ok (answer es (derivation z aes_info)) _ s h.2 in
    let same = ok_same (record { hmac = h.0; aes = a.0 }) s a.2 in (
      subst (λ (x : SharedSecret). Answered es (derivation z hmac_info) x.hmac) same (answer_is es (derivation z hmac_info) h.0 h.1),
      subst (λ (x : SharedSecret). Answered es (derivation z aes_info) x.aes) same (answer_is es (derivation z aes_info) a.0 a.1),
    )

pub verified_is : (es : List (Asked × List ℕ)) (protocol : Protocol) (key message param : List ℕ) → verified es protocol key message param ≡ Ok tt
    → Authenticates es protocol key message param
unfolding verified
verified_is es protocol key message param e =
    let t = bind_ok (answer es (authentication key message)) _ tt e in
    let k = if_done (bytes_eq (shortened protocol t.0) param) (refused 0x33) (Ok tt) tt t.2 in
    (t.0, answer_is es (authentication key message) t.0 t.1, sym ((bytes_eq-Decides (shortened protocol t.0) param).0 k.0))

-- ---- the shared secret

pos_is : (n : ℕ) (z : ℤ) → is_pos n z ≡ true → z ≡ pos n
pos_is n (pos m) e = ap pos (eqb-true m n e)
pos_is n (negsuc m) e = absurd cc

negsuc_is : (n : ℕ) (z : ℤ) → is_negsuc n z ≡ true → z ≡ negsuc n
negsuc_is n (pos m) e = absurd cc
negsuc_is n (negsuc m) e = ap negsuc (eqb-true m n e)

point_is : (k : ToldKey) (p : PublicPoint) → client_point k ≡ Ok p → IsPoint k × (length k.x ≡ 32) × (length k.y ≡ 32) × (record { x = k.x; y = k.y } ≡ p)
unfolding client_point
point_is k p e =
    let c = if_done (is_agreement_key k) (refused 0x02) (Ok (record { x = k.x; y = k.y })) p e in
    let parts = both (is_pos 2 k.kty && is_negsuc 24 k.alg && is_pos 1 k.crv) (eqb (length k.x) 32 && eqb (length k.y) 32) c.0 in
    let sizes = both (eqb (length k.x) 32) (eqb (length k.y) 32) parts.1 in
    let kinds = both (is_pos 2 k.kty && is_negsuc 24 k.alg) (is_pos 1 k.crv) parts.0 in
    let others = both (is_pos 2 k.kty) (is_negsuc 24 k.alg) kinds.0 in (
      (pos_is 2 k.kty others.0, negsuc_is 24 k.alg others.1, pos_is 1 k.crv kinds.1),
      eqb-true (length k.x) 32 sizes.0,
      eqb-true (length k.y) 32 sizes.1,
      ok_same _ p c.1,
    )

is_pair : (words : PinWords) (o : Option KeyPair) → IsPair words o (pair_or words o)
is_pair words None = refl
is_pair words (Some pair) = refl

sealed_is : (protocol : Protocol) (n : ℕ) → sealed_size protocol n ≡ with_iv protocol n
sealed_is protocols.One n = refl
sealed_is protocols.Two n = refl

shared_is : (es : List (Asked × List ℕ)) (pair : KeyPair) (q : Query) (n : ℕ) (protocol : Protocol) (told : ToldKey) (s : SharedSecret) → needed q.protocol ≡ Ok n
    → known_protocol n ≡ Ok protocol → needed q.key ≡ Ok told → shared es pair protocol told ≡ Ok s → IsShared es pair q protocol s
unfolding shared
shared_is es pair q n protocol told s asked is brought e =
    let p = bind_ok (client_point told) _ s e in
    let z = bind_ok (product es pair.key p.0) _ s p.2 in
    let facts = point_is told p.0 p.1 in
    record {
      protocol_is = subst (λ (m : ℕ). q.protocol ≡ Some m) (known_is n protocol is) (needed_is q.protocol n asked);
      key = told;
      brought = needed_is q.key told brought;
      point = facts.0;
      x = facts.1;
      y = facts.2;
      z = z.0;
      product = subst (λ (point : PublicPoint). IsProduct es pair.key point z.0) (sym facts.3) (product_is es pair.key p.0 z.0 z.1);
      agreed = secret_is es protocol z.0 s z.2;
    }

-- ---- a new PIN

zeros_before : (b : ℕ) (u bs : List ℕ) (n : ℕ) → bs ≡ u ++ replicate n 0 → (m : ℕ) × (b ∷ bs ≡ without_zero b u ++ replicate m 0)
zeros_before zero [] bs n e = (suc n, ap (λ (l : List ℕ). 0 ∷ l) e)
zeros_before zero (y ∷ ys) bs n e = (n, ap (λ (l : List ℕ). 0 ∷ l) e)
zeros_before (suc b) [] bs n e = (n, ap (λ (l : List ℕ). suc b ∷ l) e)
zeros_before (suc b) (y ∷ ys) bs n e = (n, ap (λ (l : List ℕ). suc b ∷ l) e)

padding : (xs : List ℕ) → (n : ℕ) × (xs ≡ unpadded xs ++ replicate n 0)
padding [] = (0, refl)
padding (b ∷ bs) = let rest = padding bs in zeros_before b (unpadded bs) bs rest.0 rest.1

new_pin_is : (es : List (Asked × List ℕ)) (q : Query) (protocol : Protocol) (s : SharedSecret) (sealed hash : List ℕ) → q.new_pin ≡ Some sealed
    → new_hash es protocol s sealed ≡ Ok hash → (b : BringsNewPin es q protocol s hash) × (b.sealed ≡ sealed)
unfolding new_hash
new_pin_is es q protocol s sealed hash brought e =
    let k = if_done (eqb (length sealed) (sealed_size protocol 64)) (refused 0x02) (decrypted es protocol s sealed >>= (λ padded. kept_hash (unpadded padded))) hash e in
    let d = bind_ok (decrypted es protocol s sealed) _ hash k.1 in
    let zeros = padding d.0 in
    let allowed = if_done (is_allowed (unpadded d.0)) (refused 0x37) (Ok (pin_hash (unpadded d.0))) hash d.2 in
    let sizes = both (leb 4 (code_points (unpadded d.0))) (leb (length (unpadded d.0)) 63) allowed.0 in (
      record {
        sealed = sealed;
        brought = brought;
        size = eqb-true (length sealed) (sealed_size protocol 64) k.0 ∙ sealed_is protocol 64;
        pin = unpadded d.0;
        zeros = zeros.0;
        decrypted = subst (λ (text : List ℕ). Answered es (decryption protocol s.aes sealed) text) zeros.1 (answer_is es (decryption protocol s.aes sealed) d.0 d.1);
        points = leb-true 4 (code_points (unpadded d.0)) sizes.0;
        bytes = leb-true (length (unpadded d.0)) 63 sizes.1;
        hash_is = sym (ok_same _ hash allowed.1);
      },
      refl,
    )

-- ---- a try

right_if : (b : Bool) (r : Result Bool Ending) → cond b r (Ok false) ≡ Ok true → (b ≡ true) × (r ≡ Ok true)
right_if true r e = (refl, e)
right_if false r e = absurd cc

right_is : (es : List (Asked × List ℕ)) (t : Try) → is_right es t ≡ Ok true
    → (length t.pin_hash ≡ with_iv t.protocol 16) × Answered es (decryption t.protocol t.secret.aes t.pin_hash) t.pin
unfolding is_right
right_is es t e =
    let k = right_if (eqb (length t.pin_hash) (sealed_size t.protocol 16)) (decrypted es t.protocol t.secret t.pin_hash >>= (λ hash. Ok (bytes_eq hash t.pin))) e in
    let h = bind_ok (decrypted es t.protocol t.secret t.pin_hash) _ true k.1 in
    let same : h.0 ≡ t.pin = (bytes_eq-Decides h.0 t.pin).0 (ok_same _ true h.2) in (
      eqb-true (length t.pin_hash) (sealed_size t.protocol 16) k.0 ∙ sealed_is t.protocol 16,
      subst (λ (hash : List ℕ). Answered es (decryption t.protocol t.secret.aes t.pin_hash) hash) same
          (answer_is es (decryption t.protocol t.secret.aes t.pin_hash) h.0 h.1),
    )

right_then : (es : List (Asked × List ℕ)) (t : Try) → length t.pin_hash ≡ sealed_size t.protocol 16
    → Answered es (decryption t.protocol t.secret.aes t.pin_hash) t.pin → is_right es t ≡ Ok true
unfolding is_right
right_then es t size d =
    rw (
      eq-eqb (length t.pin_hash) (sealed_size t.protocol 16) size,
      answered_is es (decryption t.protocol t.secret.aes t.pin_hash) t.pin d,
      (bytes_eq-Decides t.pin t.pin).1 refl,
    ) refl

-- ---- there is one secret

one_pair : (words : PinWords) (o : Option KeyPair) (pair : KeyPair) → IsPair words o pair → pair ≡ pair_or words o
one_pair words None pair is = is
one_pair words (Some own) pair is = is

pub one_number : (p q : Protocol) → number p ≡ number q → p ≡ q
one_number protocols.One protocols.One e = refl
one_number protocols.One protocols.Two e = absurd cc
one_number protocols.Two protocols.One e = absurd cc
one_number protocols.Two protocols.Two e = refl

one_answer : (es : List (Asked × List ℕ)) (a : Asked) (x y : List ℕ) → Answered es a x → Answered es a y → x ≡ y
one_answer es a x y h k = same_Some x y (sym h.0 ∙ k.0)

one_product : (es : List (Asked × List ℕ)) (key : List ℕ) (peer : PublicPoint) (z w : List ℕ) → IsProduct es key peer z → IsProduct es key peer w → z ≡ w
one_product es key peer z w h k = h.2 ∙ ap (λ (x : List ℕ). drop 32 (drop 32 x)) (one_answer es (product_ask key peer) h.0 k.0 h.1 k.1) ∙ sym k.2

both_keys : (s t : SharedSecret) → s.hmac ≡ t.hmac → s.aes ≡ t.aes → s ≡ t
both_keys s t h a = ap (λ (x : List ℕ). made x s.aes) h ∙ ap (λ (x : List ℕ). made t.hmac x) a where
  made : List ℕ → List ℕ → SharedSecret
  made hmac aes = record { hmac = hmac; aes = aes }

one_secret : (es : List (Asked × List ℕ)) (protocol : Protocol) (z : List ℕ) (s t : SharedSecret) → IsSecret es protocol z s → IsSecret es protocol z t → s ≡ t
one_secret es protocols.One z s t h k = both_keys s t (h.0 ∙ sym k.0) (h.1 ∙ sym k.1)
one_secret es protocols.Two z s t h k =
    both_keys s t (one_answer es (derivation z hmac_info) s.hmac t.hmac h.0 k.0) (one_answer es (derivation z aes_info) s.aes t.aes h.1 k.1)

one_shared : (es : List (Asked × List ℕ)) (pair other : KeyPair) (q : Query) (a b : Protocol) (s t : SharedSecret) → other ≡ pair
    → IsShared es pair q a s → IsShared es other q b t → (b ≡ a) × (t ≡ s)
one_shared es pair other q a b s t same h k =
    let protocols : b ≡ a = one_number b a (same_Some (number b) (number a) (sym k.protocol_is ∙ h.protocol_is)) in
    let keys : k.key ≡ h.key = same_Some k.key h.key (sym k.brought ∙ h.brought) in
    let here : IsProduct es pair.key (record { x = h.key.x; y = h.key.y }) k.z =
    subst (λ (p : KeyPair). IsProduct es p.key (record { x = h.key.x; y = h.key.y }) k.z) same
    (subst (λ (key : ToldKey). IsProduct es other.key (record { x = key.x; y = key.y }) k.z) keys k.product) in
    let zs : k.z ≡ h.z = one_product es pair.key (record { x = h.key.x; y = h.key.y }) k.z h.z here h.product in
    let agreed : IsSecret es a h.z t = subst (λ (z : List ℕ). IsSecret es a z t) zs (subst (λ (p : Protocol). IsSecret es p k.z t) protocols k.agreed) in
    (protocols, one_secret es a h.z t s agreed h.agreed)

abbrev allowed_if : Bool → Bool → Result (Unit {0}) Ending
allowed_if a b = cond a (Err (refused 0x02)) (cond b (Err (refused 0x40)) (Ok tt))

allowed_by : (n : ℕ) (a b : Bool) → eqb n 0 ≡ a → ltb 3 n ≡ b → allowed_if a b ≡ Ok tt → (0 < n) × (n ≤ 3)
allowed_by n true b zero_is other e = absurd cc
allowed_by n false true some other e = absurd cc
allowed_by n false false some few e =
    let not_zero : n ≡ 0 → ⊥ = eqb-false n 0 some in
    let le : n ≤ 3 = ltb-false 3 n few in (omega arith, le)

module _ (es : List (Asked × List ℕ)) (words : PinWords) (q : Query) (s : PinState) where
  abbrev own : KeyPair
  own = pair_of words s

  abbrev now : PinState
  now = with_pair words s

  record Begun (t : Try) : Type 0 where
    pub shared : IsShared es own q t.protocol t.secret
    pub brought : q.pin_hash ≡ Some t.pin_hash
    pub kept : s.pin ≡ Some t.pin
    pub free : Free s

  begun_by : (n : ℕ) (protocol : Protocol) (told : ToldKey) (hash pin : List ℕ) (secret : SharedSecret) → needed q.protocol ≡ Ok n → known_protocol n ≡ Ok protocol
      → needed q.key ≡ Ok told → needed q.pin_hash ≡ Ok hash → tried_pin now ≡ Ok pin → shared es own protocol told ≡ Ok secret
      → Begun (record { protocol = protocol; secret = secret; pin_hash = hash; pin = pin })
  begun_by n protocol told hash pin secret asked known key brought tried agreed =
      let f = (tried_gives now).so pin tried in
      record {
        shared = shared_is es own q n protocol told secret asked known key agreed;
        brought = needed_is q.pin_hash hash brought;
        kept = f.0;
        free = f.1;
      }

  abbrev tried_by : (t : Try) → Begun t → is_right es t ≡ Ok true → IsTried es words q s
  tried_by t b right =
      let r = right_is es t right in
      record {
        pair = own;
        is_pair = is_pair words s.pair;
        protocol = t.protocol;
        secret = t.secret;
        shared = b.shared;
        hash = t.pin;
        kept = b.kept;
        brings = record { sealed = t.pin_hash; brought = b.brought; size = r.0; decrypted = r.1 };
        free = b.free;
      }

  -- by no other answers of the host would the PIN be right
  mistaken : (t : Try) → Begun t → is_right es t ≡ Ok false → IsTried es words q s → ⊥
  mistaken t b wrong x =
      let one = one_shared es own x.pair q t.protocol x.protocol t.secret x.secret (one_pair words s.pair x.pair x.is_pair) b.shared x.shared in
      let sealed : x.brings.sealed ≡ t.pin_hash = same_Some x.brings.sealed t.pin_hash (sym x.brings.brought ∙ b.brought) in
      let kept : x.hash ≡ t.pin = same_Some x.hash t.pin (sym x.kept ∙ b.kept) in
      let hash : Answered es (decryption x.protocol x.secret.aes x.brings.sealed) t.pin =
      subst (λ (h : List ℕ). Answered es (decryption x.protocol x.secret.aes x.brings.sealed) h) kept x.brings.decrypted in
      let by_sealed : Answered es (decryption x.protocol x.secret.aes t.pin_hash) t.pin =
      subst (λ (bytes : List ℕ). Answered es (decryption x.protocol x.secret.aes bytes) t.pin) sealed hash in
      let by_secret : Answered es (decryption x.protocol t.secret.aes t.pin_hash) t.pin =
      subst (λ (z : SharedSecret). Answered es (decryption x.protocol z.aes t.pin_hash) t.pin) one.1 by_sealed in
      let here : Answered es (decryption t.protocol t.secret.aes t.pin_hash) t.pin =
      subst (λ (p : Protocol). Answered es (decryption p t.secret.aes t.pin_hash) t.pin) one.0 by_secret in
      let size : length t.pin_hash ≡ with_iv t.protocol 16 =
      subst (λ (p : Protocol). length t.pin_hash ≡ with_iv p 16) one.0 (ap length (sym sealed) ∙ x.brings.size) in
      let right = right_then es t (size ∙ sym (sealed_is t.protocol 16)) here in
      let bad : true ≡ false = ok_same true false (sym right ∙ wrong) in absurd cc

  -- ---- subcommands

  agreement_comes : q.subcommand ≡ 2 → Giving (ComesOf es words q s) (key_agreement q)
  unfolding key_agreement
  agreement_comes two = giving_then _ (needed q.protocol) _ (λ number _. giving_then _ (known_protocol number) _ (λ protocol _. giving_ok (ComesOf es words q s) key_told two))

  set_comes : q.subcommand ≡ 3 → Giving (ComesOf es words q s) (set_pin es own q now)
  unfolding set_pin
  set_comes three =
      giving_then _ (needed q.protocol) _ (λ number asked.
      giving_then _ (needed q.key) _ (λ told key.
      giving_then _ (needed q.new_pin) _ (λ new_pin brought.
      giving_then _ (needed q.param) _ (λ param given.
      giving_then _ (known_protocol number) _ (λ protocol known.
      giving_then _ (unset s.pin) _ (λ free f.
      giving_then _ (shared es own protocol told) _ (λ secret agreed.
      giving_then _ (verified es protocol secret.hmac new_pin param) _ (λ authentic a.
      giving_then _ (new_hash es protocol secret new_pin) _ (λ hash h.
      giving_ok (ComesOf es words q s) (pin_set hash) (inl (first number protocol told new_pin param hash secret asked key brought given known free f agreed authentic a h)))))))))))
    where
      first : (n : ℕ) (protocol : Protocol) (told : ToldKey) (new_pin param hash : List ℕ) (secret : SharedSecret) → needed q.protocol ≡ Ok n → needed q.key ≡ Ok told
          → needed q.new_pin ≡ Ok new_pin → needed q.param ≡ Ok param → known_protocol n ≡ Ok protocol → (u : Unit {0}) → unset s.pin ≡ Ok u
          → shared es own protocol told ≡ Ok secret → (v : Unit {0}) → verified es protocol secret.hmac new_pin param ≡ Ok v → new_hash es protocol secret new_pin ≡ Ok hash
          → IsFirst es words q s hash
      first n protocol told new_pin param hash secret asked key brought given known u f agreed v a h =
          let new = new_pin_is es q protocol secret new_pin hash (needed_is q.new_pin new_pin brought) h in
          record {
            subcommand = three;
            none = (unset_gives s.pin).so u f;
            pair = own;
            is_pair = is_pair words s.pair;
            protocol = protocol;
            secret = secret;
            shared = shared_is es own q n protocol told secret asked known key agreed;
            new = new.0;
            authentic = record {
              param = param;
              brought = needed_is q.param param given;
              authenticates = subst (λ (m : List ℕ). Authenticates es protocol secret.hmac m param) (sym new.1) (verified_is es protocol secret.hmac new_pin param a);
            };
          }

  record BegunChange (t : Try) (new_pin : List ℕ) : Type 0 where
    pub begun : Begun t
    pub brought : q.new_pin ≡ Some new_pin
    pub authentic : BringsParam es q t.protocol t.secret (new_pin ++ t.pin_hash)

  change_begins : Giving (λ x. BegunChange x.0 x.1) (change_begun es own q now)
  unfolding change_begun
  change_begins =
      giving_then _ (needed q.protocol) _ (λ number asked.
      giving_then _ (needed q.key) _ (λ told key.
      giving_then _ (needed q.new_pin) _ (λ new_pin brought.
      giving_then _ (needed q.pin_hash) _ (λ pin_hash hash.
      giving_then _ (needed q.param) _ (λ param given.
      giving_then _ (known_protocol number) _ (λ protocol known.
      giving_then _ (tried_pin now) _ (λ pin p.
      giving_then _ (shared es own protocol told) _ (λ secret agreed.
      giving_then _ (verified es protocol secret.hmac (new_pin ++ pin_hash) param) _ (λ authentic a.
      giving_ok _ _ (record {
        begun = begun_by number protocol told pin_hash pin secret asked known key hash p agreed;
        brought = needed_is q.new_pin new_pin brought;
        authentic = record {
          param = param;
          brought = needed_is q.param param given;
          authenticates = verified_is es protocol secret.hmac (new_pin ++ pin_hash) param a;
        };
      }))))))))))

  abbrev change_by : (t : Try) (new_pin : List ℕ) → q.subcommand ≡ 4 → BegunChange t new_pin → is_right es t ≡ Ok true → IsChange es words q s
  change_by t new_pin four b right = record { subcommand = four; tried = tried_by t b.begun right; new_pin = new_pin; brought = b.brought; authentic = b.authentic }

  replaced_comes : (t : Try) (new_pin : List ℕ) (r : Result (List ℕ) Ending) → q.subcommand ≡ 4 → BegunChange t new_pin → is_right es t ≡ Ok true
      → new_hash es t.protocol t.secret new_pin ≡ r → Giving (ComesOf es words q s) (replaced r)
  replaced_comes t new_pin (Ok hash) four b right e = giving_ok (ComesOf es words q s) (pin_set hash)
      (inr (change_by t new_pin four b right, (new_pin_is es q t.protocol t.secret new_pin hash b.brought e).0))
  replaced_comes t new_pin (Err (asks a)) four b right e = giving_err _ _
  replaced_comes t new_pin (Err (refused status)) four b right e = giving_ok (ComesOf es words q s) (pin_refused status) (change_by t new_pin four b right)

  changed_comes : (x : Try × List ℕ) → q.subcommand ≡ 4 → BegunChange x.0 x.1 → Giving (ComesOf es words q s) (changed es x)
  unfolding changed
  changed_comes x four b = giving_then _ (is_right es x.0) _ (λ right r. giving_if _ right _ _
      (λ is. replaced_comes x.0 x.1 (new_hash es x.0.protocol x.0.secret x.1) four b (r ∙ ap done is) refl)
      (λ isnt. giving_ok (ComesOf es words q s) mismatch (inl four, mistaken x.0 b.begun (r ∙ ap done isnt))))

  abbrev BegunToken : Try × Scope → Type 0
  BegunToken x = Begun x.0 × IsScoped q x.1.permissions x.1.rp_id

  try_begins : (n : ℕ) (protocol : Protocol) (told : ToldKey) (hash : List ℕ) → needed q.protocol ≡ Ok n → known_protocol n ≡ Ok protocol
      → needed q.key ≡ Ok told → needed q.pin_hash ≡ Ok hash → Giving Begun (try_begun es own protocol told hash now)
  unfolding try_begun
  try_begins n protocol told hash asked known key brought =
      giving_then _ (tried_pin now) _ (λ pin p.
      giving_then _ (shared es own protocol told) _ (λ secret agreed.
      giving_ok Begun _ (begun_by n protocol told hash pin secret asked known key brought p agreed)))

  pin_token_begins : q.subcommand ≡ 5 → Giving BegunToken (pin_token_begun es own q now)
  unfolding pin_token_begun
  pin_token_begins five =
      giving_then _ (needed q.protocol) _ (λ number asked.
      giving_then _ (needed q.key) _ (λ told key.
      giving_then _ (needed q.pin_hash) _ (λ pin_hash hash.
      giving_then _ (without_scope q.permissions q.rp_id) _ (λ bare _.
      giving_then _ (known_protocol number) _ (λ protocol known.
      giving_then _ (try_begun es own protocol told pin_hash now) _ (λ begun b.
      giving_ok BegunToken _ ((try_begins number protocol told pin_hash asked known key hash).so begun b, inl (five, refl, refl))))))))

  token_begins : q.subcommand ≡ 9 → Giving BegunToken (token_begun es own q now)
  unfolding token_begun
  token_begins nine =
      giving_then _ (needed q.protocol) _ (λ number asked.
      giving_then _ (needed q.key) _ (λ told key.
      giving_then _ (needed q.pin_hash) _ (λ pin_hash hash.
      giving_then _ (needed q.permissions) _ (λ permissions asks_for.
      giving_then _ (known_protocol number) _ (λ protocol known.
      giving_then _ (allowed_permissions permissions) _ (λ allowed few.
      giving_then _ (needed q.rp_id) _ (λ rp_id party.
      giving_then _ (try_begun es own protocol told pin_hash now) _ (λ begun b.
      giving_ok BegunToken _ ((try_begins number protocol told pin_hash asked known key hash).so begun b, scoped permissions rp_id allowed asks_for party few)))))))))
    where
      scoped : (permissions : ℕ) (rp_id : List ℕ) (u : Unit {0}) → needed q.permissions ≡ Ok permissions → needed q.rp_id ≡ Ok rp_id → allowed_permissions permissions ≡ Ok u
          → IsScoped q permissions (Some rp_id)
      scoped permissions rp_id u asks_for party few =
          let sizes = allowed_by permissions (eqb permissions 0) (ltb 3 permissions) refl refl few in
          inr (nine, needed_is q.permissions permissions asks_for, sizes.0, sizes.1, (rp_id, needed_is q.rp_id rp_id party, refl))

  given_comes : (t : Try) (scope : Scope) → BegunToken (t, scope) → is_right es t ≡ Ok true
      → Giving (ComesOf es words q s) (token_given es t.protocol t.secret words.token scope)
  unfolding token_given
  given_comes t scope b right = giving_then _ (encrypted es t.protocol t.secret words.token) _ (λ sealed e.
      giving_ok (ComesOf es words q s) (token_told (record { protocol = t.protocol; bytes = words.token; permissions = scope.permissions; rp_id = scope.rp_id }) sealed)
      (record {
        tried = tried_by t b.0 right;
        bytes = refl;
        protocol = refl;
        told = answer_is es (encryption t.protocol t.secret.aes words.token) sealed e;
        scoped = b.1;
      }))

  token_comes : (x : Try × Scope) → (q.subcommand ≡ 5) ⊎ (q.subcommand ≡ 9) → BegunToken x → Giving (ComesOf es words q s) (token es words x)
  unfolding token
  token_comes x by b = giving_then _ (is_right es x.0) _ (λ right r. giving_if _ right _ _
      (λ is. given_comes x.0 x.1 b (r ∙ ap done is))
      (λ isnt. giving_ok (ComesOf es words q s) mismatch (inr by, mistaken x.0 b.0 (r ∙ ap done isnt))))

  -- ---- a request

  counting_comes : {A : Type 0} (P : A → Type 0) (r : Result A Ending) (compared : A → Result Outcome Ending) → Giving P r
      → ((x : A) → P x → Giving (ComesOf es words q s) (compared x)) → Giving (ComesOf es words q s) (counting r compared now).outcome
  counting_comes P (Ok x) compared g k = k x (g.so x refl)
  counting_comes P (Err e) compared g k = giving_err _ e

  comes_if : (b : Bool) (v w : Verdict) → (b ≡ true → Giving (ComesOf es words q s) v.outcome) → (b ≡ false → Giving (ComesOf es words q s) w.outcome)
      → Giving (ComesOf es words q s) (cond b v w).outcome
  comes_if true v w h k = h refl
  comes_if false v w h k = k refl

  by_number : (n : ℕ) → eqb q.subcommand n ≡ true → q.subcommand ≡ n
  by_number n e = eqb-true q.subcommand n e

  pub comes : Giving (ComesOf es words q s) (verdict es words q s).outcome
  unfolding judged_by
  comes =
      comes_if (eqb q.subcommand 1) _ _ (λ is. giving_ok (ComesOf es words q s) retries_told (by_number 1 is)) (λ _.
      comes_if (eqb q.subcommand 2) _ _ (λ is. agreement_comes (by_number 2 is)) (λ _.
      comes_if (eqb q.subcommand 3) _ _ (λ is. set_comes (by_number 3 is)) (λ _.
      comes_if (eqb q.subcommand 4) _ _ (λ is. counting_comes (λ x. BegunChange x.0 x.1) _ _ change_begins (λ x b. changed_comes x (by_number 4 is) b)) (λ _.
      comes_if (eqb q.subcommand 5) _ _ (λ is. counting_comes BegunToken _ _ (pin_token_begins (by_number 5 is)) (λ x b. token_comes x (inl (by_number 5 is)) b)) (λ _.
      comes_if (eqb q.subcommand 9) _ _ (λ is. counting_comes BegunToken _ _ (token_begins (by_number 9 is)) (λ x b. token_comes x (inr (by_number 9 is)) b)) (λ _.
      giving_err _ _))))))
