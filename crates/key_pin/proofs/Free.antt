-- What a try has when it is begun, and what each outcome rests on.
use Rattle.std.proofs.Common.{◌≡◌, ◌<◌, ◌⊎◌, ℕ, List, ◌++◌, length, Bool, true, false, cond, eqb, leb, Some, None, Result, Ok, Err, refl, ap, subst, ◌∙◌, inl, inr, arith}
use Rattle.std.specs.Prelude.{Option}
use Rattle.std.proofs.lemmas.Bool.{eqb-false, leb-false}
use Rattle.std.proofs.lemmas.List.{length-take}
use Rattle.sha2.specs.Sha256.{sha256}
use Rattle.sha2.proofs.Facts256.{length-sha256}
use Rattle.pin_client_messages.specs.Replies.{ToldKey}
use Rattle.pin_protocols.specs.declared.protocol.Protocol.{Protocol}
use Rattle.pin_protocols.specs.Asks.{Asked}
use Rattle.pin_protocols.specs.Flows.{Scope}
use Rattle.pin_protocols.specs.Pins.{pin_hash}
use Rattle.pin_protocols.specs.Protocols.{SharedSecret}
use Rattle.key_pin.specs.declared.state.KeyPair.{KeyPair}
use Rattle.key_pin.specs.declared.words.PinWords.{PinWords}
use Rattle.key_pin.specs.Host.{Ending, asks, refused, ◌>>=◌, encrypted, decrypted, verified}
use Rattle.key_pin.specs.Outcomes.{Outcome, pin_set, pin_refused, token_told, mismatch}
use Rattle.key_pin.specs.Pins.{kept_hash, new_hash, is_allowed, unpadded}
use Rattle.key_pin.specs.Query.{Query}
use Rattle.key_pin.specs.State.{PinState}
use Rattle.key_pin.specs.Steps.{Try, needed, known_protocol, shared, without_scope, allowed_permissions, pin_of, may_try, tried_pin, is_right, unset, set_pin, change_begun, changed, replaced, try_begun, pin_token_begun, token_begun, token_given, token}

-- what a step gives is so
pub record Giving {A : Type 0} (Q : A → Type 0) (r : Result A Ending) : Type 0 where
  pub so : (x : A) → r ≡ Ok x → Q x

abbrev done : {A : Type 0} → A → Result A Ending
done x = Ok x

pub giving_ok : {A : Type 0} (Q : A → Type 0) (x : A) → Q x → Giving Q (Ok x)
giving_ok Q x q = record { so = λ y is. let same : x ≡ y = cc in subst Q same q }

pub giving_err : {A : Type 0} (Q : A → Type 0) (e : Ending) → Giving Q (Err e)
giving_err Q e = record { so = λ y is. absurd cc }

pub giving_then : {A B : Type 0} (Q : B → Type 0) (r : Result A Ending) (f : A → Result B Ending) → ((x : A) → r ≡ Ok x → Giving Q (f x)) → Giving Q (r >>= f)
giving_then Q (Ok x) f k = k x refl
giving_then Q (Err e) f k = giving_err Q e

pub giving_if : {A : Type 0} (Q : A → Type 0) (b : Bool) (r s : Result A Ending) → (b ≡ true → Giving Q r) → (b ≡ false → Giving Q s) → Giving Q (cond b r s)
giving_if Q true r s h k = h refl
giving_if Q false r s h k = k refl

-- ---- a try

abbrev pub Free : PinState → Type 0
Free s = (s.counted ≡ true) ⊎ ((0 < s.retries) × (s.mismatches < 3))

pub record Begins (s : PinState) (t : Try) : Type 0 where
  pub pin : s.pin ≡ Some t.pin
  pub free : Free s

may_gives : (s : PinState) → Giving (λ (u : Unit {0}). Free s) (may_try s)
may_gives s = giving_if _ s.counted _ _ (λ c. giving_ok _ tt (inl c))
    (λ c. giving_if _ (eqb s.retries 0) _ _ (λ z. giving_err _ _)
    (λ z. giving_if _ (leb 3 s.mismatches) _ _ (λ m. giving_err _ _)
    (λ m. let some : s.retries ≡ 0 → ⊥ = eqb-false s.retries 0 z in let few : s.mismatches < 3 = leb-false 3 s.mismatches m in giving_ok _ tt (inr (omega arith, few)))))

pin_gives : (o : Option (List ℕ)) → Giving (λ hash. o ≡ Some hash) (pin_of o)
pin_gives (Some h) = giving_ok _ h refl
pin_gives None = giving_err _ _

pub tried_gives : (s : PinState) → Giving (λ hash. (s.pin ≡ Some hash) × Free s) (tried_pin s)
unfolding tried_pin
tried_gives s = giving_then _ (pin_of s.pin) _ (λ hash h. giving_then _ (may_try s) _ (λ free f. giving_ok _ hash ((pin_gives s.pin).so hash h, (may_gives s).so free f)))

module _ (es : List (Asked × List ℕ)) (pair : KeyPair) (q : Query) (s : PinState) where
  begins_by : (t : Try) → (s.pin ≡ Some t.pin) × Free s → Begins s t
  begins_by t f = record { pin = f.0; free = f.1 }

  pub change_begins : Giving (λ x. Begins s x.0) (change_begun es pair q s)
  unfolding change_begun
  change_begins =
      giving_then _ (needed q.protocol) _ (λ number _.
      giving_then _ (needed q.key) _ (λ told _.
      giving_then _ (needed q.new_pin) _ (λ new_pin _.
      giving_then _ (needed q.pin_hash) _ (λ pin_hash _.
      giving_then _ (needed q.param) _ (λ param _.
      giving_then _ (known_protocol number) _ (λ protocol _.
      giving_then _ (tried_pin s) _ (λ pin p.
      giving_then _ (shared es pair protocol told) _ (λ shared _.
      giving_then _ (verified es protocol shared.hmac (new_pin ++ pin_hash) param) _ (λ authentic _.
      giving_ok _ _ (begins_by (record { protocol = protocol; secret = shared; pin_hash = pin_hash; pin = pin }) ((tried_gives s).so pin p)))))))))))

  try_begins : (protocol : Protocol) (told : ToldKey) (hash : List ℕ) → Giving (Begins s) (try_begun es pair protocol told hash s)
  unfolding try_begun
  try_begins protocol told hash =
      giving_then _ (tried_pin s) _ (λ pin p.
      giving_then _ (shared es pair protocol told) _ (λ shared _.
      giving_ok _ _ (begins_by (record { protocol = protocol; secret = shared; pin_hash = hash; pin = pin }) ((tried_gives s).so pin p))))

  pub pin_token_begins : Giving (λ x. Begins s x.0) (pin_token_begun es pair q s)
  unfolding pin_token_begun
  pin_token_begins =
      giving_then _ (needed q.protocol) _ (λ number _.
      giving_then _ (needed q.key) _ (λ told _.
      giving_then _ (needed q.pin_hash) _ (λ pin_hash _.
      giving_then _ (without_scope q.permissions q.rp_id) _ (λ bare _.
      giving_then _ (known_protocol number) _ (λ protocol _.
      giving_then _ (try_begun es pair protocol told pin_hash s) _ (λ begun b.
      giving_ok _ _ ((try_begins protocol told pin_hash).so begun b)))))))

  pub token_begins : Giving (λ x. Begins s x.0) (token_begun es pair q s)
  unfolding token_begun
  token_begins =
      giving_then _ (needed q.protocol) _ (λ number _.
      giving_then _ (needed q.key) _ (λ told _.
      giving_then _ (needed q.pin_hash) _ (λ pin_hash _.
      giving_then _ (needed q.permissions) _ (λ permissions _.
      giving_then _ (known_protocol number) _ (λ protocol _.
      giving_then _ (allowed_permissions permissions) _ (λ allowed _.
      giving_then _ (needed q.rp_id) _ (λ rp_id _.
      giving_then _ (try_begun es pair protocol told pin_hash s) _ (λ begun b.
      giving_ok _ _ ((try_begins protocol told pin_hash).so begun b)))))))))

-- ---- outcomes

-- a hash that is kept has 16 bytes
hash_size : (pin : List ℕ) → length (pin_hash pin) ≡ 16
hash_size pin = let all : length (sha256 pin) ≡ 32 = length-sha256 pin in omega (arith, length-take 16 (sha256 pin))

kept_gives : (pin : List ℕ) → Giving (λ h. length h ≡ 16) (kept_hash pin)
kept_gives pin = giving_if _ (is_allowed pin) (Ok (pin_hash pin)) (Err (refused 0x37)) (λ _. giving_ok _ (pin_hash pin) (hash_size pin)) (λ _. giving_err _ (refused 0x37))

hash_gives : (es : List (Asked × List ℕ)) (protocol : Protocol) (s : SharedSecret) (sealed : List ℕ) → Giving (λ h. length h ≡ 16) (new_hash es protocol s sealed)
unfolding new_hash
hash_gives es protocol s sealed = giving_if _ _ _ _
    (λ _. giving_then _ (decrypted es protocol s sealed) _ (λ padded _. kept_gives (unpadded padded)))
    (λ _. giving_err _ (refused 0x02))

-- what a setPIN comes to: a PIN that is set where there was none
abbrev pub Sets : PinState → Outcome → Type 0
Sets s (pin_set hash) = (s.pin ≡ None) × (length hash ≡ 16)
Sets s _ = ⊥

pub unset_gives : (o : Option (List ℕ)) → Giving (λ (u : Unit {0}). o ≡ None) (unset o)
unset_gives None = giving_ok _ tt refl
unset_gives (Some h) = giving_err _ _

pub set_gives : (es : List (Asked × List ℕ)) (pair : KeyPair) (q : Query) (s : PinState) → Giving (Sets s) (set_pin es pair q s)
unfolding set_pin
set_gives es pair q s =
    giving_then _ (needed q.protocol) _ (λ number _.
    giving_then _ (needed q.key) _ (λ told _.
    giving_then _ (needed q.new_pin) _ (λ new_pin _.
    giving_then _ (needed q.param) _ (λ param _.
    giving_then _ (known_protocol number) _ (λ protocol _.
    giving_then _ (unset s.pin) _ (λ free f.
    giving_then _ (shared es pair protocol told) _ (λ shared _.
    giving_then _ (verified es protocol shared.hmac new_pin param) _ (λ authentic _.
    giving_then _ (new_hash es protocol shared new_pin) _ (λ hash h.
    giving_ok (Sets s) (pin_set hash) ((unset_gives s.pin).so free f, (hash_gives es protocol shared new_pin).so hash h))))))))))

-- what a try comes to: a mismatch, or the PIN was right
abbrev pub Comes : List (Asked × List ℕ) → PinWords → Try → Outcome → Type 0
Comes es words t (pin_set hash) = (is_right es t ≡ Ok true) × (length hash ≡ 16)
Comes es words t (pin_refused status) = is_right es t ≡ Ok true
Comes es words t (token_told token sealed) = (is_right es t ≡ Ok true) × (token.bytes ≡ words.token) × (encrypted es t.protocol t.secret words.token ≡ Ok sealed)
Comes es words t mismatch = Unit {0}
Comes es words t _ = ⊥

replaced_gives : (es : List (Asked × List ℕ)) (words : PinWords) (t : Try) (r : Result (List ℕ) Ending) → is_right es t ≡ Ok true → Giving (λ h. length h ≡ 16) r → Giving (Comes es words t) (replaced r)
replaced_gives es words t (Ok hash) right h = giving_ok (Comes es words t) (pin_set hash) (right, h.so hash refl)
replaced_gives es words t (Err (asks a)) right h = giving_err _ _
replaced_gives es words t (Err (refused status)) right h = giving_ok (Comes es words t) (pin_refused status) right

pub changed_gives : (es : List (Asked × List ℕ)) (words : PinWords) (x : Try × List ℕ) → Giving (Comes es words x.0) (changed es x)
unfolding changed
changed_gives es words x = giving_then _ (is_right es x.0) _ (λ right r. giving_if _ right _ _
    (λ is. replaced_gives es words x.0 (new_hash es x.0.protocol x.0.secret x.1) (r ∙ ap done is) (hash_gives es x.0.protocol x.0.secret x.1))
    (λ _. giving_ok (Comes es words x.0) mismatch tt))

given_gives : (es : List (Asked × List ℕ)) (words : PinWords) (t : Try) (scope : Scope) → is_right es t ≡ Ok true
    → Giving (Comes es words t) (token_given es t.protocol t.secret words.token scope)
unfolding token_given
given_gives es words t scope right = giving_then _ (encrypted es t.protocol t.secret words.token) _ (λ sealed e.
    giving_ok (Comes es words t) (token_told (record { protocol = t.protocol; bytes = words.token; permissions = scope.permissions; rp_id = scope.rp_id }) sealed) (right, refl, e))

pub token_gives : (es : List (Asked × List ℕ)) (words : PinWords) (x : Try × Scope) → Giving (Comes es words x.0) (token es words x)
unfolding token
token_gives es words x = giving_then _ (is_right es x.0) _ (λ right r. giving_if _ right _ _
    (λ is. given_gives es words x.0 x.1 (r ∙ ap done is))
    (λ _. giving_ok (Comes es words x.0) mismatch tt))
