-- What each subcommand asks the host: nothing that it answered, and before a try is counted no decryption.
use Rattle.std.proofs.Common.{◌≡◌, ℕ, List, ◌++◌, false, Some, None, Result, Ok, Err, refl, ap, ◌∙◌}
use Rattle.std.specs.Prelude.{Option}
use Rattle.pin_client_messages.specs.Commands.{PublicPoint}
use Rattle.pin_client_messages.specs.Replies.{ToldKey}
use Rattle.pin_protocols.specs.declared.ask.Operation.TheVariants as operations
use Rattle.pin_protocols.specs.declared.protocol.Protocol.{Protocol}
use Rattle.pin_protocols.specs.declared.protocol.Protocol.TheVariants as protocols
use Rattle.pin_protocols.specs.Asks.{Asked, answer_of, ask_view}
use Rattle.pin_protocols.specs.Flows.{Scope}
use Rattle.pin_protocols.specs.Protocols.{SharedSecret, product_ask, derivation, hmac_info, aes_info, encryption, decryption, authentication, protocol_of}
use Rattle.key_pin.specs.declared.state.KeyPair.{KeyPair}
use Rattle.key_pin.specs.declared.words.PinWords.{PinWords}
use Rattle.key_pin.specs.declared.words.Grant.{Grant}
use Rattle.key_pin.specs.declared.words.Grant.TheVariants as grants
use Rattle.key_pin.specs.Grants.{Claim, Grants, IsNew, granted, token_of}
use Rattle.key_pin.specs.Host.{Ending, asks, refused, answer, product, secret, verified}
use Rattle.key_pin.specs.Pins.{kept_hash, new_hash, unpadded}
use Rattle.key_pin.specs.Query.{Query}
use Rattle.key_pin.specs.State.{PinState, PinToken}
use Rattle.key_pin.specs.Steps.{Try, needed, known, is_agreement_key, client_point, shared, pin_of, may_try, tried_pin, is_right, key_agreement, unset, set_pin, change_begun, changed, replaced, try_begun, without_scope, pin_token_begun, allowed_permissions, token_begun, token_given, token}
use Rattle.key_pin.proofs.Binds.{Asking, asking_ok, asking_refused, asking_then, asking_more, asking_if, sized_asks, answer_asks}

-- there is no answer to it, and it is not a decryption
pub record Plain (es : List (Asked × List ℕ)) (a : Asked) : Type 0 where
  pub none : answer_of es a ≡ None
  pub other : a.operation ≡ operations.Decrypt → ⊥

abbrev pub New : List (Asked × List ℕ) → Asked → Type 0
New es a = answer_of es a ≡ None

plain_by : (es : List (Asked × List ℕ)) (b : Asked) → (b.operation ≡ operations.Decrypt → ⊥) → (a : Asked) → (b ≡ a) × (answer_of es a ≡ None) → Plain es a
plain_by es b other a h = record { none = h.1; other = λ d. other (ap (λ (x : Asked). x.operation) h.0 ∙ d) }

plain_answer : (es : List (Asked × List ℕ)) (b : Asked) → (b.operation ≡ operations.Decrypt → ⊥) → Asking (Plain es) (answer es b)
plain_answer es b other = asking_more _ (Plain es) (answer es b) (plain_by es b other) (answer_asks es b)

new_answer : (es : List (Asked × List ℕ)) (b : Asked) → Asking (New es) (answer es b)
new_answer es b = asking_more _ (New es) (answer es b) (λ a h. h.1) (answer_asks es b)

pub new_plain : {A : Type 0} (es : List (Asked × List ℕ)) (r : Result A Ending) → Asking (Plain es) r → Asking (New es) r
new_plain es r h = asking_more (Plain es) (New es) r (λ a p. p.none) h

-- ---- checks ask nothing

module _ (P : Asked → Type 0) where
  needed_asks : {A : Type 0} (o : Option A) → Asking P (needed o)
  needed_asks (Some a) = asking_ok P a
  needed_asks None = asking_refused P 0x14

  known_asks : (o : Option Protocol) → Asking P (known o)
  known_asks (Some p) = asking_ok P p
  known_asks None = asking_refused P 0x02

  point_asks : (k : ToldKey) → Asking P (client_point k)
  unfolding client_point
  point_asks k = asking_if P (is_agreement_key k) _ _ (asking_ok P _) (asking_refused P 0x02)

  pin_asks : (o : Option (List ℕ)) → Asking P (pin_of o)
  pin_asks (Some h) = asking_ok P h
  pin_asks None = asking_refused P 0x35

  may_asks : (s : PinState) → Asking P (may_try s)
  may_asks s = asking_if P s.counted _ _ (asking_ok P tt) (asking_if P _ _ _ (asking_refused P 0x32) (asking_if P _ _ _ (asking_refused P 0x34) (asking_ok P tt)))

  tried_asks : (s : PinState) → Asking P (tried_pin s)
  unfolding tried_pin
  tried_asks s = asking_then P _ _ (pin_asks s.pin) (λ hash. asking_then P _ _ (may_asks s) (λ free. asking_ok P hash))

  unset_asks : (o : Option (List ℕ)) → Asking P (unset o)
  unset_asks None = asking_ok P tt
  unset_asks (Some h) = asking_refused P 0x33

  scope_asks : (n : Option ℕ) (o : Option (List ℕ)) → Asking P (without_scope n o)
  scope_asks None None = asking_ok P tt
  scope_asks (Some n) o = asking_refused P 0x02
  scope_asks None (Some h) = asking_refused P 0x02

  allowed_asks : (n : ℕ) → Asking P (allowed_permissions n)
  allowed_asks n = asking_if P _ _ _ (asking_refused P 0x02) (asking_if P _ _ _ (asking_refused P 0x40) (asking_ok P tt))

  kept_asks : (pin : List ℕ) → Asking P (kept_hash pin)
  kept_asks pin = asking_if P _ _ _ (asking_ok P _) (asking_refused P 0x37)

  pub agreement_asks : (q : Query) → Asking P (key_agreement q)
  unfolding key_agreement
  agreement_asks q = asking_then P _ _ (needed_asks q.protocol) (λ n. asking_then P _ _ (known_asks (protocol_of n)) (λ p. asking_ok P _))

-- ---- what the host computes

module _ (es : List (Asked × List ℕ)) where
  product_asks : (key : List ℕ) (peer : PublicPoint) → Asking (Plain es) (product es key peer)
  unfolding product
  product_asks key peer = asking_then (Plain es) _ _
      (asking_more _ (Plain es) _ (plain_by es (product_ask key peer) (λ e. absurd cc)) (sized_asks es 96 0x02 (product_ask key peer) (answer_of es (product_ask key peer)) refl))
      (λ b. asking_ok (Plain es) _)

  secret_asks : (protocol : Protocol) (z : List ℕ) → Asking (Plain es) (secret es protocol z)
  unfolding secret
  secret_asks protocols.One z = asking_ok (Plain es) _
  secret_asks protocols.Two z = asking_then (Plain es) _ _ (plain_answer es (derivation z hmac_info) (λ e. absurd cc))
      (λ hmac. asking_then (Plain es) _ _ (plain_answer es (derivation z aes_info) (λ e. absurd cc)) (λ aes. asking_ok (Plain es) _))

  verified_asks : (protocol : Protocol) (key message param : List ℕ) → Asking (Plain es) (verified es protocol key message param)
  unfolding verified
  verified_asks protocol key message param = asking_then (Plain es) _ _ (plain_answer es (authentication key message) (λ e. absurd cc))
      (λ tag. asking_if (Plain es) _ _ _ (asking_ok (Plain es) tt) (asking_refused (Plain es) 0x33))

  shared_asks : (pair : KeyPair) (protocol : Protocol) (told : ToldKey) → Asking (Plain es) (shared es pair protocol told)
  unfolding shared
  shared_asks pair protocol told = asking_then (Plain es) _ _ (point_asks (Plain es) told)
      (λ point. asking_then (Plain es) _ _ (product_asks pair.key point) (λ z. secret_asks protocol z))

  hash_asks : (protocol : Protocol) (s : SharedSecret) (sealed : List ℕ) → Asking (New es) (new_hash es protocol s sealed)
  unfolding new_hash
  hash_asks protocol s sealed = asking_if (New es) _ _ _
      (asking_then (New es) _ _ (new_answer es (decryption protocol s.aes sealed)) (λ padded. kept_asks (New es) (unpadded padded)))
      (asking_refused (New es) 0x02)

  right_asks : (t : Try) → Asking (New es) (is_right es t)
  unfolding is_right
  right_asks t = asking_if (New es) _ _ _
      (asking_then (New es) _ _ (new_answer es (decryption t.protocol t.secret.aes t.pin_hash)) (λ hash. asking_ok (New es) _))
      (asking_ok (New es) false)

  -- ---- the subcommands

  pub set_asks : (pair : KeyPair) (q : Query) (s : PinState) → Asking (New es) (set_pin es pair q s)
  unfolding set_pin
  set_asks pair q s =
      asking_then (New es) _ _ (needed_asks (New es) q.protocol) (λ number.
      asking_then (New es) _ _ (needed_asks (New es) q.key) (λ told.
      asking_then (New es) _ _ (needed_asks (New es) q.new_pin) (λ new_pin.
      asking_then (New es) _ _ (needed_asks (New es) q.param) (λ param.
      asking_then (New es) _ _ (known_asks (New es) (protocol_of number)) (λ protocol.
      asking_then (New es) _ _ (unset_asks (New es) s.pin) (λ free.
      asking_then (New es) _ _ (new_plain es _ (shared_asks pair protocol told)) (λ shared.
      asking_then (New es) _ _ (new_plain es _ (verified_asks protocol shared.hmac new_pin param)) (λ authentic.
      asking_then (New es) _ _ (hash_asks protocol shared new_pin) (λ hash.
      asking_ok (New es) _)))))))))

  pub change_begun_asks : (pair : KeyPair) (q : Query) (s : PinState) → Asking (Plain es) (change_begun es pair q s)
  unfolding change_begun
  change_begun_asks pair q s =
      asking_then (Plain es) _ _ (needed_asks (Plain es) q.protocol) (λ number.
      asking_then (Plain es) _ _ (needed_asks (Plain es) q.key) (λ told.
      asking_then (Plain es) _ _ (needed_asks (Plain es) q.new_pin) (λ new_pin.
      asking_then (Plain es) _ _ (needed_asks (Plain es) q.pin_hash) (λ pin_hash.
      asking_then (Plain es) _ _ (needed_asks (Plain es) q.param) (λ param.
      asking_then (Plain es) _ _ (known_asks (Plain es) (protocol_of number)) (λ protocol.
      asking_then (Plain es) _ _ (tried_asks (Plain es) s) (λ pin.
      asking_then (Plain es) _ _ (shared_asks pair protocol told) (λ shared.
      asking_then (Plain es) _ _ (verified_asks protocol shared.hmac (new_pin ++ pin_hash) param) (λ authentic.
      asking_ok (Plain es) _)))))))))

  replaced_asks : (r : Result (List ℕ) Ending) → Asking (New es) r → Asking (New es) (replaced r)
  replaced_asks (Ok hash) h = asking_ok (New es) _
  replaced_asks (Err (asks a)) h = record { so = λ b is. h.so b (let same : a ≡ b = cc in ap (λ (x : Asked). Err (asks x)) same) }
  replaced_asks (Err (refused status)) h = asking_ok (New es) _

  pub changed_asks : (x : Try × List ℕ) → Asking (New es) (changed es x)
  unfolding changed
  changed_asks x = asking_then (New es) _ _ (right_asks x.0)
      (λ right. asking_if (New es) right _ _ (replaced_asks _ (hash_asks x.0.protocol x.0.secret x.1)) (asking_ok (New es) _))

  try_asks : (pair : KeyPair) (protocol : Protocol) (told : ToldKey) (pin_hash : List ℕ) (s : PinState) → Asking (Plain es) (try_begun es pair protocol told pin_hash s)
  unfolding try_begun
  try_asks pair protocol told pin_hash s = asking_then (Plain es) _ _ (tried_asks (Plain es) s)
      (λ pin. asking_then (Plain es) _ _ (shared_asks pair protocol told) (λ shared. asking_ok (Plain es) _))

  pub pin_token_asks : (pair : KeyPair) (q : Query) (s : PinState) → Asking (Plain es) (pin_token_begun es pair q s)
  unfolding pin_token_begun
  pin_token_asks pair q s =
      asking_then (Plain es) _ _ (needed_asks (Plain es) q.protocol) (λ number.
      asking_then (Plain es) _ _ (needed_asks (Plain es) q.key) (λ told.
      asking_then (Plain es) _ _ (needed_asks (Plain es) q.pin_hash) (λ pin_hash.
      asking_then (Plain es) _ _ (scope_asks (Plain es) q.permissions q.rp_id) (λ bare.
      asking_then (Plain es) _ _ (known_asks (Plain es) (protocol_of number)) (λ protocol.
      asking_then (Plain es) _ _ (try_asks pair protocol told pin_hash s) (λ begun.
      asking_ok (Plain es) _))))))

  pub token_begun_asks : (pair : KeyPair) (q : Query) (s : PinState) → Asking (Plain es) (token_begun es pair q s)
  unfolding token_begun
  token_begun_asks pair q s =
      asking_then (Plain es) _ _ (needed_asks (Plain es) q.protocol) (λ number.
      asking_then (Plain es) _ _ (needed_asks (Plain es) q.key) (λ told.
      asking_then (Plain es) _ _ (needed_asks (Plain es) q.pin_hash) (λ pin_hash.
      asking_then (Plain es) _ _ (needed_asks (Plain es) q.permissions) (λ permissions.
      asking_then (Plain es) _ _ (known_asks (Plain es) (protocol_of number)) (λ protocol.
      asking_then (Plain es) _ _ (allowed_asks (Plain es) permissions) (λ allowed.
      asking_then (Plain es) _ _ (needed_asks (Plain es) q.rp_id) (λ rp_id.
      asking_then (Plain es) _ _ (try_asks pair protocol told pin_hash s) (λ begun.
      asking_ok (Plain es) _))))))))

  given_asks : (protocol : Protocol) (s : SharedSecret) (bytes : List ℕ) (scope : Scope) → Asking (New es) (token_given es protocol s bytes scope)
  unfolding token_given
  given_asks protocol s bytes scope = asking_then (New es) _ _ (new_answer es (encryption protocol s.aes bytes)) (λ sealed. asking_ok (New es) _)

  pub token_asks : (words : PinWords) (x : Try × Scope) → Asking (New es) (token es words x)
  unfolding token
  token_asks words x = asking_then (New es) _ _ (right_asks x.0)
      (λ right. asking_if (New es) right _ _ (given_asks x.0.protocol x.0.secret words.token x.1) (asking_ok (New es) _))

  use_asks : (protocol : Protocol) (o : Option PinToken) → Asking (Plain es) (token_of protocol o)
  use_asks protocol None = asking_refused (Plain es) 0x33
  use_asks protocol (Some t) = asking_if (Plain es) _ _ _ (asking_ok (Plain es) t) (asking_refused (Plain es) 0x33)

  pub granted_asks : (c : Claim) (token : Option PinToken) → Asking (Plain es) (granted es c token)
  unfolding granted
  granted_asks c token =
      asking_then (Plain es) _ _ (needed_asks (Plain es) c.protocol) (λ number.
      asking_then (Plain es) _ _ (known_asks (Plain es) (protocol_of number)) (λ protocol.
      asking_then (Plain es) _ _ (use_asks protocol token) (λ t.
      asking_then (Plain es) _ _ (verified_asks protocol t.bytes c.client_data_hash c.param) (λ authentic.
      asking_if (Plain es) _ _ _ (asking_ok (Plain es) tt) (asking_refused (Plain es) 0x33)))))

  pub new_grant : (c : Claim) (token : Option PinToken) (g : Grant) → Grants (granted es c token) g → IsNew es g
  new_grant c token (grants.Asks a) h = ((granted_asks c token).so (ask_view a) h).none
  new_grant c token grants.Granted h = tt
  new_grant c token (grants.Refused status) h = tt
