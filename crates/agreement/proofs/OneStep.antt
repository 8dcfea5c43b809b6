-- The steps of the run that is written out: the authenticator makes a credential, and then signs in with it.
use Rattle.std.proofs.Common.{◌≡◌, ◌<◌, ◌≤◌, ◌^◌, ◌++◌, ℕ, List, [], ◌∷◌, true, Some, None, length, refl, sym, ◌∙◌, ap, subst, arith, rules, inr, codes}
use Rattle.std.proofs.Common.{replicate}
use Rattle.std.specs.Int.{w16, w32, to_be_bytes}
use Rattle.sha2.specs.Sha256.{sha256}
use Rattle.sha2.proofs.Facts256.{length-sha256}
use Rattle.refusal_order.specs.Lines.{first_true}
use Rattle.ccbor.specs.Canon.{Fits, before, head, spelling}
use Rattle.ccbor.specs.Item.{Item}
use Rattle.cose.specs.Keys.{encoded_length, item_of, x_of}
use Rattle.cose.specs.declared.key.SigningAlg.TheVariants as signing
use Rattle.cose.specs.declared.key.CoseKey.{CoseKey}
use Rattle.cose.specs.Bench.{bench_public, bench_valid}
use Rattle.authdata.specs.declared.profile.Profile.TheVariants.{Strict}
use Rattle.authdata.specs.declared.statement.AttestationType.TheVariants as types
use Rattle.authdata.specs.Layout.{AttestedCredential, AuthenticatorData, AuthOf, credential_bytes, data_bytes, extension_bytes, key_bytes}
use Rattle.authdata.specs.Layout.{attested_bytes as bytes_of_attested}
use Rattle.authdata.specs.Statements.{none_statement}
use Rattle.authdata.proofs.Unique.{length-bare}
use Rattle.ctap_replies.specs.Replies.{Assertion, Creation, ReplyOf, assertion_reply, assertion_reply_item, creation_reply, creation_reply_item}
use Rattle.ctap_requests.specs.Requests.{AssertionRequest, CreationRequest, get_assertion, make_credential}
use Rattle.authenticator.specs.State.{Asked, AuthenticatorState, CredentialSource, forgotten, new_state}
use Rattle.authenticator.specs.Credentials.{credential_of, with_sign_count}
use Rattle.authenticator.specs.Orders.{assertion_order, candidates, creation_order, kept}
use Rattle.authenticator.specs.Private.{IsMessage}
use Rattle.authenticator.specs.Steps.{AnswersWith, Comes, Creates, FirstAnswers, Outcome, Steps, asked_by, assertion_data, creation_data}
use Rattle.authenticator.specs.Steps.{new_credential}
use Rattle.authenticator.proofs.Attesting.{creation_length}
use Rattle.authenticator.proofs.Refusing.{allowed, answered, created, not_at_end}
use Rattle.authenticator.proofs.Replies.{assertion_message, plain_message}
use Rattle.authenticator.proofs.Stored.{last_push}
use Rattle.client.specs.Asked.{assertion_of, creation_of}
use Rattle.security_key.specs.Serving.{IsPayload}
use Rattle.hidframe.proofs.Bytes.{AreBytes, bytes-append, bytes-cons, bytes_of_16, bytes_of_32, bytes_zeros}
use Rattle.agreement.proofs.Asking.{none_against_assertion, none_against_creation}
use Rattle.agreement.proofs.Given.{asserting, assertion_request, consent, creating, creation_request, registering, rp_id, signing_in, user, words, zeros}
use Rattle.agreement.proofs.Spelled.{HasBytes, sha256_bytes, small, spelled}
use Rattle.agreement.proofs.Storing.{newest_first}

-- ---- replies

payload : (bs : List ℕ) (v : Item) → length bs ≤ 7609 → (rest : List ℕ) × (bs ≡ 0 ∷ rest) × Fits 4 v × (rest ≡ spelling v) → HasBytes v → IsPayload bs
payload bs v size s h =
    (size, subst AreBytes (sym (s.1 ∙ ap (λ l. 0 ∷ l) s.3)) (bytes-cons 0 (spelling v) (omega arith) (spelled 4 v s.2 h)))

-- ---- the key

abbrev pub key : CoseKey
key = bench_public signing.EdDsa zeros

key_size : encoded_length key ≤ 77
key_size = omega arith

key_fits : Fits 4 (item_of key)
unfolding head before
key_fits = let size : length (sha256 zeros) ≡ 32 = length-sha256 zeros in search (rules, arith, size)

key_parts : HasBytes (item_of key)
key_parts = search (rules, sha256_bytes zeros)

key_are_bytes : AreBytes (key_bytes key)
key_are_bytes = spelled 4 (item_of key) key_fits key_parts

-- ---- authenticator data

data_are_bytes : (a : AuthenticatorData) → AreBytes a.rp_id_hash → a.flags < 256 → a.sign_count < 2 ^ 32 → AreBytes (bytes_of_attested a.attested)
    → AreBytes (extension_bytes a.extensions) → AreBytes (data_bytes a)
data_are_bytes a hash flags count more extensions =
    let tail = bytes_of_attested a.attested ++ extension_bytes a.extensions in
    bytes-append a.rp_id_hash (a.flags ∷ (to_be_bytes w32 a.sign_count ++ tail)) hash
    (bytes-cons a.flags (to_be_bytes w32 a.sign_count ++ tail) flags
    (bytes-append (to_be_bytes w32 a.sign_count) tail (bytes_of_32 a.sign_count count)
    (bytes-append (bytes_of_attested a.attested) (extension_bytes a.extensions) more extensions)))

credential_are_bytes : (c : AttestedCredential) → AreBytes c.aaguid → length c.id < 2 ^ 16 → AreBytes c.id → AreBytes (key_bytes c.key)
    → AreBytes (credential_bytes c)
credential_are_bytes c aaguid low id key =
    bytes-append c.aaguid (to_be_bytes w16 (length c.id) ++ (c.id ++ key_bytes c.key)) aaguid
    (bytes-append (to_be_bytes w16 (length c.id)) (c.id ++ key_bytes c.key) (bytes_of_16 (length c.id) low)
    (bytes-append c.id (key_bytes c.key) id key))

-- ---- the authenticator is new

abbrev pub aaguid : List ℕ
aaguid = replicate 16 0

abbrev pub fresh : AuthenticatorState
fresh = new_state aaguid true types.None

-- ---- a credential is made

module _ (challenge text : List ℕ) where
  abbrev q : CreationRequest
  q = creation_of (registering challenge) text

  abbrev pub made : CredentialSource
  made = new_credential q signing.EdDsa words

  abbrev pub holding : AuthenticatorState
  holding = record (forgotten fresh) { credentials = kept [] q ++ made ∷ [] }

  abbrev pub attested : AuthenticatorData
  attested = creation_data fresh q zeros key

  abbrev pub attested_bytes : List ℕ
  attested_bytes = data_bytes attested

  pub attested_spelled : AuthOf Strict attested attested_bytes
  attested_spelled = (
    record {
      rp_id_hash = length-sha256 rp_id;
      flags = omega arith;
      sign_count = omega arith;
      attested_flag = refl;
      extensions_flag = refl;
      no_extensions = λ e. refl;
      backup = λ e. absurd cc;
      attested = record { aaguid = refl; id_low = omega arith; id_high = omega arith; key = length-sha256 zeros };
      extensions = tt;
    },
    refl,
  )

  attested_are_bytes : AreBytes attested_bytes
  attested_are_bytes =
      data_are_bytes attested (sha256_bytes rp_id) (omega arith) (omega arith)
      (credential_are_bytes (record { aaguid = aaguid; id = zeros; key = key }) (bytes_zeros 16) (omega arith) (bytes_zeros 32) key_are_bytes) (bytes_zeros 0)

  abbrev pub creation : Creation
  creation = record { fmt = codes "none"; auth_data = attested_bytes; statement = none_statement }

  creation_has_bytes : HasBytes (creation_reply_item creation)
  creation_has_bytes = let h = attested_are_bytes in search (rules, h, small)

  created_message : IsMessage (creation_reply creation)
  created_message = plain_message creation refl refl (creation_length fresh q zeros key attested_bytes attested_spelled key_size refl)

  pub creation_reply_bytes : List ℕ
  creation_reply_bytes = created_message.bytes

  pub creation_spelled : ReplyOf (creation_reply creation) creation_reply_bytes
  unfolding creation_reply_bytes
  creation_spelled = created_message.spelled

  pub creation_payload : IsPayload creation_reply_bytes
  unfolding creation_reply_bytes
  creation_payload =
      let s = created_message.spelled in
      payload created_message.bytes (creation_reply_item creation) created_message.size (s.0, s.1, s.2.0, s.2.1) creation_has_bytes

  none_due : first_true (creation_order fresh q consent words) ≡ None
  none_due =
      none_against_creation fresh (registering challenge) text consent words (signing.EdDsa, (0, omega arith, refl)) (λ e. refl) refl (λ e. refl) refl refl
      (omega arith)

  pub makes : Steps bench_valid bench_public fresh 1 (creating challenge text) consent words creation_reply_bytes holding
  makes =
      let x = allowed fresh holding creation_reply_bytes (first_true (creation_order fresh q consent words))
      (λ out. Creates bench_valid bench_public fresh q consent words out) none_due
      (created bench_valid bench_public fresh holding q consent words signing.EdDsa creation creation_reply_bytes refl attested_spelled ([], (refl, refl, refl))
      creation_spelled refl) in
      (x.0, x.1, inr (make_credential q, creation_request challenge text, x.2))

  -- ---- and answers

  module _ (later later_text : List ℕ) where
    abbrev p : AssertionRequest
    p = assertion_of (signing_in later) later_text

    abbrev pub asked : Asked
    asked = asked_by 1 p consent

    abbrev pub signed : AuthenticatorData
    signed = assertion_data made asked

    abbrev pub signed_bytes : List ℕ
    signed_bytes = data_bytes signed

    pub signed_spelled : AuthOf Strict signed signed_bytes
    signed_spelled = (
      record {
        rp_id_hash = length-sha256 rp_id;
        flags = omega arith;
        sign_count = omega arith;
        attested_flag = refl;
        extensions_flag = refl;
        no_extensions = λ e. refl;
        backup = λ e. absurd cc;
        attested = tt;
        extensions = tt;
      },
      refl,
    )

    signed_are_bytes : AreBytes signed_bytes
    signed_are_bytes = data_are_bytes signed (sha256_bytes rp_id) (omega arith) (omega arith) (bytes_zeros 0) (bytes_zeros 0)

    abbrev signature : List ℕ
    signature = sha256 (x_of key ++ (signed_bytes ++ asked.client_data_hash))

    abbrev pub assertion : Assertion
    assertion = record { credential = zeros; auth_data = signed_bytes; signature = signature; user = Some user; number = None }

    assertion_has_bytes : HasBytes (assertion_reply_item assertion)
    assertion_has_bytes =
        let h = signed_are_bytes in
        let s = sha256_bytes (x_of key ++ (signed_bytes ++ asked.client_data_hash)) in
        search (rules, h, s, small)

    signature_size : length signature ≡ 32
    signature_size = length-sha256 (x_of key ++ (signed_bytes ++ asked.client_data_hash))

    asserted_message : IsMessage (assertion_reply assertion)
    asserted_message =
        let size = signature_size in
        assertion_message assertion (record {
          credential = refl;
          auth_data = length-bare signed signed_bytes signed_spelled refl;
          signature = omega (arith, size);
          user = (omega arith, omega arith);
          number = tt;
        })

    pub assertion_reply_bytes : List ℕ
    assertion_reply_bytes = asserted_message.bytes

    pub assertion_spelled : ReplyOf (assertion_reply assertion) assertion_reply_bytes
    unfolding assertion_reply_bytes
    assertion_spelled = asserted_message.spelled

    pub assertion_payload : IsPayload assertion_reply_bytes
    unfolding assertion_reply_bytes
    assertion_payload =
        let s = asserted_message.spelled in
        payload asserted_message.bytes (assertion_reply_item assertion) asserted_message.size (s.0, s.1, s.2.0, s.2.1) assertion_has_bytes

    found : credential_of zeros holding.credentials ≡ Some made
    found = last_push [] made refl

    first : candidates holding.credentials rp_id None ≡ zeros ∷ []
    first = newest_first rp_id [] made refl refl

    abbrev pub counted : AuthenticatorState
    counted = record holding { credentials = with_sign_count zeros 1 holding.credentials; remembered = None }

    allowed_now : first_true (assertion_order holding p consent) ≡ None
    allowed_now =
        none_against_assertion holding (signing_in later) later_text consent zeros [] (λ e. refl) refl (λ e. refl) first
        (not_at_end zeros holding.credentials made found (omega arith))

    answers : Comes (AnswersWith bench_valid bench_public holding zeros asked [] assertion_reply None) assertion_reply_bytes counted
    answers =
        let size = signature_size in
        answered bench_valid bench_public holding counted made zeros asked [] assertion_reply None assertion assertion_reply_bytes found
        (record { spelled = signed_spelled; signs = (omega (arith, size), omega (arith, size), refl); credential = refl; user = refl; number = refl })
        assertion_spelled refl

    pub asserts : Steps bench_valid bench_public holding 1 (asserting later later_text) consent words assertion_reply_bytes counted
    asserts =
        let X : Outcome → Type 0 = λ out. FirstAnswers bench_valid bench_public holding (candidates holding.credentials rp_id None) asked out in
        let c = answers in
        let x = allowed holding counted assertion_reply_bytes (first_true (assertion_order holding p consent)) X allowed_now (
          c.0,
          c.1,
          subst (λ (ids : List (List ℕ)). FirstAnswers bench_valid bench_public holding ids asked
              (record { reply = assertion_reply_bytes; state = counted; signed = c.0; made = c.1 })) (sym first) c.2,
        ) in
        (x.0, x.1, inr (get_assertion p, assertion_request later later_text, x.2))
