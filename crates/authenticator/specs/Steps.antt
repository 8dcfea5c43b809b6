-- One call of an authenticator: which reply a request may have on a channel, which state follows, what is
-- signed, and which key is made (CTAP 2.1, sections 6.1 to 6.4 and 6.6).
use Rattle.std.specs.Prelude.{◌≡◌, ◌≤◌, ◌⊎◌, ℕ, ◌+◌, List, [], ◌∷◌, ◌++◌, length, Bool, true, false, not, Option, Some, None, codes, if◌then◌else◌}
use Rattle.sha2.specs.Sha256.{sha256}
use Rattle.refusal_order.specs.Lines.{First, first_true}
use Rattle.cose.specs.Keys.{alg_of}
use Rattle.cose.specs.Schemes.{Validity}
use Rattle.cose.specs.declared.key.SigningAlg.{SigningAlg}
use Rattle.cose.specs.declared.key.CoseKey.{CoseKey}
use Rattle.authdata.specs.declared.profile.Profile.TheVariants.{Strict}
use Rattle.authdata.specs.Layout.{AuthenticatorData, AuthOf}
use Rattle.authdata.specs.Statements.{none_statement, packed_statement}
use Rattle.authdata.specs.declared.statement.AttestationType.{AttestationType}
use Rattle.authdata.specs.declared.statement.AttestationType.TheVariants as types
use Rattle.ctap_replies.specs.Replies.{Creation, Assertion, Info, ReplyMessage, creation_reply, assertion_reply, next_reply, info_reply, reset_reply, ReplyOf}
use Rattle.ctap_requests.specs.Requests.{CreationRequest, AssertionRequest, RequestMessage, make_credential, get_assertion, get_next_assertion, get_info, reset}
use Rattle.ctap_requests.specs.Status.{Rank, Applies, ranks, status_of, IsRequest}
use Rattle.authenticator.specs.State.{CredentialSource, Asked, Remembered, AuthenticatorState, forgotten}
use Rattle.authenticator.specs.Credentials.{credential_of, with_sign_count}
use Rattle.authenticator.specs.Orders.{is_true, is_false, creation_flags, assertion_flags, first_supported, candidates, kept, creation_order}
use Rattle.authenticator.specs.Orders.{assertion_order, next_order, remembered_on, reset_order}
use Rattle.authenticator.specs.declared.consent.Consent.{Consent}
use Rattle.authenticator.specs.declared.consent.Words.{Words}

-- ---- what a call comes to

-- what a signature is for (WebAuthn Level 2, sections 6.5 and 6.3.3)
pub data Purpose : Type 0 where
  attestation : Purpose
  assertion : Purpose

-- a signing: under which key, of which message, and the consent given to the request that it answers
pub record Entry : Type 0 where
  pub key : CoseKey
  pub message : List ℕ
  pub purpose : Purpose
  pub consent : Consent

-- the reply's bytes, the state afterwards, the call's signings, and the keys that it made
pub record Outcome : Type 0 where
  pub reply : List ℕ
  pub state : AuthenticatorState
  pub signed : List Entry
  pub made : List CoseKey

-- a status alone; what was remembered is forgotten
abbrev pub refusal : AuthenticatorState → ℕ → Outcome
refusal old status = record { reply = status ∷ []; state = forgotten old; signed = []; made = [] }

-- the refusal by the status that is due, and otherwise this
abbrev pub Unless : Option ℕ → AuthenticatorState → Outcome → Type 0 → Type 0
Unless (Some status) old out Succeeds = out ≡ refusal old status
Unless None old out Succeeds = Succeeds

-- ---- signatures

-- the public key of an algorithm and a secret
abbrev pub Keys : Type 0
Keys = SigningAlg → List ℕ → CoseKey

-- any 1 to 128 bytes that are valid
abbrev pub IsSignature : Validity → CoseKey → List ℕ → List ℕ → Type 0
IsSignature valid key message signature =
    (1 ≤ length signature) × (length signature ≤ 128) × valid key message signature

abbrev pub key_of : Keys → CredentialSource → CoseKey
key_of public c = public c.alg c.secret

-- UP is 1, UV is 4, AT is 64 (WebAuthn Level 2, section 6.1)
abbrev pub up_bit : Bool → ℕ
up_bit up = if up then 0x01 else 0

abbrev pub uv_bit : Bool → ℕ
uv_bit uv = if uv then 0x04 else 0

-- ---- authenticatorMakeCredential (section 6.1.2)

-- the request's, which stands last; its counter is 0
abbrev pub new_credential : CreationRequest → SigningAlg → Words → CredentialSource
new_credential q alg words = record {
  id = words.id;
  rp_id = q.rp.id;
  user = q.user.id;
  secret = words.secret;
  alg = alg;
  resident = is_true (creation_flags q.options).rk;
  sign_count = 0;
}

-- UP and AT, and UV exactly if it was asked for
abbrev pub creation_data : AuthenticatorState → CreationRequest → List ℕ → CoseKey → AuthenticatorData
creation_data a q id key = record {
  rp_id_hash = sha256 q.rp.id;
  flags = 0x41 + uv_bit (is_true (creation_flags q.options).uv);
  sign_count = 0;
  attested = Some (record { aaguid = a.aaguid; id = id; key = key });
  extensions = None;
}

-- its statement, and what is signed for it: none (WebAuthn Level 2, section 8.7), or packed self attestation
-- (section 8.2), over the authenticator data and then the hash of the client data
abbrev pub MakesStatement : Validity → CoseKey → List ℕ → Consent → AttestationType → Creation → List Entry → Type 0
MakesStatement valid key client_data_hash consent types.None r signed =
    (r.fmt ≡ codes "none") × (r.statement ≡ none_statement) × (signed ≡ [])
MakesStatement valid key client_data_hash consent types.SelfSigned r signed =
    (r.fmt ≡ codes "packed")
    × ((signature : List ℕ) × IsSignature valid key (r.auth_data ++ client_data_hash) signature
    × (r.statement ≡ packed_statement (alg_of key) signature))
    × (signed ≡ record { key = key; message = r.auth_data ++ client_data_hash; purpose = attestation; consent = consent } ∷ [])

-- a credential is made
pub record Creates (valid : Validity) (public : Keys) (old : AuthenticatorState) (q : CreationRequest) (consent : Consent) (words : Words)
    (out : Outcome) : Type 0 where
  pub alg : SigningAlg
  pub chosen : first_supported q.pub_key_cred_params ≡ Some alg
  pub shown : Creation
  pub spelled : AuthOf Strict (creation_data old q words.id (public alg words.secret)) shown.auth_data
  pub attested : MakesStatement valid (public alg words.secret) q.client_data_hash consent old.attest shown out.signed
  pub reply : ReplyOf (creation_reply shown) out.reply
  pub state : out.state ≡ record (forgotten old) { credentials = kept old.credentials q ++ new_credential q alg words ∷ [] }
  pub made : out.made ≡ public alg words.secret ∷ []

-- ---- authenticatorGetAssertion (section 6.2.2) and authenticatorGetNextAssertion (section 6.3)

abbrev pub asked_by : ℕ → AssertionRequest → Consent → Asked
asked_by channel q consent = record {
  channel = channel;
  client_data_hash = q.client_data_hash;
  up = not (is_false (assertion_flags q.options).up);
  uv = is_true (assertion_flags q.options).uv;
  consent = consent;
}

-- the counter has grown by one
abbrev pub assertion_data : CredentialSource → Asked → AuthenticatorData
assertion_data c asked = record {
  rp_id_hash = sha256 c.rp_id;
  flags = up_bit asked.up + uv_bit asked.uv;
  sign_count = c.sign_count + 1;
  attested = None;
  extensions = None;
}

-- the user is named exactly for a resident credential
abbrev pub shown_user : CredentialSource → Option (List ℕ)
shown_user c = if c.resident then Some c.user else None

-- what answers it: the authenticator data, a signature over them and then the hash, and the credential
pub record IsAssertion (valid : Validity) (public : Keys) (c : CredentialSource) (asked : Asked) (count : Option ℕ) (r : Assertion) : Type 0 where
  pub spelled : AuthOf Strict (assertion_data c asked) r.auth_data
  pub signs : IsSignature valid (key_of public c) (r.auth_data ++ asked.client_data_hash) r.signature
  pub credential : r.credential ≡ c.id
  pub user : r.user ≡ shown_user c
  pub number : r.number ≡ count

-- what is remembered of it where others are still to come
abbrev pub remembering : Asked → List (List ℕ) → Option Remembered
remembering asked [] = None
remembering asked (id ∷ ids) = Some (record { asked = asked; next = id; later = ids })

-- the credential of this id answers
pub record AnswersWith (valid : Validity) (public : Keys) (old : AuthenticatorState) (id : List ℕ) (asked : Asked) (later : List (List ℕ))
    (message : Assertion → ReplyMessage) (count : Option ℕ) (out : Outcome) : Type 0 where
  pub credential : CredentialSource
  pub found : credential_of id old.credentials ≡ Some credential
  pub shown : Assertion
  pub asserts : IsAssertion valid public credential asked count shown
  pub reply : ReplyOf (message shown) out.reply
  pub state : out.state ≡ record old { credentials = with_sign_count id (credential.sign_count + 1) old.credentials; remembered = remembering asked later }
  pub signed : out.signed ≡ record {
    key = key_of public credential;
    message = shown.auth_data ++ asked.client_data_hash;
    purpose = assertion;
    consent = asked.consent;
  } ∷ []
  pub made : out.made ≡ []

-- how many may answer, told where they are several: the first, and the later ones
abbrev pub number_with : List (List ℕ) → Option ℕ
number_with [] = None
number_with (id ∷ ids) = Some (2 + length ids)

-- the first of them answers
abbrev pub FirstAnswers : Validity → Keys → AuthenticatorState → List (List ℕ) → Asked → Outcome → Type 0
FirstAnswers valid public old [] asked out = ⊥
FirstAnswers valid public old (id ∷ ids) asked out =
    AnswersWith valid public old id asked ids assertion_reply (number_with ids) out

-- the next of those remembered answers
abbrev pub NextAnswers : Validity → Keys → AuthenticatorState → Option Remembered → Outcome → Type 0
NextAnswers valid public old None out = ⊥
NextAnswers valid public old (Some r) out = AnswersWith valid public old r.next r.asked r.later next_reply None out

-- ---- authenticatorGetInfo (section 6.4): what it gives is this product's

abbrev pub info_of : List ℕ → Bool → Info
info_of aaguid uv = record {
  versions = codes "FIDO_2_0" ∷ [];
  aaguid = aaguid;
  options = (codes "rk", true) ∷ (codes "up", true) ∷ (codes "uv", uv) ∷ (codes "plat", false) ∷ [];
  max_msg_size = 7609;
  max_credential_count_in_list = 8;
  max_credential_id_length = 64;
}

pub record Informs (old : AuthenticatorState) (out : Outcome) : Type 0 where
  pub reply : ReplyOf (info_reply (info_of old.aaguid old.uv)) out.reply
  pub state : out.state ≡ forgotten old
  pub signed : out.signed ≡ []
  pub made : out.made ≡ []

-- ---- authenticatorReset (section 6.6): all credentials go

pub record Resets (old : AuthenticatorState) (out : Outcome) : Type 0 where
  pub reply : ReplyOf reset_reply out.reply
  pub state : out.state ≡ record (forgotten old) { credentials = [] }
  pub signed : out.signed ≡ []
  pub made : out.made ≡ []

-- ---- one call

-- a request that was read
abbrev pub CarriesOut : Validity → Keys → AuthenticatorState → ℕ → Consent → Words → RequestMessage → Outcome → Type 0
CarriesOut valid public old channel consent words (make_credential q) out =
    Unless (first_true (creation_order old q consent words)) old out (Creates valid public old q consent words out)
CarriesOut valid public old channel consent words (get_assertion q) out =
    Unless (first_true (assertion_order old q consent)) old out
    (FirstAnswers valid public old (candidates old.credentials q.rp_id q.allow_list) (asked_by channel q consent) out)
CarriesOut valid public old channel consent words get_next_assertion out =
    Unless (first_true (next_order old channel)) old out
    (NextAnswers valid public old (remembered_on channel old.remembered) out)
CarriesOut valid public old channel consent words get_info out = Informs old out
CarriesOut valid public old channel consent words reset out =
    Unless (first_true (reset_order consent)) old out (Resets old out)

-- bytes that are no request, by the status of the first rank that applies; or a request
abbrev pub Step : Validity → Keys → AuthenticatorState → ℕ → List ℕ → Consent → Words → Outcome → Type 0
Step valid public old channel bs consent words out =
    ((rank : Rank) × First (Applies bs) ranks rank × (out ≡ refusal old (status_of rank)))
    ⊎ ((q : RequestMessage) × IsRequest q bs × CarriesOut valid public old channel consent words q out)

-- some outcome with this reply and state
abbrev pub Comes : (Outcome → Type 0) → List ℕ → AuthenticatorState → Type 0
Comes P reply new =
    (signed : List Entry) × (made : List CoseKey)
    × P (record { reply = reply; state = new; signed = signed; made = made })

-- some step of the code: its reply and the state afterwards, with what is signed and made
abbrev pub Steps : Validity → Keys → AuthenticatorState → ℕ → List ℕ → Consent → Words → List ℕ → AuthenticatorState → Type 0
Steps valid public old channel bs consent words reply new =
    (signed : List Entry) × (made : List CoseKey)
    × Step valid public old channel bs consent words (record { reply = reply; state = new; signed = signed; made = made })
