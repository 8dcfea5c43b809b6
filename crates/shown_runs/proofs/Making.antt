-- An authenticator makes a credential, with no attestation or with its own.
use Rattle.std.proofs.Common.{◌≡◌, ◌≤◌, ◌<◌, ◌++◌, ℕ, List, [], ◌∷◌, Option, None, Some, length, codes, refl, sym, subst, arith, inr, IsUtf8}
use Rattle.sha2.specs.Sha256.{sha256}
use Rattle.sha2.proofs.Facts256.{length-sha256}
use Rattle.refusal_order.specs.Lines.{first_true}
use Rattle.ccbor.specs.Item.{Item}
use Rattle.cose.specs.Bench.{bench_public, bench_valid}
use Rattle.cose.specs.Keys.{encoded_length, x_of}
use Rattle.cose.specs.declared.key.Alg.TheVariants as algs
use Rattle.cose.specs.declared.key.SigningAlg.TheVariants as signing
use Rattle.authdata.specs.declared.profile.Profile.TheVariants.{Strict}
use Rattle.authdata.specs.declared.statement.AttestationType.{AttestationType}
use Rattle.authdata.specs.declared.statement.AttestationType.TheVariants as types
use Rattle.authdata.specs.Layout.{AuthenticatorData, AuthOf, data_bytes}
use Rattle.authdata.specs.Statements.{none_statement, packed_statement}
use Rattle.ctap_replies.specs.Replies.{Creation, ReplyOf, creation_reply}
use Rattle.ctap_requests.specs.Requests.{CreationRequest, make_credential}
use Rattle.authenticator.specs.State.{AuthenticatorState, CredentialSource}
use Rattle.authenticator.specs.Credentials.{credential_of}
use Rattle.authenticator.specs.Orders.{creation_order, kept}
use Rattle.authenticator.specs.Private.{IsMessage}
use Rattle.authenticator.specs.Steps.{Creates, Entry, MakesStatement, Outcome, Step, Unless, attestation}
use Rattle.authenticator.proofs.Attesting.{creation_length}
use Rattle.authenticator.proofs.Replies.{packed_message, plain_message}
use Rattle.client.specs.Asked.{creation_of}
use Rattle.agreement.specs.Lived.{attested_by}
use Rattle.agreement.proofs.Asking.{none_against_creation}
use Rattle.agreement.proofs.Storing.{few_kept}
use Rattle.shown_runs.proofs.Requests.{creating, creation_request}
use Rattle.shown_runs.proofs.Values.{credential, device, filled, key, registering, source, words}
use Rattle.shown_runs.proofs.Values as given

-- ---- what is attested

abbrev pub attested : List ℕ → ℕ → AuthenticatorData
attested rp_id n = record { rp_id_hash = sha256 rp_id; flags = 0x41; sign_count = 0; attested = Some (credential n); extensions = None }

abbrev pub attested_bytes : List ℕ → ℕ → List ℕ
attested_bytes rp_id n = data_bytes (attested rp_id n)

pub attested_spelled : (rp_id : List ℕ) (n : ℕ) → AuthOf Strict (attested rp_id n) (attested_bytes rp_id n)
attested_spelled rp_id n = (
  record {
    rp_id_hash = length-sha256 rp_id;
    flags = omega arith;
    sign_count = omega arith;
    attested_flag = refl;
    extensions_flag = refl;
    no_extensions = λ e. refl;
    backup = λ e. absurd cc;
    attested = record { aaguid = refl; id_low = omega arith; id_high = omega arith; key = length-sha256 (filled n) };
    extensions = tt;
  },
  refl,
)

-- by the key itself, over the authenticator data and the hash of the client data
abbrev pub self_signature : List ℕ → ℕ → List ℕ → List ℕ
self_signature rp_id n text = sha256 (x_of (key n) ++ (attested_bytes rp_id n ++ sha256 text))

abbrev form : AttestationType → List ℕ
form types.None = codes "none"
form types.SelfSigned = codes "packed"

abbrev statement : AttestationType → List ℕ → ℕ → List ℕ → Item
statement types.None rp_id n text = none_statement
statement types.SelfSigned rp_id n text = packed_statement algs.EdDsa (self_signature rp_id n text)

abbrev pub creation : AttestationType → List ℕ → ℕ → List ℕ → Creation
creation attest rp_id n text = record { fmt = form attest; auth_data = attested_bytes rp_id n; statement = statement attest rp_id n text }

abbrev pub attesting : List ℕ → ℕ → List ℕ → Entry
attesting rp_id n text = record { key = key n; message = attested_bytes rp_id n ++ sha256 text; purpose = attestation; consent = given.consent }

pub states : (attest : AttestationType) (rp_id : List ℕ) (n : ℕ) (text : List ℕ)
    → MakesStatement bench_valid (key n) (sha256 text) given.consent attest (creation attest rp_id n text) (attested_by attest (attesting rp_id n text))
states types.None rp_id n text = (refl, refl, refl)
states types.SelfSigned rp_id n text =
    let size = length-sha256 (x_of (key n) ++ (attested_bytes rp_id n ++ sha256 text)) in
    (refl, (self_signature rp_id n text, (omega (arith, size), omega (arith, size), refl), refl), refl)

-- ---- the reply

abbrev request : List ℕ → ℕ → List ℕ → CreationRequest
request rp_id n text = creation_of (registering rp_id n []) text

key_size : (n : ℕ) → encoded_length (key n) ≤ 77
key_size n = omega arith

short : (rp_id : List ℕ) (n : ℕ) → length (attested_bytes rp_id n) ≤ 164
short rp_id n =
    creation_length (device types.None [] None) (request rp_id n []) (filled n) (key n) (attested_bytes rp_id n) (attested_spelled rp_id n) (key_size n) refl

message : (attest : AttestationType) (rp_id : List ℕ) (n : ℕ) (text : List ℕ) → IsMessage (creation_reply (creation attest rp_id n text))
message types.None rp_id n text = plain_message (creation types.None rp_id n text) refl refl (short rp_id n)
message types.SelfSigned rp_id n text =
    let size = length-sha256 (x_of (key n) ++ (attested_bytes rp_id n ++ sha256 text)) in
    packed_message (creation types.SelfSigned rp_id n text) signing.EdDsa (self_signature rp_id n text) refl refl (omega (arith, size)) (short rp_id n)

pub creation_bytes : AttestationType → List ℕ → ℕ → List ℕ → List ℕ
creation_bytes attest rp_id n text = (message attest rp_id n text).bytes

pub creation_spelled : (attest : AttestationType) (rp_id : List ℕ) (n : ℕ) (text : List ℕ)
    → ReplyOf (creation_reply (creation attest rp_id n text)) (creation_bytes attest rp_id n text)
unfolding creation_bytes
creation_spelled attest rp_id n text = (message attest rp_id n text).spelled

-- ---- the step

abbrev pub made : AttestationType → List ℕ → ℕ → List ℕ → List CredentialSource → Outcome
made attest rp_id n text cs = record {
  reply = creation_bytes attest rp_id n text;
  state = device attest (kept cs (request rp_id n text) ++ source rp_id n 0 ∷ []) None;
  signed = attested_by attest (attesting rp_id n text);
  made = key n ∷ [];
}

pub makes : (attest : AttestationType) (rp_id : List ℕ) (n : ℕ) (text : List ℕ) (cs : List CredentialSource) → length rp_id ≡ 11 → IsUtf8 rp_id
    → credential_of (filled n) cs ≡ None → length cs < 256
    → Step bench_valid bench_public (device attest cs None) 1 (creating rp_id n text) given.consent (words n) (made attest rp_id n text cs)
makes attest rp_id n text cs rp_size rp_text new few =
    let old : AuthenticatorState = device attest cs None in
    let creates : Creates bench_valid bench_public old (request rp_id n text) given.consent (words n) (made attest rp_id n text cs) = record {
      alg = signing.EdDsa;
      chosen = refl;
      shown = creation attest rp_id n text;
      spelled = attested_spelled rp_id n;
      attested = states attest rp_id n text;
      reply = creation_spelled attest rp_id n text;
      state = refl;
      made = refl;
    } in
    let none : first_true (creation_order old (request rp_id n text) given.consent (words n)) ≡ None =
    none_against_creation old (registering rp_id n []) text given.consent (words n) (signing.EdDsa, (0, omega arith, refl)) (λ e. refl) refl (λ e. refl) refl
    new (few_kept cs (request rp_id n text) few) in
    inr (
      make_credential (request rp_id n text),
      creation_request rp_id rp_size rp_text text n,
      subst (λ (o : Option ℕ). Unless o old (made attest rp_id n text cs)
          (Creates bench_valid bench_public old (request rp_id n text) given.consent (words n) (made attest rp_id n text cs))) (sym none) creates,
    )
