-- An authenticator answers with a credential: at a getAssertion, and at a getNextAssertion. And it is reset.
use Rattle.std.proofs.Common.{◌≡◌, ◌<◌, ◌+◌, ◌^◌, ◌++◌, ℕ, List, [], ◌∷◌, Bool, true, false, Option, None, Some, length, refl, sym, subst, arith, inr}
use Rattle.std.specs.Prelude.{IfSome}
use Rattle.sha2.specs.Sha256.{sha256}
use Rattle.sha2.proofs.Facts256.{length-sha256}
use Rattle.refusal_order.specs.Lines.{first_true}
use Rattle.ccbor.specs.Canon.{spelling}
use Rattle.cose.specs.Bench.{bench_public, bench_valid}
use Rattle.cose.specs.Keys.{x_of}
use Rattle.authdata.specs.declared.profile.Profile.TheVariants.{Strict}
use Rattle.authdata.specs.declared.statement.AttestationType.{AttestationType}
use Rattle.authdata.specs.Flags.{is_set, HasBackup, AT, BE, ED, UP, UV}
use Rattle.authdata.specs.Layout.{AuthenticatorData, AuthOf, data_bytes}
use Rattle.authdata.proofs.Unique.{length-bare}
use Rattle.ctap_replies.specs.Pieces.{HasSizes}
use Rattle.ctap_replies.specs.Replies.{Assertion, ReplyOf, assertion_reply, assertion_reply_item, next_reply}
use Rattle.ctap_replies.proofs.AssertionBytes.{assertion_fits, next_clean}
use Rattle.ctap_requests.specs.Requests.{get_assertion, get_next_assertion, reset}
use Rattle.ctap_requests.specs.Status.{IsRequest}
use Rattle.authenticator.specs.State.{Asked, AuthenticatorState, CredentialSource, Remembered}
use Rattle.authenticator.specs.Credentials.{credential_of, with_sign_count}
use Rattle.authenticator.specs.Orders.{assertion_order, candidates, next_order, remembered_on}
use Rattle.authenticator.specs.Private.{IsCount, IsMessage}
use Rattle.authenticator.specs.Steps.{AnswersWith, Entry, FirstAnswers, IsAssertion, NextAnswers, Outcome, Step, Unless, asked_by, assertion, number_with, remembering, up_bit, uv_bit}
use Rattle.authenticator.specs.declared.consent.Words.{Words}
use Rattle.authenticator.proofs.Refusing.{not_at_end}
use Rattle.authenticator.proofs.Replies.{assertion_message}
use Rattle.client.specs.Asked.{assertion_of, descriptors_of}
use Rattle.client.specs.Options.{SignInOptions}
use Rattle.agreement.proofs.Asking.{none_against_assertion}
use Rattle.shown_runs.proofs.Requests.{next_request, reset_request}
use Rattle.shown_runs.proofs.Values.{device, filled, key, source}
use Rattle.shown_runs.proofs.Values as given

-- ---- flags

pub record Bits (uv : Bool) : Type 0 where
  pub small : up_bit true + uv_bit uv < 256
  pub bare : is_set (up_bit true + uv_bit uv) AT ≡ false
  pub alone : is_set (up_bit true + uv_bit uv) ED ≡ false
  pub backup : HasBackup (up_bit true + uv_bit uv)
  pub present : is_set (up_bit true + uv_bit uv) UP ≡ true
  pub verified : uv ≡ true → is_set (up_bit true + uv_bit uv) UV ≡ true
  pub eligible : is_set (up_bit true + uv_bit uv) BE ≡ false

pub bits : (uv : Bool) → Bits uv
bits true = record {
  small = omega arith;
  bare = refl;
  alone = refl;
  backup = λ e. absurd cc;
  present = refl;
  verified = λ e. refl;
  eligible = refl;
}
bits false = record {
  small = omega arith;
  bare = refl;
  alone = refl;
  backup = λ e. absurd cc;
  present = refl;
  verified = λ e. absurd cc;
  eligible = refl;
}

-- ---- what is signed, with this counter, and the assertion

abbrev pub signed : List ℕ → ℕ → Bool → AuthenticatorData
signed rp_id count uv =
    record { rp_id_hash = sha256 rp_id; flags = up_bit true + uv_bit uv; sign_count = count; attested = None; extensions = None }

abbrev pub signed_bytes : List ℕ → ℕ → Bool → List ℕ
signed_bytes rp_id count uv = data_bytes (signed rp_id count uv)

pub signed_spelled : (rp_id : List ℕ) (count : ℕ) (uv : Bool) → count < 2 ^ 32 → AuthOf Strict (signed rp_id count uv) (signed_bytes rp_id count uv)
signed_spelled rp_id count uv low =
    let flags = bits uv in (
      record {
        rp_id_hash = length-sha256 rp_id;
        flags = flags.small;
        sign_count = low;
        attested_flag = flags.bare;
        extensions_flag = flags.alone;
        no_extensions = λ e. refl;
        backup = flags.backup;
        attested = tt;
        extensions = tt;
      },
      refl,
    )

abbrev pub signature : List ℕ → ℕ → ℕ → Bool → List ℕ → List ℕ
signature rp_id n count uv text = sha256 (x_of (key n) ++ (signed_bytes rp_id count uv ++ sha256 text))

abbrev pub shown : List ℕ → ℕ → ℕ → Bool → List ℕ → Option ℕ → Assertion
shown rp_id n count uv text number = record {
  credential = filled n;
  auth_data = signed_bytes rp_id count uv;
  signature = signature rp_id n count uv text;
  user = Some (n ∷ []);
  number = number;
}

abbrev pub entry : List ℕ → ℕ → ℕ → Bool → List ℕ → Entry
entry rp_id n count uv text = record { key = key n; message = signed_bytes rp_id count uv ++ sha256 text; purpose = assertion; consent = given.consent }

module _ (rp_id : List ℕ) (n count : ℕ) (uv : Bool) (text : List ℕ) (low : count < 2 ^ 32) where
  signature_size : length (signature rp_id n count uv text) ≡ 32
  signature_size = length-sha256 (x_of (key n) ++ (signed_bytes rp_id count uv ++ sha256 text))

  data_size : length (signed_bytes rp_id count uv) ≡ 37
  data_size = length-bare (signed rp_id count uv) (signed_bytes rp_id count uv) (signed_spelled rp_id count uv low) refl

  -- the reply to a getAssertion
  message : (number : Option ℕ) → IfSome number IsCount → IsMessage (assertion_reply (shown rp_id n count uv text number))
  message number counts =
      let size = signature_size in
      assertion_message (shown rp_id n count uv text number) (record {
        credential = refl;
        auth_data = data_size;
        signature = omega (arith, size);
        user = (omega arith, omega arith);
        number = counts;
      })

  -- and to a getNextAssertion
  sizes : HasSizes (shown rp_id n count uv text None)
  sizes = ((omega arith, omega arith), (omega arith, omega arith), tt)

  pub next_bytes : List ℕ
  next_bytes = 0 ∷ spelling (assertion_reply_item (shown rp_id n count uv text None))

  next_spelled : ReplyOf (next_reply (shown rp_id n count uv text None)) next_bytes
  unfolding next_bytes
  next_spelled =
      let bytes = data_size in
      let size = signature_size in (
        spelling (assertion_reply_item (shown rp_id n count uv text None)),
        refl,
        (assertion_fits (shown rp_id n count uv text None) sizes (omega (arith, bytes)) (omega (arith, size)) tt, refl),
        next_clean (shown rp_id n count uv text None) refl sizes,
      )

-- ---- the steps

abbrev asking : Bool → List ℕ → Asked
asking uv text = record { channel = 1; client_data_hash = sha256 text; up = true; uv = uv; consent = given.consent }

abbrev answered : AttestationType → List CredentialSource → List ℕ → ℕ → ℕ → Bool → List ℕ → List (List ℕ) → List ℕ → Outcome
answered attest cs rp_id n count uv text later reply = record {
  reply = reply;
  state = device attest (with_sign_count (filled n) (count + 1) cs) (remembering (asking uv text) later);
  signed = entry rp_id n (count + 1) uv text ∷ [];
  made = [];
}

module _ (attest : AttestationType) (cs : List CredentialSource) (remembered : Option Remembered) (rp_id : List ℕ) (n count : ℕ) (uv : Bool) (text : List ℕ)
    (low : count + 1 < 2 ^ 32) (found : credential_of (filled n) cs ≡ Some (source rp_id n count)) where
  asserts : (number : Option ℕ) → IsAssertion bench_valid bench_public (source rp_id n count) (asking uv text) number
      (shown rp_id n (count + 1) uv text number)
  asserts number =
      let size = signature_size rp_id n (count + 1) uv text low in
      record {
        spelled = signed_spelled rp_id (count + 1) uv low;
        signs = (omega (arith, size), omega (arith, size), refl);
        credential = refl;
        user = refl;
        number = refl;
      }

  -- at a getAssertion, where these others are to come
  pub first_bytes : (later : List (List ℕ)) → IfSome (number_with later) IsCount → List ℕ
  first_bytes later counts = (message rp_id n (count + 1) uv text low (number_with later) counts).bytes

  abbrev pub first_outcome : (later : List (List ℕ)) → IfSome (number_with later) IsCount → Outcome
  first_outcome later counts = answered attest cs rp_id n count uv text later (first_bytes later counts)

  first_answers : (later : List (List ℕ)) (counts : IfSome (number_with later) IsCount)
      → AnswersWith bench_valid bench_public (device attest cs remembered) (filled n) (asking uv text) later assertion_reply (number_with later)
      (first_outcome later counts)
  unfolding first_bytes
  first_answers later counts = record {
    credential = source rp_id n count;
    found = found;
    shown = shown rp_id n (count + 1) uv text (number_with later);
    asserts = asserts (number_with later);
    reply = (message rp_id n (count + 1) uv text low (number_with later) counts).spelled;
    state = refl;
    signed = refl;
    made = refl;
  }

  pub first_step : (o : SignInOptions) (bs : List ℕ) (w : Words) (later : List (List ℕ)) (counts : IfSome (number_with later) IsCount)
      → IsRequest (get_assertion (assertion_of o text)) bs → o.uv ≡ uv
      → candidates cs o.rp_id (descriptors_of o.allow) ≡ filled n ∷ later → asked_by 1 (assertion_of o text) given.consent ≡ asking uv text
      → Step bench_valid bench_public (device attest cs remembered) 1 bs given.consent w (first_outcome later counts)
  first_step o bs w later counts is wants first asks =
      let old : AuthenticatorState = device attest cs remembered in
      let out : Outcome = first_outcome later counts in
      let none : first_true (assertion_order old (assertion_of o text) given.consent) ≡ None =
      none_against_assertion old o text given.consent (filled n) later (λ e. refl) refl (λ e. refl) first
      (not_at_end (filled n) cs (source rp_id n count) found (omega (arith, low))) in
      let now : FirstAnswers bench_valid bench_public old (filled n ∷ later) (asked_by 1 (assertion_of o text) given.consent) out =
      subst (λ (a : Asked). FirstAnswers bench_valid bench_public old (filled n ∷ later) a out) (sym asks) (first_answers later counts) in
      inr (
        get_assertion (assertion_of o text),
        is,
        subst (λ (d : Option ℕ). Unless d old out
            (FirstAnswers bench_valid bench_public old (candidates cs o.rp_id (descriptors_of o.allow)) (asked_by 1 (assertion_of o text) given.consent) out))
            (sym none)
            (subst (λ (l : List (List ℕ)). FirstAnswers bench_valid bench_public old l (asked_by 1 (assertion_of o text) given.consent) out) (sym first) now),
      )

-- at a getNextAssertion, the last that is to come
module _ (attest : AttestationType) (cs : List CredentialSource) (rp_id : List ℕ) (n count : ℕ) (uv : Bool) (text : List ℕ)
    (low : count + 1 < 2 ^ 32) (found : credential_of (filled n) cs ≡ Some (source rp_id n count)) where
  abbrev left : Option Remembered
  left = Some (record { asked = asking uv text; next = filled n; later = [] })

  abbrev pub next_outcome : Outcome
  next_outcome = answered attest cs rp_id n count uv text [] (next_bytes rp_id n (count + 1) uv text low)

  next_answers : NextAnswers bench_valid bench_public (device attest cs left) (remembered_on 1 left) next_outcome
  next_answers = record {
    credential = source rp_id n count;
    found = found;
    shown = shown rp_id n (count + 1) uv text None;
    asserts = asserts attest cs left rp_id n count uv text low found None;
    reply = next_spelled rp_id n (count + 1) uv text low;
    state = refl;
    signed = refl;
    made = refl;
  }

  pub next_step : (w : Words) → Step bench_valid bench_public (device attest cs left) 1 (8 ∷ []) given.consent w next_outcome
  next_step w =
      let old : AuthenticatorState = device attest cs left in
      let none : first_true (next_order old 1) ≡ None =
      (let room = not_at_end (filled n) cs (source rp_id n count) found (omega (arith, low)) in rw room refl) in
      inr (
        get_next_assertion,
        next_request,
        subst (λ (d : Option ℕ). Unless d old next_outcome (NextAnswers bench_valid bench_public old (remembered_on 1 left) next_outcome)) (sym none) next_answers,
      )

-- ---- a reset

abbrev pub emptied : AttestationType → Outcome
emptied attest = record { reply = 0 ∷ []; state = device attest [] None; signed = []; made = [] }

pub reset_step : (attest : AttestationType) (cs : List CredentialSource) (remembered : Option Remembered) (w : Words)
    → Step bench_valid bench_public (device attest cs remembered) 1 (7 ∷ []) given.consent w (emptied attest)
reset_step attest cs remembered w = inr (reset, reset_request, record { reply = refl; state = refl; signed = refl; made = refl })
