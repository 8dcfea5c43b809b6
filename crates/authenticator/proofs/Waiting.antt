-- What waits for its signature, and what its signature makes of it.
use Rattle.std.proofs.Common.{◌≡◌, ◌<◌, ◌≤◌, ◌++◌, ◌∷◌, [], ℕ, List, Option, Some, Vec, Global, length, refl, sym, ap, subst, rules, true}
use Rattle.std.specs.Prelude.{Result, Ok, Err, IfOk, OnErr, codes}
use Rattle.cose.specs.Keys.{alg_of, signed_alg}
use Rattle.cose.specs.Schemes.{Validity}
use Rattle.cose.specs.declared.key.SigningAlg.{SigningAlg}
use Rattle.cose.specs.declared.key.CoseKey.{CoseKey}
use Rattle.authdata.specs.declared.profile.Profile.TheVariants.{Strict}
use Rattle.authdata.specs.Layout.{AuthOf}
use Rattle.authdata.specs.Statements.{none_statement, packed_statement}
use Rattle.authdata.specs.declared.statement.AttestationType.{AttestationType}
use Rattle.authdata.specs.declared.statement.AttestationType.TheVariants as types
use Rattle.ctap_requests.specs.Requests.{CreationRequest}
use Rattle.ctap_replies.specs.Replies.{Assertion, Creation, ReplyMessage, ReplyOf, creation_reply}
use Rattle.authenticator.specs.State.{Asked, AuthenticatorState, CredentialSource, forgotten}
use Rattle.authenticator.specs.Credentials.{credential_of}
use Rattle.authenticator.specs.Orders.{first_supported, is_at_end, kept}
use Rattle.authenticator.specs.Private.{IsAttested}
use Rattle.authenticator.specs.Signing.{SigningLaws, AnswersBy, Begins, BeginsBy, Finishes, message_of, no_signature, only}
use Rattle.authenticator.specs.Steps.{AnswersWith, Comes, Creates, IsSignature, Keys, Outcome, Step, Steps, assertion_data, creation_data, key_of}
use Rattle.authenticator.specs.Steps.{new_credential, shown_user}
use Rattle.authenticator.specs.declared.consent.Consent.{Consent}
use Rattle.authenticator.specs.declared.consent.Words.{Words}
use Rattle.authenticator.specs.declared.pending.Begun.{Begun}
use Rattle.authenticator.specs.declared.pending.Begun.TheVariants as begun
use Rattle.authenticator.specs.declared.pending.Pending.{Pending}
use Rattle.authenticator.proofs.Attesting.{attested_packed}
use Rattle.authenticator.proofs.Refusing.{answered, created}
use Rattle.authenticator.proofs.Wider.{step}

-- ---- assertions

pub answers : (public : Keys) (old new : AuthenticatorState) (c : CredentialSource) (id : List ℕ) (asked : Asked) (later : List (List ℕ))
    (message : Assertion → ReplyMessage) (count : Option ℕ) (auth signature reply : List ℕ)
    → credential_of id old.credentials ≡ Some c → c.sign_count < 4294967295 → AuthOf Strict (assertion_data c asked) auth
    → 1 ≤ length signature → length signature ≤ 128
    → AnswersBy old id asked later message count auth signature reply new
    → Comes (AnswersWith (only (key_of public c) (auth ++ asked.client_data_hash) signature) public old id asked later message count) reply new
answers public old new c id asked later message count auth signature reply found lt spelled low high f =
    let done = f c found lt in
    let shown : Assertion = record { credential = c.id; auth_data = auth; signature = signature; user = shown_user c; number = count } in
    answered (only (key_of public c) (auth ++ asked.client_data_hash) signature) public old new c id asked later message count shown reply found
    (record { spelled = spelled; signs = (low, high, (refl, refl, refl)); credential = refl; user = refl; number = refl }) done.0 done.1

-- a counter that can't grow
pub ended : (id : List ℕ) (cs : List CredentialSource) → is_at_end (credential_of id cs) ≡ true → (c : CredentialSource) → credential_of id cs ≡ Some c
    → c.sign_count < 4294967295 → ⊥
ended id cs end c found lt = search (rules, end, found, lt)

-- ---- attestations

pub creates_packed : (public : Keys) (old new : AuthenticatorState) (q : CreationRequest) (consent : Consent) (words : Words) (alg : SigningAlg)
    (auth signature reply : List ℕ)
    → old.attest ≡ types.SelfSigned → first_supported q.pub_key_cred_params ≡ Some alg
    → AuthOf Strict (creation_data old q words.id (public alg words.secret)) auth
    → alg_of (public alg words.secret) ≡ signed_alg alg → 1 ≤ length signature → length signature ≤ 128
    → ReplyOf (creation_reply (record { fmt = codes "packed"; auth_data = auth; statement = packed_statement (signed_alg alg) signature })) reply
    → new ≡ record (forgotten old) { credentials = kept old.credentials q ++ new_credential q alg words ∷ [] }
    → Comes (Creates (only (public alg words.secret) (auth ++ q.client_data_hash) signature) public old q consent words) reply new
creates_packed public old new q consent words alg auth signature reply attest chosen spelled keeps low high bytes state =
    let key = public alg words.secret in
    let valid = only key (auth ++ q.client_data_hash) signature in
    let r : Creation = record { fmt = codes "packed"; auth_data = auth; statement = packed_statement (signed_alg alg) signature } in
    created valid public old new q consent words alg r reply chosen spelled
    (attested_packed valid key q.client_data_hash consent old.attest r signature attest refl (low, high, (refl, refl, refl))
    (ap (λ a. packed_statement a signature) (sym keeps)))
    bytes state

pub creates_plain : (public : Keys) (old new : AuthenticatorState) (q : CreationRequest) (consent : Consent) (words : Words) (alg : SigningAlg)
    (auth reply : List ℕ)
    → old.attest ≡ types.None → first_supported q.pub_key_cred_params ≡ Some alg
    → AuthOf Strict (creation_data old q words.id (public alg words.secret)) auth
    → ReplyOf (creation_reply (record { fmt = codes "none"; auth_data = auth; statement = none_statement })) reply
    → new ≡ record (forgotten old) { credentials = kept old.credentials q ++ new_credential q alg words ∷ [] }
    → Comes (Creates no_signature public old q consent words) reply new
creates_plain public old new q consent words alg auth reply attest chosen spelled bytes state =
    let key = public alg words.secret in
    let r : Creation = record { fmt = codes "none"; auth_data = auth; statement = none_statement } in
    created no_signature public old new q consent words alg r reply chosen spelled
    (subst (λ (a : AttestationType). IsAttested no_signature key q.client_data_hash consent a r) (sym attest) ([], (refl, refl, refl)))
    bytes state

-- ---- requests

pub weaker : (X Y : Validity → Outcome → Type 0) (public : Keys) (old new : AuthenticatorState) (b : Begun)
    → ((valid : Validity) (out : Outcome) → X valid out → Y valid out) → BeginsBy X public old b new → BeginsBy Y public old b new
weaker X Y public old new (begun.Replied reply) w h = (h.0, h.1, w no_signature _ h.2)
weaker X Y public old new (begun.Signs p) w h = (
  h.0,
  λ signature reply after low high f.
      let d = h.1 signature reply after low high f in
      (d.0, d.1, w _ _ d.2),
)

-- both steps are one step of the authenticator

pub replied : (valid : Validity) (public : Keys) (old new : AuthenticatorState) (channel : ℕ) (bs : List ℕ) (consent : Consent) (words : Words)
    (reply : List ℕ)
    → Comes (λ out. Step no_signature public old channel bs consent words out) reply new
    → Steps valid public old channel bs consent words reply new
replied valid public old new channel bs consent words reply h =
    (h.0, h.1, step no_signature valid public old channel bs consent words _ (λ k m s never. absurd never) h.2)

pub composed : (valid : Validity) (public : Keys) (old middle new : AuthenticatorState) (channel : ℕ) (bs : List ℕ) (consent : Consent) (words : Words)
    (p : Pending) (signature reply : List ℕ)
    → Begins public old channel bs consent words (begun.Signs p) middle
    → IsSignature valid (public p.alg p.secret) (message_of p) signature
    → Finishes middle p signature reply new
    → Steps valid public old channel bs consent words reply new
composed valid public old middle new channel bs consent words p signature reply h is f =
    let key = public p.alg p.secret in
    let d = h.1 signature reply new is.0 is.1 (subst (λ (a : AuthenticatorState). Finishes a p signature reply new) h.0 f) in (
      d.0,
      d.1,
      step (only key (message_of p) signature) valid public old channel bs consent words _
          (λ k m s e. subst (λ (k : CoseKey). valid k m s) (sym e.0) (subst (λ (m : List ℕ). valid key m s) (sym e.1)
          (subst (λ (s : List ℕ). valid key (message_of p) s) (sym e.2) is.2))) d.2,
    )

pub composed_ok : {E : Type 0} (valid : Validity) (public : Keys) (old middle new : AuthenticatorState) (channel : ℕ) (bs : List ℕ) (consent : Consent)
    (words : Words) (p : Pending) (signature : List ℕ) (r : Result (Vec ℕ Global) E)
    → Begins public old channel bs consent words (begun.Signs p) middle
    → IsSignature valid (public p.alg p.secret) (message_of p) signature
    → IfOk r (λ v. Finishes middle p signature v.items new)
    → IfOk r (λ v. Steps valid public old channel bs consent words v.items new)
composed_ok valid public old middle new channel bs consent words p signature (Ok v) h is f =
    composed valid public old middle new channel bs consent words p signature v.items h is f
composed_ok valid public old middle new channel bs consent words p signature (Err e) h is f = tt

pub laws : (valid : Validity) (public : Keys) → SigningLaws valid public
laws valid public = record {
  replied = λ old new channel bs consent words reply h. replied valid public old new channel bs consent words reply.items h;
  signed = λ old middle new channel bs consent words p signature reply h is f.
      (h.0, composed valid public old middle new channel bs consent words p signature reply h is f);
}

-- an error of which this holds in any case
pub on_err : {T E : Type 0} (r : Result T E) (P : Type 0) → P → OnErr r P
on_err (Ok x) P p = tt
on_err (Err e) P p = p
