-- Orders of refusals, line by line; and what a refusal comes to.
use Rattle.std.proofs.Common.{◌≡◌, ◌<◌, ◌+◌, ◌++◌, ℕ, List, [], ◌∷◌, Bool, true, false, not, ◌&&◌, ◌||◌, Option, Some, None, refl, sym}
use Rattle.std.proofs.Common.{ap, ◌∙◌, subst, arith, rules}
use Rattle.std.specs.Prelude.{Result, Ok, Err, IfOk}
use Rattle.std.proofs.lemmas.Grind.{common_steps}
use Rattle.refusal_order.specs.Lines.{first_true}
use Rattle.ctap_requests.specs.Requests.{AssertionRequest, CreationRequest}
use Rattle.ctap_replies.specs.Replies.{Assertion, Creation, ReplyMessage, ReplyOf, creation_reply}
use Rattle.cose.specs.Schemes.{Validity}
use Rattle.cose.specs.declared.key.SigningAlg.{SigningAlg}
use Rattle.authdata.specs.declared.profile.Profile.TheVariants.{Strict}
use Rattle.authdata.specs.Layout.{AuthOf}
use Rattle.authenticator.specs.State.{Asked, CredentialSource, Remembered, AuthenticatorState, forgotten}
use Rattle.authenticator.specs.Credentials.{credential_of, with_sign_count}
use Rattle.authenticator.specs.Orders.{assertion_flags, assertion_order, candidates, first_is_at_end, first_supported, is_at_end, is_empty, is_false}
use Rattle.authenticator.specs.Orders.{is_true, kept, next_order, remembered_on}
use Rattle.authenticator.specs.Private.{FirstBegins, AssertionBegins, IsAttested, consent_order}
use Rattle.authenticator.specs.Signing.{BeginsBy}
use Rattle.authenticator.specs.declared.pending.Begun.{Begun}
use Rattle.authenticator.specs.Steps.{AnswersWith, Comes, Creates, Entry, FirstAnswers, IsAssertion, Keys, Outcome, Unless, asked_by}
use Rattle.authenticator.specs.Steps.{assertion, creation_data, key_of, new_credential, refusal, remembering}
use Rattle.authenticator.specs.declared.consent.Consent.{Consent}
use Rattle.authenticator.specs.declared.consent.Words.{Words}

-- ---- lines

pub here : (b : Bool) (s : ℕ) (rest : List (Bool × ℕ)) → b ≡ true → first_true ((b, s) ∷ rest) ≡ Some s
here b s rest e = rw e refl

pub past : (b : Bool) (s : ℕ) (rest : List (Bool × ℕ)) (o : Option ℕ) → b ≡ false → first_true rest ≡ o → first_true ((b, s) ∷ rest) ≡ o
past b s rest o e h = rw e h

two_some : (b c : Bool) (s t : ℕ) (rest : List (Bool × ℕ)) (o : ℕ) → first_true ((b, s) ∷ (c, t) ∷ []) ≡ Some o → first_true ((b, s) ∷ (c, t) ∷ rest) ≡ Some o
two_some b c s t rest o e = grind (arith, common_steps, e)

two_none : (b c : Bool) (s t : ℕ) (rest : List (Bool × ℕ)) → first_true ((b, s) ∷ (c, t) ∷ []) ≡ None → first_true ((b, s) ∷ (c, t) ∷ rest) ≡ first_true rest
two_none b c s t rest e = grind (arith, common_steps, e)

-- ---- refusals

pub refused : (old new : AuthenticatorState) (status : ℕ) (reply : List ℕ) (o : Option ℕ) (X : Outcome → Type 0) → o ≡ Some status → reply ≡ status ∷ []
    → new ≡ forgotten old
    → Comes (λ out. Unless o old out (X out)) reply new
refused old new status reply o X due r n =
    let out : Outcome = record { reply = reply; state = new; signed = []; made = [] } in
    let same : out ≡ refusal old status = cc in
    ([], [], subst (λ (p : Option ℕ). Unless p old out (X out)) (sym due) same)

-- no refusal is due
pub allowed : (old new : AuthenticatorState) (reply : List ℕ) (o : Option ℕ) (X : Outcome → Type 0) → o ≡ None → Comes X reply new
    → Comes (λ out. Unless o old out (X out)) reply new
allowed old new reply o X none h =
    let out : Outcome = record { reply = reply; state = new; signed = h.0; made = h.1 } in
    (h.0, h.1, subst (λ (p : Option ℕ). Unless p old out (X out)) (sym none) h.2)

-- ---- answers

pub answered : (valid : Validity) (public : Keys) (old new : AuthenticatorState) (c : CredentialSource) (id : List ℕ) (asked : Asked) (later : List (List ℕ))
    (message : Assertion → ReplyMessage) (count : Option ℕ) (r : Assertion) (reply : List ℕ)
    → credential_of id old.credentials ≡ Some c → IsAssertion valid public c asked count r → ReplyOf (message r) reply
    → new ≡ record old { credentials = with_sign_count id (c.sign_count + 1) old.credentials; remembered = remembering asked later }
    → Comes (AnswersWith valid public old id asked later message count) reply new
answered valid public old new c id asked later message count r reply found is spelled state =
    let entry : Entry = record { key = key_of public c; message = r.auth_data ++ asked.client_data_hash; purpose = assertion; consent = asked.consent } in
    (entry ∷ [], [], record { credential = c; found = found; shown = r; asserts = is; reply = spelled; state = state; signed = refl; made = refl })

pub not_at_end : (id : List ℕ) (cs : List CredentialSource) (c : CredentialSource) → credential_of id cs ≡ Some c → c.sign_count < 4294967295
    → is_at_end (credential_of id cs) ≡ false
not_at_end id cs c found lt = search (rules, found, lt)

pub created : (valid : Validity) (public : Keys) (old new : AuthenticatorState) (q : CreationRequest) (consent : Consent) (words : Words) (alg : SigningAlg)
    (r : Creation) (reply : List ℕ)
    → first_supported q.pub_key_cred_params ≡ Some alg → AuthOf Strict (creation_data old q words.id (public alg words.secret)) r.auth_data
    → IsAttested valid (public alg words.secret) q.client_data_hash consent old.attest r → ReplyOf (creation_reply r) reply
    → new ≡ record (forgotten old) { credentials = kept old.credentials q ++ new_credential q alg words ∷ [] }
    → Comes (Creates valid public old q consent words) reply new
created valid public old new q consent words alg r reply chosen spelled attested bytes state = (
  attested.0,
  public alg words.secret ∷ [],
  record { alg = alg; chosen = chosen; shown = r; spelled = spelled; attested = attested.1; reply = bytes; state = state; made = refl },
)

-- ---- getAssertion

abbrev unmet : AuthenticatorState → AssertionRequest → Bool
unmet a q = is_true (assertion_flags q.options).uv && not a.uv

abbrev denied : AssertionRequest → Consent → Bool
denied q consent = (not (is_false (assertion_flags q.options).up) && not consent.present) || (is_true (assertion_flags q.options).uv && not consent.verified)

abbrev others : AuthenticatorState → List (List ℕ) → List (Bool × ℕ)
others a ids = (is_empty ids, 0x2E) ∷ (first_is_at_end a.credentials ids, 0x7F) ∷ []

pub consent_due : (a : AuthenticatorState) (q : AssertionRequest) (consent : Consent) (s : ℕ) → first_true (consent_order a q consent) ≡ Some s
    → first_true (assertion_order a q consent) ≡ Some s
consent_due a q consent s e = two_some (unmet a q) (denied q consent) 0x2C 0x27 (others a (candidates a.credentials q.rp_id q.allow_list)) s e

pub none_due : (a : AuthenticatorState) (q : AssertionRequest) (consent : Consent) → first_true (consent_order a q consent) ≡ None
    → [] ≡ candidates a.credentials q.rp_id q.allow_list
    → first_true (assertion_order a q consent) ≡ Some 0x2E
none_due a q consent e none =
    two_none (unmet a q) (denied q consent) 0x2C 0x27 (others a (candidates a.credentials q.rp_id q.allow_list)) e
    ∙ ap (λ ids. first_true (others a ids)) (sym none)

end_due : (a : AuthenticatorState) (q : AssertionRequest) (consent : Consent) (id : List ℕ) (ids : List (List ℕ))
    → first_true (consent_order a q consent) ≡ None → id ∷ ids ≡ candidates a.credentials q.rp_id q.allow_list
    → first_true ((first_is_at_end a.credentials (id ∷ ids), 0x7F) ∷ []) ≡ first_true (assertion_order a q consent)
end_due a q consent id ids e some =
    ap (λ ids. first_true (others a ids)) some
    ∙ sym (two_none (unmet a q) (denied q consent) 0x2C 0x27 (others a (candidates a.credentials q.rp_id q.allow_list)) e)

pub first_begins : {E : Type 0} (public : Keys) (old new : AuthenticatorState) (channel : ℕ) (consent : Consent) (q : AssertionRequest)
    (id : List ℕ) (ids : List (List ℕ)) (asked : Asked) (r : Result Begun E)
    → first_true (consent_order old q consent) ≡ None → id ∷ ids ≡ candidates old.credentials q.rp_id q.allow_list → asked ≡ asked_by channel q consent
    → IfOk r (λ b. FirstBegins public old (id ∷ ids) asked b new) → IfOk r (λ b. AssertionBegins public old channel q consent b new)
first_begins public old new channel consent q id ids asked (Ok b) none some is h =
    let P : Option ℕ → List (List ℕ) → Asked → Type 0 =
    λ o l a. BeginsBy (λ valid out. Unless o old out (FirstAnswers valid public old l a out)) public old b new in
    let one : P (first_true (assertion_order old q consent)) (id ∷ ids) asked =
    subst (λ (o : Option ℕ). P o (id ∷ ids) asked) (end_due old q consent id ids none some) h in
    let two : P (first_true (assertion_order old q consent)) (candidates old.credentials q.rp_id q.allow_list) asked =
    subst (λ (l : List (List ℕ)). P (first_true (assertion_order old q consent)) l asked) some one in
    subst (λ (a : Asked). P (first_true (assertion_order old q consent)) (candidates old.credentials q.rp_id q.allow_list) a) is two
first_begins public old new channel consent q id ids asked (Err e) none some is h = tt

-- ---- getNextAssertion

pub next_none : (a : AuthenticatorState) (channel : ℕ) → None ≡ remembered_on channel a.remembered → first_true (next_order a channel) ≡ Some 0x30
next_none a channel e = rw (← e) refl

pub next_end : (a : AuthenticatorState) (channel : ℕ) (r : Remembered) → Some r ≡ remembered_on channel a.remembered
    → is_at_end (credential_of r.next a.credentials) ≡ true
    → first_true (next_order a channel) ≡ Some 0x7F
next_end a channel r e at = rw (← e, at) refl

pub next_goes : (a : AuthenticatorState) (channel : ℕ) (r : Remembered) → Some r ≡ remembered_on channel a.remembered
    → is_at_end (credential_of r.next a.credentials) ≡ false
    → first_true (next_order a channel) ≡ None
next_goes a channel r e at = rw (← e, at) refl

pub remembered_is : (channel : ℕ) (o : Option Remembered) (r : Remembered) → Some r ≡ remembered_on channel o → o ≡ Some r
remembered_is channel None r e = absurd cc
remembered_is channel (Some s) r e = grind (arith, common_steps, e)
