-- A step with signatures that are valid is one wherever those are valid too.
use Rattle.std.proofs.Common.{ℕ, List, [], ◌∷◌, Option, Some, None, inl, inr}
use Rattle.cose.specs.Schemes.{Validity}
use Rattle.cose.specs.declared.key.CoseKey.{CoseKey}
use Rattle.authdata.specs.declared.statement.AttestationType.{AttestationType}
use Rattle.authdata.specs.declared.statement.AttestationType.TheVariants as types
use Rattle.ctap_replies.specs.Replies.{Assertion, Creation, ReplyMessage, assertion_reply, next_reply}
use Rattle.ctap_requests.specs.Requests.{CreationRequest, RequestMessage, get_assertion, get_info, get_next_assertion, make_credential, reset}
use Rattle.refusal_order.specs.Lines.{first_true}
use Rattle.authenticator.specs.State.{Asked, AuthenticatorState, Remembered}
use Rattle.authenticator.specs.Orders.{assertion_order, candidates, creation_order, next_order, remembered_on}
use Rattle.authenticator.specs.Steps.{AnswersWith, CarriesOut, Creates, Entry, FirstAnswers, IsSignature, Keys, MakesStatement, NextAnswers, Outcome, Step}
use Rattle.authenticator.specs.Steps.{Unless, asked_by, number_with}
use Rattle.authenticator.specs.declared.consent.Consent.{Consent}
use Rattle.authenticator.specs.declared.consent.Words.{Words}

abbrev pub IsWider : Validity → Validity → Type 0
IsWider valid wider = (k : CoseKey) (m s : List ℕ) → valid k m s → wider k m s

unless : (o : Option ℕ) (old : AuthenticatorState) (out : Outcome) (A B : Type 0) → (A → B) → Unless o old out A → Unless o old out B
unless (Some status) old out A B f h = h
unless None old out A B f h = f h

signature : (valid wider : Validity) (key : CoseKey) (m s : List ℕ) → IsWider valid wider → IsSignature valid key m s → IsSignature wider key m s
signature valid wider key m s w h = (h.0, h.1, w key m s h.2)

statement : (valid wider : Validity) (key : CoseKey) (h : List ℕ) (consent : Consent) (attest : AttestationType) (r : Creation) (signed : List Entry)
    → IsWider valid wider → MakesStatement valid key h consent attest r signed → MakesStatement wider key h consent attest r signed
statement valid wider key h consent types.None r signed w m = m
statement valid wider key h consent types.SelfSigned r signed w m = (m.0, (m.1.0, signature valid wider key _ m.1.0 w m.1.1, m.1.2), m.2)

creates : (valid wider : Validity) (public : Keys) (old : AuthenticatorState) (q : CreationRequest) (consent : Consent) (words : Words) (out : Outcome)
    → IsWider valid wider → Creates valid public old q consent words out → Creates wider public old q consent words out
creates valid wider public old q consent words out w h = record {
  alg = h.alg;
  chosen = h.chosen;
  shown = h.shown;
  spelled = h.spelled;
  attested = statement valid wider (public h.alg words.secret) q.client_data_hash consent old.attest h.shown out.signed w h.attested;
  reply = h.reply;
  state = h.state;
  made = h.made;
}

answers : (valid wider : Validity) (public : Keys) (old : AuthenticatorState) (id : List ℕ) (asked : Asked) (later : List (List ℕ))
    (message : Assertion → ReplyMessage) (count : Option ℕ) (out : Outcome)
    → IsWider valid wider → AnswersWith valid public old id asked later message count out → AnswersWith wider public old id asked later message count out
answers valid wider public old id asked later message count out w h = record {
  credential = h.credential;
  found = h.found;
  shown = h.shown;
  asserts = record {
    spelled = h.asserts.spelled;
    signs = (h.asserts.signs.0, h.asserts.signs.1, w _ _ _ h.asserts.signs.2);
    credential = h.asserts.credential;
    user = h.asserts.user;
    number = h.asserts.number;
  };
  reply = h.reply;
  state = h.state;
  signed = h.signed;
  made = h.made;
}

first : (valid wider : Validity) (public : Keys) (old : AuthenticatorState) (ids : List (List ℕ)) (asked : Asked) (out : Outcome)
    → IsWider valid wider → FirstAnswers valid public old ids asked out → FirstAnswers wider public old ids asked out
first valid wider public old [] asked out w h = h
first valid wider public old (id ∷ ids) asked out w h = answers valid wider public old id asked ids assertion_reply (number_with ids) out w h

next : (valid wider : Validity) (public : Keys) (old : AuthenticatorState) (o : Option Remembered) (out : Outcome)
    → IsWider valid wider → NextAnswers valid public old o out → NextAnswers wider public old o out
next valid wider public old None out w h = h
next valid wider public old (Some r) out w h = answers valid wider public old r.next r.asked r.later next_reply None out w h

carries : (valid wider : Validity) (public : Keys) (old : AuthenticatorState) (channel : ℕ) (consent : Consent) (words : Words) (q : RequestMessage)
    (out : Outcome)
    → IsWider valid wider → CarriesOut valid public old channel consent words q out → CarriesOut wider public old channel consent words q out
carries valid wider public old channel consent words (make_credential q) out w h =
    unless (first_true (creation_order old q consent words)) old out _ _ (creates valid wider public old q consent words out w) h
carries valid wider public old channel consent words (get_assertion q) out w h =
    unless (first_true (assertion_order old q consent)) old out _ _
    (first valid wider public old (candidates old.credentials q.rp_id q.allow_list) (asked_by channel q consent) out w) h
carries valid wider public old channel consent words get_next_assertion out w h =
    unless (first_true (next_order old channel)) old out _ _ (next valid wider public old (remembered_on channel old.remembered) out w) h
carries valid wider public old channel consent words get_info out w h = h
carries valid wider public old channel consent words reset out w h = h

pub step : (valid wider : Validity) (public : Keys) (old : AuthenticatorState) (channel : ℕ) (bs : List ℕ) (consent : Consent) (words : Words)
    (out : Outcome)
    → IsWider valid wider → Step valid public old channel bs consent words out → Step wider public old channel bs consent words out
step valid wider public old channel bs consent words out w (inl h) = inl h
step valid wider public old channel bs consent words out w (inr h) = inr (h.0, h.1, carries valid wider public old channel consent words h.0 out w h.2)
