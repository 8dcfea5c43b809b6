-- Each step keeps a sound state, and signs as the laws say.
use Rattle.std.proofs.Common.{◌≡◌, ◌+◌, ◌++◌, ℕ, List, [], ◌∷◌, Option, Some, None, Bool, true, false, length, sym, refl, subst, arith, ap, ◌∙◌, inl}
use Rattle.std.proofs.Common.{inr, ◌<◌, Contains}
use Rattle.std.proofs.lemmas.Bool.Decides.{nat_tests}
use Rattle.std.specs.Prelude.{if◌then◌else◌, not, ◌&&◌, ◌||◌, All, IfSome, is_some, nat_le, ◌==◌}
use Rattle.std.proofs.lemmas.List.{length-append}
use Rattle.std.proofs.lemmas.List.Elements.{All-nil, All-cons, All-head, All-same, All-tail}
use Rattle.refusal_order.specs.Lines.{first_true}
use Rattle.cose.specs.Schemes.{Validity}
use Rattle.cose.specs.declared.key.CoseKey.{CoseKey}
use Rattle.authdata.specs.Flags.{is_set, UP, UV}
use Rattle.authdata.specs.Layout.{AttestedCredential}
use Rattle.authdata.specs.declared.statement.AttestationType.{AttestationType}
use Rattle.authdata.specs.declared.statement.AttestationType.TheVariants as types
use Rattle.authdata.proofs.Unique.{length-bare, length-low}
use Rattle.ctap_replies.specs.Replies.{Assertion, Creation, ReplyMessage}
use Rattle.ctap_requests.specs.Requests.{AssertionRequest, CreationRequest, RequestMessage, get_assertion, get_info, get_next_assertion, make_credential, reset}
use Rattle.ctap_requests.specs.Status.{IsRequest}
use Rattle.authenticator.specs.State.{Asked, CredentialSource, Remembered, AuthenticatorState, forgotten}
use Rattle.authenticator.specs.Credentials.{credential_of, is_resident_of, with_sign_count}
use Rattle.authenticator.specs.Orders.{assertion_flags, assertion_order, candidates, creation_flags, creation_order, first_is_at_end, is_empty}
use Rattle.authenticator.specs.Orders.{is_excluded, is_false, is_true, kept, next_order, remembered_on, reset_order}
use Rattle.authenticator.specs.Steps.{AnswersWith, MakesStatement, CarriesOut, Creates, Entry, FirstAnswers, Keys, NextAnswers, Outcome, Resets}
use Rattle.authenticator.specs.Steps.{Step, Unless, asked_by, assertion, assertion_data, attestation, creation_data, key_of, new_credential, refusal}
use Rattle.authenticator.specs.Steps.{remembering, up_bit, uv_bit}
use Rattle.authenticator.specs.Laws.{FollowsConsent, IsCounted, IsResident, IsSound, IsStored, Keeps, SoundAssertion, SoundOutcome, SoundRemembered}
use Rattle.authenticator.specs.Laws.{SoundState, StepLaws}
use Rattle.authenticator.specs.declared.consent.Consent.{Consent}
use Rattle.authenticator.specs.declared.consent.Words.{Words}
use Rattle.authenticator.proofs.Asked.{assertion_hashed, creation_hashed}
use Rattle.authenticator.proofs.Store.{has_id}
use Rattle.authenticator.proofs.Stored.{LaterResident, Stays, keeps_made, keeps_same, keeps_with, last_push}
use Rattle.authenticator.proofs.Stored.{later_candidates, length_with, residents_with, stays}
use Rattle.authenticator.proofs.Stored.{unique_made, unique_with, with_at}

-- ---- flags

pub up_set : (up uv : Bool) → is_set (up_bit up + uv_bit uv) UP ≡ true → up ≡ true
up_set true uv h = refl
up_set false true h = absurd cc
up_set false false h = absurd cc

pub uv_set : (up uv : Bool) → is_set (up_bit up + uv_bit uv) UV ≡ true → uv ≡ true
uv_set up true h = refl
uv_set true false h = absurd cc
uv_set false false h = absurd cc

pub uv_made : (uv : Bool) → is_set (0x41 + uv_bit uv) UV ≡ true → uv ≡ true
uv_made true h = refl
uv_made false h = absurd cc

-- ---- what stays as it is

nothing_signed : (public : Keys) (old : AuthenticatorState) (out : Outcome) → SoundState out.state → Keeps old.credentials out.state.credentials
    → out.signed ≡ [] → out.made ≡ [] → SoundOutcome public old out
nothing_signed public old out s k e m = record {
  state = s;
  keeps = k;
  entries = All-same IsSound out.signed [] e (All-nil IsSound);
  counted = All-same (IsCounted public old.credentials out.state.credentials) out.signed [] e
      (All-nil (IsCounted public old.credentials out.state.credentials));
  made = All-same (IsStored public out.state.credentials) out.made [] m (All-nil (IsStored public out.state.credentials));
}

forgets : (public : Keys) (old : AuthenticatorState) (out : Outcome) → SoundState old → out.state ≡ forgotten old → out.signed ≡ [] → out.made ≡ []
    → SoundOutcome public old out
forgets public old out s e n m =
    nothing_signed public old out
    (subst SoundState (sym e) (record { most = s.most; unique = s.unique; remembered = tt }))
    (subst (λ (a : AuthenticatorState). Keeps old.credentials a.credentials) (sym e) (keeps_same old.credentials)) n m

refused : (public : Keys) (old : AuthenticatorState) (status : ℕ) (out : Outcome) → SoundState old → out ≡ refusal old status → SoundOutcome public old out
refused public old status out s e =
    forgets public old out s (ap (λ (o : Outcome). o.state) e) (ap (λ (o : Outcome). o.signed) e) (ap (λ (o : Outcome). o.made) e)

unless : (public : Keys) (o : Option ℕ) (old : AuthenticatorState) (out : Outcome) (P : Type 0) → SoundState old → (o ≡ None → P → SoundOutcome public old out)
    → Unless o old out P → SoundOutcome public old out
unless public None old out P s f h = f refl h
unless public (Some status) old out P s f h = refused public old status out s h

-- ---- an answer

remembered_sound : (cs : List CredentialSource) (asked : Asked) (later : List (List ℕ)) → FollowsConsent asked → All (IsResident cs) later
    → IfSome (remembering asked later) (SoundRemembered cs)
remembered_sound cs asked [] f h = tt
remembered_sound cs asked (id ∷ ids) f h = record { asked = f; next = All-head (IsResident cs) id ids h; later = All-tail (IsResident cs) id ids h }

answers : (valid : Validity) (public : Keys) (old : AuthenticatorState) (id : List ℕ) (asked : Asked) (later : List (List ℕ)) (message : Assertion
    → ReplyMessage) (count : Option ℕ) (out : Outcome)
    → SoundState old → FollowsConsent asked → All (IsResident old.credentials) later → AnswersWith valid public old id asked later message count out
    → SoundOutcome public old out
answers valid public old id asked later message count out s f r is =
    let c = is.credential in
    let next : List CredentialSource = with_sign_count id (c.sign_count + 1) old.credentials in
    let e : out.state.credentials ≡ next = ap (λ (a : AuthenticatorState). a.credentials) is.state in
    let same : c.id ≡ id = has_id id old.credentials c is.found in
    let bare : length is.shown.auth_data ≡ 37 = length-bare (assertion_data c asked) is.shown.auth_data is.asserts.spelled refl in
    let hashed = f.client_data_hash in
    let entry : Entry = record {
      key = key_of public c;
      message = is.shown.auth_data ++ asked.client_data_hash;
      purpose = assertion;
      consent = asked.consent;
    } in
    let sound : SoundAssertion entry = record {
      purpose = refl;
      auth = assertion_data c asked;
      bytes = is.shown.auth_data;
      client_data_hash = asked.client_data_hash;
      spelled = is.asserts.spelled;
      bare = refl;
      message = refl;
      hash_length = f.client_data_hash;
      size = omega (arith, length-append is.shown.auth_data asked.client_data_hash, bare, hashed);
      counts = omega arith;
      present = λ h. f.present (up_set asked.up asked.uv h);
      verified = λ h. f.verified (uv_set asked.up asked.uv h);
    } in
    let here : IsCounted public old.credentials out.state.credentials entry = λ _. record {
      credential = c;
      found = ap (λ k. credential_of k old.credentials) same ∙ is.found;
      key = refl;
      auth = assertion_data c asked;
      bytes = is.shown.auth_data;
      client_data_hash = asked.client_data_hash;
      spelled = is.asserts.spelled;
      message = refl;
      count = refl;
      after = ap (credential_of c.id) e ∙ ap (λ k. credential_of k next) same ∙ with_at id (c.sign_count + 1) old.credentials c is.found;
    } in
    record {
      state = subst SoundState (sym is.state) (record {
        most = length_with id (c.sign_count + 1) old.credentials s.most;
        unique = unique_with id (c.sign_count + 1) old.credentials s.unique;
        remembered = remembered_sound next asked later f (residents_with id (c.sign_count + 1) old.credentials later r);
      });
      keeps = subst (Keeps old.credentials) (sym e) (keeps_with id old.credentials c (c.sign_count + 1) is.found (omega arith));
      entries = All-same IsSound out.signed (entry ∷ []) is.signed (All-cons IsSound entry [] (inl sound) (All-nil IsSound));
      counted = All-same (IsCounted public old.credentials out.state.credentials) out.signed (entry ∷ []) is.signed
          (All-cons (IsCounted public old.credentials out.state.credentials) entry [] here (All-nil (IsCounted public old.credentials out.state.credentials)));
      made = All-same (IsStored public out.state.credentials) out.made [] is.made (All-nil (IsStored public out.state.credentials));
    }

first_answers : (valid : Validity) (public : Keys) (old : AuthenticatorState) (ids : List (List ℕ)) (asked : Asked) (out : Outcome)
    → SoundState old → FollowsConsent asked → LaterResident old.credentials ids → FirstAnswers valid public old ids asked out → SoundOutcome public old out
first_answers valid public old [] asked out s f r h = absurd h
first_answers valid public old (id ∷ ids) asked out s f r h = answers valid public old id asked ids _ _ out s f r h

next_answers : (valid : Validity) (public : Keys) (old : AuthenticatorState) (o : Option Remembered) (out : Outcome)
    → SoundState old → IfSome o (SoundRemembered old.credentials) → NextAnswers valid public old o out → SoundOutcome public old out
next_answers valid public old None out s r h = absurd h
next_answers valid public old (Some x) out s r h = answers valid public old x.next x.asked x.later _ _ out s r.asked r.later h

pub on_channel : (cs : List CredentialSource) (channel : ℕ) (o : Option Remembered) → IfSome o (SoundRemembered cs)
    → IfSome (remembered_on channel o) (SoundRemembered cs)
on_channel cs channel None h = tt
on_channel cs channel (Some r) h = either (r.asked.channel == channel) where
  either : (b : Bool) → IfSome (if b then Some r else None) (SoundRemembered cs)
  either true = h
  either false = tt

-- ---- the orders

line_none : (b : Bool) (n : ℕ) (rest : List (Bool × ℕ)) → first_true ((b, n) ∷ rest) ≡ None → (b ≡ false) × (first_true rest ≡ None)
line_none true n rest e = let bad : Some n ≡ None = e in absurd cc
line_none false n rest e = (refl, e)

more : (uv verified : Bool) → (uv && not verified) ≡ false → uv ≡ true → verified ≡ true
more true true e h = refl
more true false e h = absurd cc
more false verified e h = absurd cc

given : (up uv present verified : Bool) → ((up && not present) || (uv && not verified)) ≡ false → (up ≡ true → present ≡ true) × (uv ≡ true → verified ≡ true)
given true uv true verified e = (λ h. refl, more uv verified e)
given true uv false verified e = absurd cc
given false uv present verified e = (λ h. absurd cc, more uv verified e)

pub follows : (old : AuthenticatorState) (channel : ℕ) (q : AssertionRequest) (consent : Consent) → length q.client_data_hash ≡ 32
    → first_true (assertion_order old q consent) ≡ None → FollowsConsent (asked_by channel q consent)
follows old channel q consent l e =
    let ids = candidates old.credentials q.rp_id q.allow_list in
    let flags = assertion_flags q.options in
    let rest : List (Bool × ℕ) = (is_empty ids, 0x2E) ∷ (first_is_at_end old.credentials ids, 0x7F) ∷ [] in
    let second : Bool = (not (is_false flags.up) && not consent.present) || (is_true flags.uv && not consent.verified) in
    let a = line_none (is_true flags.uv && not old.uv) 0x2C ((second, 0x27) ∷ rest) e in
    let b = line_none second 0x27 rest a.1 in
    let g = given (not (is_false flags.up)) (is_true flags.uv) consent.present consent.verified b.0 in
    record { client_data_hash = l; present = g.0; verified = g.1 }

not_some : {X : Type 0} (o : Option X) → is_some o ≡ false → o ≡ None
not_some None e = refl
not_some (Some x) e = absurd cc

below : (n : ℕ) → nat_le 256 n ≡ false → n < 256
below n e = grind (arith, nat_tests, e)

-- what a makeCredential that no line of its order refuses has: an id that is new, room, and consent
pub record Granted (old : AuthenticatorState) (q : CreationRequest) (consent : Consent) (words : Words) : Type 0 where
  pub new : credential_of words.id old.credentials ≡ None
  pub room : length (kept old.credentials q) < 256
  pub present : consent.present ≡ true
  pub verified : is_true (creation_flags q.options).uv ≡ true → consent.verified ≡ true

pub granted : (old : AuthenticatorState) (q : CreationRequest) (consent : Consent) (words : Words) → first_true (creation_order old q consent words) ≡ None
    → Granted old q consent words
granted old q consent words e =
    let flags = creation_flags q.options in
    let l6 : List (Bool × ℕ) = (nat_le 256 (length (kept old.credentials q)), 0x28) ∷ [] in
    let l5 : List (Bool × ℕ) = (is_some (credential_of words.id old.credentials), 0x7F) ∷ l6 in
    let l4 : List (Bool × ℕ) = (is_excluded q.rp.id old.credentials q.exclude_list, 0x19) ∷ l5 in
    let l3 : List (Bool × ℕ) = (not consent.present || (is_true flags.uv && not consent.verified), 0x27) ∷ l4 in
    let l2 : List (Bool × ℕ) = (is_false flags.up || (is_true flags.uv && not old.uv), 0x2C) ∷ l3 in
    let a = line_none _ 0x26 l2 e in
    let b = line_none (is_false flags.up || (is_true flags.uv && not old.uv)) 0x2C l3 a.1 in
    let c = line_none (not consent.present || (is_true flags.uv && not consent.verified)) 0x27 l4 b.1 in
    let d = line_none (is_excluded q.rp.id old.credentials q.exclude_list) 0x19 l5 c.1 in
    let f = line_none (is_some (credential_of words.id old.credentials)) 0x7F l6 d.1 in
    let g = line_none (nat_le 256 (length (kept old.credentials q))) 0x28 [] f.1 in
    let asked = given true (is_true flags.uv) consent.present consent.verified c.0 in
    record {
      new = not_some (credential_of words.id old.credentials) f.0;
      room = below (length (kept old.credentials q)) g.0;
      present = asked.0 refl;
      verified = asked.1;
    }

-- ---- a credential that is made

attested_all : (valid : Validity) (public : Keys) (old : AuthenticatorState) (q : CreationRequest) (consent : Consent) (words : Words) (key : CoseKey)
    (attest : AttestationType) (r : Creation) (signed : List Entry) (P : Entry → Type 0)
    → P (record { key = key; message = r.auth_data ++ q.client_data_hash; purpose = attestation; consent = consent })
    → MakesStatement valid key q.client_data_hash consent attest r signed → All P signed
attested_all valid public old q consent words key types.None r signed P h is = All-same P signed [] is.2 (All-nil P)
attested_all valid public old q consent words key types.SelfSigned r signed P h is =
    let entry : Entry = record { key = key; message = r.auth_data ++ q.client_data_hash; purpose = attestation; consent = consent } in
    All-same P signed (entry ∷ []) is.2 (All-cons P entry [] h (All-nil P))

creates : (valid : Validity) (public : Keys) (old : AuthenticatorState) (q : CreationRequest) (consent : Consent) (words : Words) (out : Outcome)
    → SoundState old → length words.id ≡ 32 → length q.client_data_hash ≡ 32 → Granted old q consent words
    → Creates valid public old q consent words out → SoundOutcome public old out
creates valid public old q consent words out s w l granted is =
    let none : credential_of words.id old.credentials ≡ None = granted.new in
    let room : length (kept old.credentials q) < 256 = granted.room in
    let key = public is.alg words.secret in
    let new = new_credential q is.alg words in
    let stay = kept old.credentials q in
    let stayed : Stays old.credentials stay = stays (is_true (creation_flags q.options).rk) (is_resident_of q.rp.id q.user.id) old.credentials s.unique in
    let e : out.state.credentials ≡ stay ++ new ∷ [] = ap (λ (a : AuthenticatorState). a.credentials) is.state in
    let entry : Entry = record { key = key; message = is.shown.auth_data ++ q.client_data_hash; purpose = attestation; consent = consent } in
    let attested : AttestedCredential = record { aaguid = old.aaguid; id = words.id; key = key } in
    let full = length-low (creation_data old q words.id key) attested is.shown.auth_data is.spelled refl in
    let sound : IsSound entry = inr (record {
      purpose = refl;
      auth = creation_data old q words.id key;
      attested = attested;
      bytes = is.shown.auth_data;
      client_data_hash = q.client_data_hash;
      spelled = is.spelled;
      full = refl;
      message = refl;
      hash_length = l;
      size = omega (arith, length-append is.shown.auth_data q.client_data_hash, full, w, l);
      present = granted.present;
      verified = λ h. granted.verified (uv_made (is_true (creation_flags q.options).uv) h);
    }) in
    let other : IsCounted public old.credentials out.state.credentials entry = λ k. let bad : attestation ≡ assertion = k in absurd cc in
    let stored : IsStored public out.state.credentials key =
    (words.id, new, ap (credential_of words.id) e ∙ last_push stay new (stayed.none words.id none), refl) in
    record {
      state = subst SoundState (sym is.state) (record {
        most = omega (arith, length-append stay (new ∷ []), room);
        unique = unique_made old.credentials stay new stayed none;
        remembered = tt;
      });
      keeps = subst (Keeps old.credentials) (sym e) (keeps_made old.credentials stay new stayed none);
      entries = attested_all valid public old q consent words key old.attest is.shown out.signed IsSound sound is.attested;
      counted = attested_all valid public old q consent words key old.attest is.shown out.signed
          (IsCounted public old.credentials out.state.credentials) other is.attested;
      made = All-same (IsStored public out.state.credentials) out.made (key ∷ []) is.made
          (All-cons (IsStored public out.state.credentials) key [] stored (All-nil (IsStored public out.state.credentials)));
    }

emptied : (public : Keys) (old : AuthenticatorState) (out : Outcome) → Resets old out → SoundOutcome public old out
emptied public old out is =
    nothing_signed public old out
    (subst SoundState (sym is.state) (record { most = omega arith; unique = tt; remembered = tt }))
    (subst (λ (a : AuthenticatorState). Keeps old.credentials a.credentials) (sym is.state) (λ k c e. inl refl)) is.signed is.made

-- ---- one call

carries : (valid : Validity) (public : Keys) (old : AuthenticatorState) (channel : ℕ) (bs : List ℕ) (consent : Consent) (words : Words) (q : RequestMessage)
    (out : Outcome)
    → SoundState old → length words.id ≡ 32 → IsRequest q bs → CarriesOut valid public old channel consent words q out → SoundOutcome public old out
carries valid public old channel bs consent words (make_credential q) out s w is h =
    unless public (first_true (creation_order old q consent words)) old out (Creates valid public old q consent words out) s
    (λ e made. creates valid public old q consent words out s w (creation_hashed q bs is) (granted old q consent words e) made) h
carries valid public old channel bs consent words (get_assertion q) out s w is h =
    unless public (first_true (assertion_order old q consent)) old out
    (FirstAnswers valid public old (candidates old.credentials q.rp_id q.allow_list) (asked_by channel q consent) out) s
    (λ e answered. first_answers valid public old (candidates old.credentials q.rp_id q.allow_list) (asked_by channel q consent) out s
    (follows old channel q consent (assertion_hashed q bs is) e) (later_candidates old.credentials q.rp_id q.allow_list s.unique) answered) h
carries valid public old channel bs consent words get_next_assertion out s w is h =
    unless public (first_true (next_order old channel)) old out (NextAnswers valid public old (remembered_on channel old.remembered) out) s
    (λ e answered. next_answers valid public old (remembered_on channel old.remembered) out s
    (on_channel old.credentials channel old.remembered s.remembered) answered) h
carries valid public old channel bs consent words get_info out s w is h = forgets public old out s h.state h.signed h.made
carries valid public old channel bs consent words reset out s w is h =
    unless public (first_true (reset_order consent)) old out (Resets old out) s (λ e r. emptied public old out r) h

step : (valid : Validity) (public : Keys) (old : AuthenticatorState) (channel : ℕ) (bs : List ℕ) (consent : Consent) (words : Words) (out : Outcome)
    → SoundState old → length words.id ≡ 32 → Step valid public old channel bs consent words out → SoundOutcome public old out
step valid public old channel bs consent words out s w h = elim h [
  | inl unread ↦ refused public old _ out s unread.2
  | inr read ↦ carries valid public old channel bs consent words read.0 out s w read.1 read.2
]

-- ---- keys

made_none : (xs : List CoseKey) (key : CoseKey) → xs ≡ [] → Contains xs key → ⊥
made_none xs key e h = let bad : Contains [] key = subst (λ (l : List CoseKey). Contains l key) e h in absurd (omega (arith, bad.1))

unless_made : (o : Option ℕ) (old : AuthenticatorState) (out : Outcome) (P : Type 0) (consent : Consent) (key : CoseKey)
    → (o ≡ None → P → consent.present ≡ true) → Unless o old out P → Contains out.made key → consent.present ≡ true
unless_made None old out P consent key f h made = f refl h
unless_made (Some status) old out P consent key f h made = absurd (made_none out.made key (ap (λ (o : Outcome). o.made) h) made)

first_makes_none : (valid : Validity) (public : Keys) (old : AuthenticatorState) (ids : List (List ℕ)) (asked : Asked) (out : Outcome)
    → FirstAnswers valid public old ids asked out → out.made ≡ []
first_makes_none valid public old [] asked out h = absurd h
first_makes_none valid public old (id ∷ ids) asked out h = h.made

next_makes_none : (valid : Validity) (public : Keys) (old : AuthenticatorState) (o : Option Remembered) (out : Outcome)
    → NextAnswers valid public old o out → out.made ≡ []
next_makes_none valid public old None out h = absurd h
next_makes_none valid public old (Some r) out h = h.made

made_by : (valid : Validity) (public : Keys) (old : AuthenticatorState) (channel : ℕ) (consent : Consent) (words : Words) (q : RequestMessage)
    (out : Outcome) (key : CoseKey)
    → CarriesOut valid public old channel consent words q out → Contains out.made key → consent.present ≡ true
made_by valid public old channel consent words (make_credential q) out key h made =
    unless_made (first_true (creation_order old q consent words)) old out (Creates valid public old q consent words out) consent key
    (λ e is. (granted old q consent words e).present) h made
made_by valid public old channel consent words (get_assertion q) out key h made =
    let ids = candidates old.credentials q.rp_id q.allow_list in
    unless_made (first_true (assertion_order old q consent)) old out (FirstAnswers valid public old ids (asked_by channel q consent) out) consent key
    (λ e is. absurd (made_none out.made key (first_makes_none valid public old ids (asked_by channel q consent) out is) made)) h made
made_by valid public old channel consent words get_next_assertion out key h made =
    unless_made (first_true (next_order old channel)) old out (NextAnswers valid public old (remembered_on channel old.remembered) out) consent key
    (λ e is. absurd (made_none out.made key (next_makes_none valid public old (remembered_on channel old.remembered) out is) made)) h made
made_by valid public old channel consent words get_info out key h made = absurd (made_none out.made key h.made made)
made_by valid public old channel consent words reset out key h made =
    unless_made (first_true (reset_order consent)) old out (Resets old out) consent key (λ e is. absurd (made_none out.made key is.made made)) h made

consented : (valid : Validity) (public : Keys) (old : AuthenticatorState) (channel : ℕ) (bs : List ℕ) (consent : Consent) (words : Words) (out : Outcome)
    (key : CoseKey)
    → Step valid public old channel bs consent words out → Contains out.made key → consent.present ≡ true
consented valid public old channel bs consent words out key (inl unread) made =
    absurd (made_none out.made key (ap (λ (o : Outcome). o.made) unread.2) made)
consented valid public old channel bs consent words out key (inr read) made =
    made_by valid public old channel consent words read.0 out key read.2 made

pub laws : (valid : Validity) (public : Keys) → StepLaws valid public
laws valid public = record {
  begins = λ aaguid uv attest. record { most = omega arith; unique = tt; remembered = tt };
  sound = step valid public;
  consented = consented valid public;
}
