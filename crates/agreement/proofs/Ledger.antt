-- Each entry was signed, and each key made, at a request of the run.
use Rattle.std.proofs.Common.{◌≡◌, ◌⊎◌, ◌+◌, inl, inr, ℕ, List, [], ◌∷◌, ◌++◌, Bool, true, false, Option, Some, None, refl, sym, ◌∙◌, ap, subst}
use Rattle.std.proofs.Common.{append_assoc, append-nil, arith, cond, Contains}
use Rattle.std.specs.Prelude.{IfSome, if◌then◌else◌, length}
use Rattle.sha2.specs.Sha256.{sha256}
use Rattle.std.specs.List.{All}
use Rattle.std.specs.List.{AllByRecursion as Each}
use Rattle.std.specs.Str.{bytes_eq}
use Rattle.std.proofs.lemmas.Bool.{cases_Bool}
use Rattle.std.proofs.lemmas.Bool.Decides.{eqb_tells}
use Rattle.std.proofs.lemmas.List.Elements.{All-append, All-cons, All-from_recursion, All-nil, All-same, All-weaker, Contains-append_left}
use Rattle.std.proofs.lemmas.List.Elements.{Contains-append_right}
use Rattle.refusal_order.specs.Lines.{first_true}
use Rattle.refusal_order.proofs.Laws.{each_joined}
use Rattle.cose.specs.Schemes.{Validity}
use Rattle.cose.specs.declared.key.CoseKey.{CoseKey}
use Rattle.authdata.specs.declared.statement.AttestationType.{AttestationType}
use Rattle.authdata.specs.declared.statement.AttestationType.TheVariants as types
use Rattle.ctap_replies.specs.Replies.{Assertion, ReplyMessage, next_reply}
use Rattle.ctap_requests.specs.Requests.{AssertionRequest, CreationRequest, RequestMessage, get_assertion, get_info, get_next_assertion, make_credential, reset}
use Rattle.ctap_requests.specs.Status.{IsRequest, status_of}
use Rattle.authenticator.specs.State.{Asked, CredentialSource, Remembered, AuthenticatorState, forgotten}
use Rattle.authenticator.specs.Credentials.{credential_of, is_resident_of, with_sign_count, without_first}
use Rattle.authenticator.specs.Orders.{assertion_order, candidates, creation_flags, creation_order, is_true, kept, next_order, remembered_on, reset_order}
use Rattle.authenticator.specs.Steps.{AnswersWith, MakesStatement, CarriesOut, Creates, Entry, FirstAnswers, Keys, NextAnswers, Outcome, Resets}
use Rattle.authenticator.specs.Steps.{Purpose, Step, Unless, asked_by, assertion, assertion_data, attestation, creation_data, key_of, new_credential, refusal}
use Rattle.authenticator.specs.Steps.{remembering}
use Rattle.authenticator.specs.Laws.{FollowsConsent, SoundRemembered, SoundState}
use Rattle.authenticator.specs.declared.consent.Consent.{Consent}
use Rattle.authenticator.specs.declared.consent.Words.{Words}
use Rattle.authenticator.proofs.Asked.{assertion_hashed}
use Rattle.authenticator.proofs.Soundness.{Granted, follows, granted, up_set, uv_made, uv_set}
use Rattle.authenticator.proofs.Store.{has_id}
use Rattle.authenticator.proofs.Stored.{each_weaker}
use Rattle.agreement.specs.World.{Asks, AtSite, Done, EventEffect, EventEnd, Event, Happens, Holder, IsNew}
use Rattle.agreement.specs.World.{IsRun, Moment, Nothing, Reloads, World, after_call, after_restart}
use Rattle.agreement.specs.Below.{Below}
use Rattle.agreement.specs.Ledger.{IsAsked, IsAttested, IsBetween, IsElsewhere, IsMadeFor, IsMadeIn, IsNextAsserted, IsOwn, IsSignedAt, IsSignedInRun}
use Rattle.agreement.specs.Ledger.{LedgerOfAllRuns, Signs, world_after}
use Rattle.agreement.proofs.Own.{IsOwnId, own_all, own_candidates, own_party}

-- ---- one more moment

pub longer : (before later : List Moment) (moment m : Moment) (past : List Moment) → past ≡ before ++ moment ∷ later
    → past ++ m ∷ [] ≡ before ++ moment ∷ (later ++ m ∷ [])
longer before later moment m past here = ap (λ ms. ms ++ m ∷ []) here ∙ append_assoc before (moment ∷ later) (m ∷ [])

abbrev still_signed_at : (k : ℕ) (purpose : Purpose) (q : RequestMessage) (rp hash : List ℕ) (past : List Moment) (m : Moment) (e : Entry)
    → IsSignedAt k purpose q rp hash past e → IsSignedAt k purpose q rp hash (past ++ m ∷ []) e
still_signed_at k purpose q rp hash past m e x = record {
  before = x.before;
  moment = x.moment;
  later = x.later ++ m ∷ [];
  here = longer x.before x.later x.moment m past x.here;
  channel = x.channel;
  words = x.words;
  asked = x.asked;
  signs = x.signs;
}

still_next : (public : Keys) (k : ℕ) (past : List Moment) (m : Moment) (e : Entry) → IsNextAsserted public k past e
    → IsNextAsserted public k (past ++ m ∷ []) e
still_next public k past m e x = record {
  before = x.before;
  first = x.first;
  between = x.between;
  moment = x.moment;
  later = x.later ++ m ∷ [];
  here =
      longer x.before (x.between ++ x.moment ∷ x.later) x.first m past x.here
      ∙ ap (λ ms. x.before ++ x.first ∷ ms) (append_assoc x.between (x.moment ∷ x.later) (m ∷ []));
  channel = x.channel;
  words = x.words;
  request = x.request;
  asked_first = x.asked_first;
  nothing_else = x.nothing_else;
  consent_now = x.consent_now;
  words_now = x.words_now;
  asked = x.asked;
  signs = x.signs;
  own = x.own;
}

still_signed : (public : Keys) (k : ℕ) (past : List Moment) (m : Moment) (e : Entry) → IsSignedInRun public k past e
    → IsSignedInRun public k (past ++ m ∷ []) e
still_signed public k past m e (inl x) = inl (record {
  request = x.request;
  at = still_signed_at k attestation (make_credential x.request) x.request.rp.id x.request.client_data_hash past m e x.at;
  present = x.present;
})
still_signed public k past m e (inr (inl x)) = inr (inl (record {
  request = x.request;
  at = still_signed_at k assertion (get_assertion x.request) x.request.rp_id x.request.client_data_hash past m e x.at;
  own = x.own;
}))
still_signed public k past m e (inr (inr x)) = inr (inr (still_next public k past m e x))

abbrev still_made : (public : Keys) (k : ℕ) (past : List Moment) (m : Moment) (key : CoseKey) → IsMadeIn public k past key → IsMadeIn public k (past ++ m ∷ []) key
still_made public k past m key x = record {
  before = x.before;
  moment = x.moment;
  later = x.later ++ m ∷ [];
  here = longer x.before x.later x.moment m past x.here;
  channel = x.channel;
  consent = x.consent;
  words = x.words;
  request = x.request;
  asked = x.asked;
  present = x.present;
  alg = x.alg;
  chosen = x.chosen;
  is = x.is;
  made = x.made;
}

still_made_for : (public : Keys) (k : ℕ) (past : List Moment) (m : Moment) (c : CredentialSource) → IsMadeFor public k past c
    → IsMadeFor public k (past ++ m ∷ []) c
still_made_for public k past m c x = record { made = still_made public k past m (key_of public c) x.made; for_party = x.for_party }

-- ---- credentials

-- what holds of each credential holds of that of an id
of_found : (P : CredentialSource → Type 0) (id : List ℕ) (cs : List CredentialSource) (c : CredentialSource) → Each P cs → credential_of id cs ≡ Some c → P c
of_found P id [] c h e = absurd cc
of_found P id (x ∷ cs) c h e = elim (cases_Bool (bytes_eq x.id id)) [
  | inl first ↦
      let same : Some x ≡ Some c = sym (ap (λ b. cond b (Some x) (credential_of id cs)) first) ∙ e in
      let is : x ≡ c = cc in subst P is h.0
  | inr apart ↦ of_found P id cs c h.1 (sym (ap (λ b. cond b (Some x) (credential_of id cs)) apart) ∙ e)
]

-- and of each with a counter that has grown, if it does not speak of counters
counted : (P : CredentialSource → Type 0) (id : List ℕ) (n : ℕ) (cs : List CredentialSource) → ((c : CredentialSource) → P c → P (record c { sign_count = n }))
    → Each P cs → Each P (with_sign_count id n cs)
counted P id n [] f h = tt
counted P id n (c ∷ cs) f h = either (counted P id n cs f h.1) (bytes_eq c.id id) where
  either : Each P (with_sign_count id n cs) → (b : Bool) → Each P (if b then (record c { sign_count = n }) ∷ cs else c ∷ with_sign_count id n cs)
  either rest true = (f c h.0, h.1)
  either rest false = (h.0, rest)

fewer : (P : CredentialSource → Type 0) (test : CredentialSource → Bool) (cs : List CredentialSource) → Each P cs → Each P (without_first test cs)
fewer P test [] h = tt
fewer P test (c ∷ cs) h = either (fewer P test cs h.1) (test c) where
  either : Each P (without_first test cs) → (b : Bool) → Each P (if b then cs else c ∷ without_first test cs)
  either rest true = h.1
  either rest false = (h.0, rest)

those_kept : (P : CredentialSource → Type 0) (cs : List CredentialSource) (q : CreationRequest) → Each P cs → Each P (kept cs q)
those_kept P cs q h = either (is_true (creation_flags q.options).rk) where
  either : (b : Bool) → Each P (if b then without_first (is_resident_of q.rp.id q.user.id) cs else cs)
  either true = fewer P (is_resident_of q.rp.id q.user.id) cs h
  either false = h

both : (P Q : CredentialSource → Type 0) (cs : List CredentialSource) → Each P cs → Each Q cs → Each (λ c. P c × Q c) cs
both P Q [] h k = tt
both P Q (c ∷ cs) h k = ((h.0, k.0), both P Q cs h.1 k.1)

-- ---- one authenticator

-- it was asked for assertions, and nothing else has been asked of it since
record Remembers (k : ℕ) (past : List Moment) (asked : Asked) : Type 0 where
  pub before : List Moment
  pub first : Moment
  pub between : List Moment
  pub here : past ≡ before ++ first ∷ between
  pub words : Words
  pub request : AssertionRequest
  pub is : IsAsked k asked.channel asked.consent words (get_assertion request) first
  pub hash : asked.client_data_hash ≡ request.client_data_hash
  pub nothing_else : All (IsBetween k asked.channel) between

-- and those that are still to answer are of the relying party that was named
record RemembersOwn (k : ℕ) (past : List Moment) (cs : List CredentialSource) (r : Remembered) : Type 0 where
  pub asked : Remembers k past r.asked
  pub next : IsOwnId asked.request.rp_id cs r.next
  pub later : Each (IsOwnId asked.request.rp_id cs) r.later

abbrev Remembering : ℕ → List Moment → AuthenticatorState → Type 0
Remembering k past a = IfSome a.remembered (RemembersOwn k past a.credentials)

abbrev still_remembers : (k : ℕ) (past : List Moment) (m : Moment) (asked : Asked) → IsBetween k asked.channel m → Remembers k past asked
    → Remembers k (past ++ m ∷ []) asked
still_remembers k past m asked is x = record {
  before = x.before;
  first = x.first;
  between = x.between ++ m ∷ [];
  here = longer x.before x.between x.first m past x.here;
  words = x.words;
  request = x.request;
  is = x.is;
  hash = x.hash;
  nothing_else = All-append (IsBetween k asked.channel) x.between (m ∷ []) x.nothing_else
      (All-cons (IsBetween k asked.channel) m [] is (All-nil (IsBetween k asked.channel)));
}

still_remembering : (k : ℕ) (past : List Moment) (m : Moment) (cs : List CredentialSource) (o : Option Remembered) → ((channel : ℕ) → IsBetween k channel m)
    → IfSome o (RemembersOwn k past cs) → IfSome o (RemembersOwn k (past ++ m ∷ []) cs)
still_remembering k past m cs None is x = tt
still_remembering k past m cs (Some r) is x =
    record { asked = still_remembers k past m r.asked (is r.asked.channel) x.asked; next = x.next; later = x.later }

module _ (valid : Validity) (public : Keys) (b : Below valid public) where
  abbrev IsOf : List CoseKey → CredentialSource → Type 0
  IsOf made c = Contains made (key_of public c)

  record Account (k : ℕ) (past : List Moment) (h : Holder) : Type 0 where
    pub signed : All (IsSignedInRun public k past) h.signed
    pub made : All (IsMadeIn public k past) h.made
    pub stored : Each (IsOf h.made) h.state.credentials
    pub for_party : Each (IsMadeFor public k past) h.state.credentials
    pub sound : SoundState h.state
    pub remembered : Remembering k past h.state

  untouched : (k : ℕ) (past : List Moment) (m : Moment) (h : Holder) → (m.end ≡ Nothing) ⊎ IsElsewhere k m.event → Account k past h
      → Account k (past ++ m ∷ []) h
  untouched k past m h apart x = record {
    signed = All-weaker (IsSignedInRun public k past) (IsSignedInRun public k (past ++ m ∷ [])) (λ e. still_signed public k past m e) h.signed x.signed;
    made = All-weaker (IsMadeIn public k past) (IsMadeIn public k (past ++ m ∷ [])) (λ key. still_made public k past m key) h.made x.made;
    stored = x.stored;
    for_party = each_weaker (IsMadeFor public k past) (IsMadeFor public k (past ++ m ∷ [])) (still_made_for public k past m) h.state.credentials x.for_party;
    sound = x.sound;
    remembered = still_remembering k past m h.state.credentials h.state.remembered (λ channel. inl apart) x.remembered;
  }

  -- ---- a restart

  reloaded : (k : ℕ) (past : List Moment) (m : Moment) (h : Holder) (state : AuthenticatorState) → state ≡ forgotten h.state → SoundState state
      → Account k past h
      → Account k (past ++ m ∷ []) (after_restart h state)
  reloaded k past m h state is sound x = record {
    signed = All-weaker (IsSignedInRun public k past) (IsSignedInRun public k (past ++ m ∷ [])) (λ e. still_signed public k past m e) h.signed x.signed;
    made = All-weaker (IsMadeIn public k past) (IsMadeIn public k (past ++ m ∷ [])) (λ key. still_made public k past m key) h.made x.made;
    stored = subst (λ (s : AuthenticatorState). Each (IsOf h.made) s.credentials) (sym is) x.stored;
    for_party = subst (λ (s : AuthenticatorState). Each (IsMadeFor public k (past ++ m ∷ [])) s.credentials) (sym is)
        (each_weaker (IsMadeFor public k past) (IsMadeFor public k (past ++ m ∷ [])) (still_made_for public k past m) h.state.credentials x.for_party);
    sound = sound;
    remembered = subst (λ (s : AuthenticatorState). Remembering k (past ++ m ∷ []) s) (sym is) tt;
  }

  -- ---- a request

  module _ (k channel : ℕ) (bs : List ℕ) (consent : Consent) (words : Words) (past : List Moment) (m : Moment) (out : Outcome)
      (event : m.event ≡ Asks k channel bs consent words)
      (done : m.end ≡ Done) (now : m.new.holder k ≡ after_call (m.old.holder k) out) (size : length words.id ≡ 32) (x : Account k past (m.old.holder k)) where
    abbrev old : AuthenticatorState
    old = (m.old.holder k).state

    abbrev all : List Moment
    all = past ++ m ∷ []

    asked : (q : RequestMessage) → IsRequest q bs → IsAsked k channel consent words q m
    asked q is = record { bytes = bs; event = event; done = done; request = is }

    -- an entry of this call
    abbrev signed_now : (purpose : Purpose) (q : RequestMessage) (rp hash : List ℕ) (e : Entry) → IsAsked k channel e.consent words q m
        → Signs k purpose rp hash e m → IsSignedAt k purpose q rp hash all e
    signed_now purpose q rp hash e is signs = record {
      before = past;
      moment = m;
      later = [];
      here = refl;
      channel = channel;
      words = words;
      asked = is;
      signs = signs;
    }

    -- of a credential after the call: its key is among those made, and was made for its relying party
    abbrev IsStored : CredentialSource → Type 0
    IsStored c = IsOf ((m.old.holder k).made ++ out.made) c × IsMadeFor public k all c

    -- what the call adds
    record Adds : Type 0 where
      pub signed : All (IsSignedInRun public k all) out.signed
      pub made : All (IsMadeIn public k all) out.made
      pub stored : Each IsStored out.state.credentials
      pub remembered : Remembering k all out.state

    nothing_more : out.signed ≡ [] → out.made ≡ [] → Each IsStored out.state.credentials → out.state.remembered ≡ None → Adds
    nothing_more signed made stored none = record {
      signed = All-same (IsSignedInRun public k all) out.signed [] signed (All-nil (IsSignedInRun public k all));
      made = All-same (IsMadeIn public k all) out.made [] made (All-nil (IsMadeIn public k all));
      stored = stored;
      remembered = subst (λ (o : Option Remembered). IfSome o (RemembersOwn k all out.state.credentials)) (sym none) tt;
    }

    more : (c : CredentialSource) → IsOf (m.old.holder k).made c × IsMadeFor public k past c → IsStored c
    more c h = (Contains-append_left (m.old.holder k).made out.made (key_of public c) h.0, still_made_for public k past m c h.1)

    still : Each IsStored old.credentials
    still =
        each_weaker (λ c. IsOf (m.old.holder k).made c × IsMadeFor public k past c) IsStored more old.credentials
        (both (IsOf (m.old.holder k).made) (IsMadeFor public k past) old.credentials x.stored x.for_party)

    refused : (status : ℕ) → out ≡ refusal old status → Adds
    refused status is =
        nothing_more (ap (λ (o : Outcome). o.signed) is) (ap (λ (o : Outcome). o.made) is)
        (subst (λ (s : AuthenticatorState). Each IsStored s.credentials) (sym (ap (λ (o : Outcome). o.state) is)) still)
        (ap (λ (o : Outcome). o.state.remembered) is)

    unless : (o : Option ℕ) (P : Type 0) → (o ≡ None → P → Adds) → Unless o old out P → Adds
    unless None P f h = f refl h
    unless (Some status) P f h = refused status h

    -- ---- a credential is made

    created : (q : CreationRequest) → IsRequest (make_credential q) bs → first_true (creation_order old q consent words) ≡ None
        → Creates valid public old q consent words out → Adds
    created q is none c =
        let key = public c.alg words.secret in
        let new = new_credential q c.alg words in
        let given = granted old q consent words none in
        let made_now : (m.new.holder k).made ≡ (m.old.holder k).made ++ key ∷ [] =
        ap (λ (h : Holder). h.made) now ∙ ap (λ l. (m.old.holder k).made ++ l) c.made in
        let has_new : Contains ((m.old.holder k).made ++ out.made) key =
        Contains-append_right (m.old.holder k).made out.made key (subst (λ l. Contains l key) (sym c.made) (0, omega arith, refl)) in
        let made_in : IsMadeIn public k all key = record {
          before = past;
          moment = m;
          later = [];
          here = refl;
          channel = channel;
          consent = consent;
          words = words;
          request = q;
          asked = asked (make_credential q) is;
          present = given.present;
          alg = c.alg;
          chosen = c.chosen;
          is = refl;
          made = made_now;
        } in
        record {
          signed = attested q is given c old.attest c.attested (subst (λ l. Contains l key) (sym (ap (λ (h : Holder). h.made) now)) has_new);
          made = All-same (IsMadeIn public k all) out.made (key ∷ []) c.made
              (All-cons (IsMadeIn public k all) key [] made_in (All-nil (IsMadeIn public k all)));
          stored = subst (λ (s : AuthenticatorState). Each IsStored s.credentials) (sym c.state)
              (each_joined IsStored (kept old.credentials q) (new ∷ [])
              (those_kept IsStored old.credentials q still) ((has_new, record { made = made_in; for_party = refl }), tt));
          remembered = subst (Remembering k all) (sym c.state) tt;
        }
      where
        attested : (q : CreationRequest) → IsRequest (make_credential q) bs → Granted old q consent words
            → (c : Creates valid public old q consent words out) (attest : AttestationType)
            → MakesStatement valid (public c.alg words.secret) q.client_data_hash consent attest c.shown out.signed
            → Contains (m.new.holder k).made (public c.alg words.secret)
            → All (IsSignedInRun public k all) out.signed
        attested q is given c types.None h made = All-same (IsSignedInRun public k all) out.signed [] h.2 (All-nil (IsSignedInRun public k all))
        attested q is given c types.SelfSigned h made =
            let e : Entry = record {
              key = public c.alg words.secret;
              message = c.shown.auth_data ++ q.client_data_hash;
              purpose = attestation;
              consent = consent;
            } in
            let signs : Signs k attestation q.rp.id q.client_data_hash e m = record {
              signed = ap (λ (h : Holder). h.signed) now ∙ ap (λ l. (m.old.holder k).signed ++ l) h.2;
              is_for = refl;
              key = made;
              auth = creation_data old q words.id (public c.alg words.secret);
              bytes = c.shown.auth_data;
              spelled = c.spelled;
              message = refl;
              rp_id_hash = refl;
              present = λ is_up. given.present;
              verified = λ is_uv. given.verified (uv_made (is_true (creation_flags q.options).uv) is_uv);
            } in
            let entry : IsAttested k all e = record {
              request = q;
              at = signed_now attestation (make_credential q) q.rp.id q.client_data_hash e (asked (make_credential q) is) signs;
              present = given.present;
            } in
            All-same (IsSignedInRun public k all) out.signed (e ∷ []) h.2
            (All-cons (IsSignedInRun public k all) e [] (inl entry) (All-nil (IsSignedInRun public k all)))

    -- ---- a credential answers

    answered : (id : List ℕ) (a : Asked) (later : List (List ℕ)) (message : Assertion → ReplyMessage) (count : Option ℕ) (rp hash : List ℕ)
        → a.client_data_hash ≡ hash → FollowsConsent a → IsOwnId rp old.credentials id → Each (IsOwnId rp old.credentials) later
        → ((e : Entry) → e.consent ≡ a.consent → Signs k assertion rp hash e m → IsOwn public k rp e m → IsSignedInRun public k all e)
        → (remembers : Remembers k all a) → remembers.request.rp_id ≡ rp
        → AnswersWith valid public old id a later message count out → Adds
    answered id a later message count rp hash same follows own others enter remembers named is =
        let c = is.credential in
        let e : Entry = record { key = key_of public c; message = is.shown.auth_data ++ a.client_data_hash; purpose = assertion; consent = a.consent } in
        let made_is : (m.new.holder k).made ≡ (m.old.holder k).made ++ out.made = ap (λ (h : Holder). h.made) now in
        let key = (of_found IsStored id old.credentials c still is.found).0 in
        let party : c.rp_id ≡ rp = own_party rp old.credentials id c own is.found in
        let here : c.id ≡ id = has_id id old.credentials c is.found in
        let signs : Signs k assertion rp hash e m = record {
          signed = ap (λ (h : Holder). h.signed) now ∙ ap (λ l. (m.old.holder k).signed ++ l) is.signed;
          is_for = refl;
          key = subst (λ l. Contains l (key_of public c)) (sym made_is) key;
          auth = assertion_data c a;
          bytes = is.shown.auth_data;
          spelled = is.asserts.spelled;
          message = ap (λ l. is.shown.auth_data ++ l) same;
          rp_id_hash = ap sha256 party;
          present = λ up. follows.present (up_set a.up a.uv up);
          verified = λ uv. follows.verified (uv_set a.up a.uv uv);
        } in
        let of_party : IsOwn public k rp e m = record {
          credential = c;
          stored = ap (λ j. credential_of j old.credentials) here ∙ is.found;
          own = party;
          key = refl;
        } in
        let next = with_sign_count id (c.sign_count + 1) old.credentials in
        record {
          signed = All-same (IsSignedInRun public k all) out.signed (e ∷ []) is.signed
              (All-cons (IsSignedInRun public k all) e [] (enter e refl signs of_party) (All-nil (IsSignedInRun public k all)));
          made = All-same (IsMadeIn public k all) out.made [] is.made (All-nil (IsMadeIn public k all));
          stored = subst (λ (s : AuthenticatorState). Each IsStored s.credentials) (sym is.state)
              (counted IsStored id (c.sign_count + 1) old.credentials (λ y h. (h.0, record { made = h.1.made; for_party = h.1.for_party })) still);
          remembered = subst (Remembering k all) (sym is.state) (coming next later
              (subst (λ (r : List ℕ). Each (IsOwnId r next) later) (sym named) (own_all rp id (c.sign_count + 1) old.credentials later others)));
        }
      where
        coming : (cs : List CredentialSource) (ids : List (List ℕ)) → Each (IsOwnId remembers.request.rp_id cs) ids
            → IfSome (remembering a ids) (RemembersOwn k all cs)
        coming cs [] h = tt
        coming cs (i ∷ ids) h = record { asked = remembers; next = h.0; later = h.1 }

    first_answered : (q : AssertionRequest) (ids : List (List ℕ)) → IsRequest (get_assertion q) bs → first_true (assertion_order old q consent) ≡ None
        → Each (IsOwnId q.rp_id old.credentials) ids
        → FirstAnswers valid public old ids (asked_by channel q consent) out → Adds
    first_answered q [] is none own h = absurd h
    first_answered q (id ∷ ids) is none own h =
        answered id (asked_by channel q consent) ids _ _ q.rp_id q.client_data_hash refl
        (follows old channel q consent (assertion_hashed q bs is) none) own.0 own.1
        (λ e given signs of_party. inr (inl (record {
          request = q;
          at = signed_now assertion (get_assertion q) q.rp_id q.client_data_hash e
              (subst (λ (c : Consent). IsAsked k channel c words (get_assertion q) m) (sym given) (asked (get_assertion q) is)) signs;
          own = of_party;
        })))
        (record {
          before = past;
          first = m;
          between = [];
          here = refl;
          words = words;
          request = q;
          is = asked (get_assertion q) is;
          hash = refl;
          nothing_else = All-nil (IsBetween k channel);
        })
        refl h

    next_answered : (r : Remembered) → r.asked.channel ≡ channel → RemembersOwn k past old.credentials r → FollowsConsent r.asked
        → IsRequest get_next_assertion bs
        → AnswersWith valid public old r.next r.asked r.later next_reply None out → Adds
    next_answered r on own follows is h =
        let y = own.asked in
        let between : IsBetween k r.asked.channel m =
        inr (consent, words, subst (λ (c : ℕ). IsAsked k c consent words get_next_assertion m) (sym on) (asked get_next_assertion is)) in
        answered r.next r.asked r.later next_reply None y.request.rp_id y.request.client_data_hash y.hash follows own.next own.later
        (λ e given signs of_party. inr (inr (record {
          before = y.before;
          first = y.first;
          between = y.between;
          moment = m;
          later = [];
          here = longer y.before y.between y.first m past y.here;
          channel = r.asked.channel;
          words = y.words;
          request = y.request;
          asked_first = subst (λ (c : Consent). IsAsked k r.asked.channel c y.words (get_assertion y.request) y.first) (sym given) y.is;
          nothing_else = y.nothing_else;
          consent_now = consent;
          words_now = words;
          asked = subst (λ (c : ℕ). IsAsked k c consent words get_next_assertion m) (sym on) (asked get_next_assertion is);
          signs = signs;
          own = of_party;
        })))
        (still_remembers k past m r.asked between y) refl h

    next_of : (o : Option Remembered) → IfSome o (RemembersOwn k past old.credentials) → IfSome o (SoundRemembered old.credentials)
        → IsRequest get_next_assertion bs → NextAnswers valid public old (remembered_on channel o) out
        → Adds
    next_of None y s is h = absurd h
    next_of (Some r) y s is h = elim (eqb_tells r.asked.channel channel) [
      | inl on ↦ next_answered r on.1 y s.asked is (subst (λ (b : Bool). NextAnswers valid public old (if b then Some r else None) out) on.0 h)
      | inr off ↦ absurd (subst (λ (b : Bool). NextAnswers valid public old (if b then Some r else None) out) off.0 h)
    ]

    -- ---- each request

    carried : (q : RequestMessage) → IsRequest q bs → CarriesOut valid public old channel consent words q out → Adds
    carried (make_credential q) is h = unless (first_true (creation_order old q consent words)) (Creates valid public old q consent words out) (created q is) h
    carried (get_assertion q) is h =
        let ids = candidates old.credentials q.rp_id q.allow_list in
        unless (first_true (assertion_order old q consent)) (FirstAnswers valid public old ids (asked_by channel q consent) out)
        (λ none. first_answered q ids is none (own_candidates old.credentials q.rp_id q.allow_list x.sound.unique)) h
    carried get_next_assertion is h =
        unless (first_true (next_order old channel)) (NextAnswers valid public old (remembered_on channel old.remembered) out)
        (λ none. next_of old.remembered x.remembered x.sound.remembered is) h
    carried get_info is h =
        nothing_more h.signed h.made (subst (λ (s : AuthenticatorState). Each IsStored s.credentials) (sym h.state) still)
        (ap (λ (s : AuthenticatorState). s.remembered) h.state)
    carried reset is h =
        unless (first_true (reset_order consent)) (Resets old out)
        (λ none r. nothing_more r.signed r.made (subst (λ (s : AuthenticatorState). Each IsStored s.credentials) (sym r.state) tt)
        (ap (λ (s : AuthenticatorState). s.remembered) r.state)) h

    stepped : Step valid public old channel bs consent words out → Adds
    stepped (inl unread) = refused (status_of unread.0) unread.2
    stepped (inr read) = carried read.0 read.1 read.2

    called : Step valid public old channel bs consent words out → Account k all (m.new.holder k)
    called s =
        let a = stepped s in
        subst (Account k all) (sym now) (record {
          signed = All-append (IsSignedInRun public k all) (m.old.holder k).signed out.signed
              (All-weaker (IsSignedInRun public k past) (IsSignedInRun public k all) (λ e. still_signed public k past m e) (m.old.holder k).signed x.signed) a.signed;
          made = All-append (IsMadeIn public k all) (m.old.holder k).made out.made
              (All-weaker (IsMadeIn public k past) (IsMadeIn public k all) (λ key. still_made public k past m key) (m.old.holder k).made x.made) a.made;
          stored = each_weaker IsStored (IsOf ((m.old.holder k).made ++ out.made)) (λ c h. h.0) out.state.credentials a.stored;
          for_party = each_weaker IsStored (IsMadeFor public k all) (λ c h. h.1) out.state.credentials a.stored;
          sound = (b.steps.sound old channel bs consent words out x.sound size s).state;
          remembered = a.remembered;
        })

  -- ---- a moment, and a run

  accounted : (k : ℕ) (past : List Moment) (m : Moment) (event : Event) (end : EventEnd) → m.event ≡ event → m.end ≡ end
      → Happens valid public m.old event end m.new
      → Account k past (m.old.holder k) → Account k (past ++ m ∷ []) (m.new.holder k)
  accounted k past m event Nothing is ends h x =
      subst (λ (w : World). Account k (past ++ m ∷ []) (w.holder k)) (sym h) (untouched k past m (m.old.holder k) (inl ends) x)
  accounted k past m (AtSite i e) Done is ends h x =
      subst (Account k (past ++ m ∷ [])) (sym (h.2.holders k)) (untouched k past m (m.old.holder k) (inr (subst (IsElsewhere k) (sym is) tt)) x)
  accounted k past m (Asks j channel bs consent words) Done is ends h x = elim (eqb_tells j k) [
    | inl same ↦
        let here : EventEffect valid public m.old (Asks k channel bs consent words) m.new =
        subst (λ (l : ℕ). EventEffect valid public m.old (Asks l channel bs consent words) m.new) same.1 h in
        called k channel bs consent words past m here.0 (is ∙ ap (λ l. Asks l channel bs consent words) same.1) ends here.3.now here.1 x here.2
    | inr other ↦
        subst (Account k (past ++ m ∷ [])) (sym (h.3.others k (λ e. other.1 (sym e))))
        (untouched k past m (m.old.holder k) (inr (subst (IsElsewhere k) (sym is) other.1)) x)
  ]
  accounted k past m (Reloads j) Done is ends h x = elim (eqb_tells j k) [
    | inl same ↦
        let here : EventEffect valid public m.old (Reloads k) m.new = subst (λ (l : ℕ). EventEffect valid public m.old (Reloads l) m.new) same.1 h in
        subst (Account k (past ++ m ∷ [])) (sym here.2.now) (reloaded k past m (m.old.holder k) here.0 (b.saving.restarted (m.old.holder k).state here.0 here.1)
        (b.saving.sound (m.old.holder k).state here.0 x.sound here.1) x)
    | inr other ↦
        subst (Account k (past ++ m ∷ [])) (sym (h.2.others k (λ e. other.1 (sym e))))
        (untouched k past m (m.old.holder k) (inr (subst (IsElsewhere k) (sym is) other.1)) x)
  ]

  over : (k : ℕ) (past : List Moment) (w : World) (run : List Moment) → IsRun valid public w run → Account k past (w.holder k)
      → Account k (past ++ run) ((world_after w run).holder k)
  over k past w [] run x = subst (λ (ms : List Moment). Account k ms (w.holder k)) (sym (append-nil past)) x
  over k past w (m ∷ ms) run x =
      let here : Account k past (m.old.holder k) = subst (λ (v : World). Account k past (v.holder k)) (sym run.0) x in
      let next = accounted k past m m.event m.end refl refl run.1 here in
      subst (λ (l : List Moment). Account k l ((world_after m.new ms).holder k)) (append_assoc past (m ∷ []) ms) (over k (past ++ m ∷ []) m.new ms run.2 next)

  begins : (k : ℕ) (h : Holder) → IsNew h → Account k [] h
  begins k h new = record {
    signed = All-same (IsSignedInRun public k []) h.signed [] new.signed (All-nil (IsSignedInRun public k []));
    made = All-same (IsMadeIn public k []) h.made [] new.made (All-nil (IsMadeIn public k []));
    stored = subst (λ (s : AuthenticatorState). Each (IsOf h.made) s.credentials) (sym new.state) tt;
    for_party = subst (λ (s : AuthenticatorState). Each (IsMadeFor public k []) s.credentials) (sym new.state) tt;
    sound = subst SoundState (sym new.state) (b.steps.begins new.aaguid new.uv new.attest);
    remembered = subst (Remembering k []) (sym new.state) tt;
  }

  pub front : (w : World) (past later : List Moment) → IsRun valid public w (past ++ later) → IsRun valid public w past
  front w [] later run = tt
  front w (m ∷ past) later run = (run.0, run.1, front m.new past later run.2)

  pub ledger : LedgerOfAllRuns valid public
  ledger w past later start run =
      let account : (k : ℕ) → Account k past ((world_after w past).holder k) =
      λ k. over k [] w past (front w past later run) (begins k (w.holder k) (start.holders k)) in
      record {
        signed = λ k. (account k).signed;
        made = λ k. (account k).made;
        stored = λ k. All-from_recursion (IsOf ((world_after w past).holder k).made) ((world_after w past).holder k).state.credentials (account k).stored;
        for_party = λ k. All-from_recursion (IsMadeFor public k past) ((world_after w past).holder k).state.credentials (account k).for_party;
      }
