-- What is signed for a user who is verified is of a request that a token granted.
use Rattle.std.proofs.Common.{◌≡◌, ◌⊎◌, ◌==◌, ◌<◌, ℕ, zero, suc, List, [], ◌∷◌, ◌++◌, Bool, true, false, Option, Some, None, refl, sym, ap, subst, ◌∙◌, inl, inr, append_assoc, append-nil, Contains, arith}
use Rattle.std.proofs.lemmas.Option.{same_Some}
use Rattle.std.specs.Prelude.{if◌then◌else◌, slice_index_or}
use Rattle.hidframe.specs.declared.Packet.{Packet}
use Rattle.hidlink.specs.Ranks.{Idle, Receiving, TransactionState, Working}
use Rattle.hidlink.specs.declared.transaction.DeviceEvent.{DeviceEvent}
use Rattle.refusal_order.specs.Lines.{first_true}
use Rattle.cose.specs.Schemes.{Validity}
use Rattle.cose.specs.declared.key.SigningAlg.{SigningAlg}
use Rattle.authdata.specs.Flags.{is_set, UV}
use Rattle.authdata.specs.Layout.{AuthenticatorData, AuthOf}
use Rattle.authdata.specs.declared.profile.Profile.{Profile}
use Rattle.authdata.specs.declared.profile.Profile.TheVariants.{Strict}
use Rattle.authdata.specs.declared.statement.AttestationType.{AttestationType}
use Rattle.authdata.specs.declared.statement.AttestationType.TheVariants as types
use Rattle.ctap_replies.specs.Replies.{Assertion, Creation, ReplyMessage}
use Rattle.ctap_requests.specs.Requests.{CreationRequest, RequestMessage, get_assertion, get_info, get_next_assertion, make_credential, reset}
use Rattle.ctap_requests.specs.Status.{IsRequest}
use Rattle.authenticator.specs.Orders.{assertion_order, candidates, creation_flags, creation_order, is_true, next_order, remembered_on, reset_order}
use Rattle.authenticator.specs.Signing.{message_of, no_signature, only}
use Rattle.authenticator.specs.State.{Asked, AuthenticatorState, CredentialSource, Remembered}
use Rattle.authenticator.specs.Steps.{AnswersWith, CarriesOut, Entry, FirstAnswers, Keys, MakesStatement, NextAnswers, Outcome, Step, Unless, asked_by, assertion, assertion_data, attestation, creation_data, key_of, refusal, remembering}
use Rattle.authenticator.specs.declared.consent.Consent.{Consent}
use Rattle.authenticator.specs.declared.consent.Words.{Words}
use Rattle.authenticator.specs.declared.pending.Pending.{Pending}
use Rattle.authenticator.proofs.Asked.{assertion_hashed}
use Rattle.authenticator.proofs.Soundness.{follows, granted, uv_made, uv_set}
use Rattle.key_pin.specs.Calls.{nexts}
use Rattle.key_pin.specs.Laws.{PinLaws}
use Rattle.key_pin.specs.State.{PinState}
use Rattle.key_pin.specs.declared.words.PinWords.{PinWords}
use Rattle.key_device.specs.Acts.{Goes, TakesAnswer, TakesDecision, TakesWords, WantsAnswer, WantsWords}
use Rattle.key_device.specs.Deciding.{Decides, Handed, handed}
use Rattle.key_device.specs.Key.{KeyDeviceState}
use Rattle.key_device.specs.declared.stage.Stage.{Stage}
use Rattle.key_device.specs.declared.stage.Stage.TheVariants as stages
use Rattle.key_device.specs.declared.stage.Told.{Told}
use Rattle.key_runs.specs.Runs as runs
use Rattle.key_runs.specs.Runs.{Acts, Answers, EndsToken, Expires, IsKeyRun, KeyAct, KeyMoment, Loads, PowersUp, Signs, Takes, Waits}
use Rattle.key_runs.specs.Signed.{HasUv, IsSignedAt, SignedRuns, WasCarriedOut}
use Rattle.key_runs.proofs.Runs.{Held, handed_granted, step}

-- ---- one step of an authenticator

-- where two authenticator data stand before other bytes, and the whole is equal, they are
abbrev OneFront : Type 0
OneFront = (p q : Profile) (a b : AuthenticatorData) (x y u v : List ℕ) → AuthOf p a x → AuthOf q b y → x ++ u ≡ y ++ v → (a ≡ b) × (x ≡ y) × (u ≡ v)

-- UV was asked for only of a user who was verified
abbrev IsMemory : AuthenticatorState → Type 0
IsMemory a = (r : Remembered) → a.remembered ≡ Some r → r.asked.uv ≡ true → r.asked.consent.verified ≡ true

-- this is given for the request, or is of a getAssertion that was remembered
abbrev IsOf : AuthenticatorState → Consent → Consent → Type 0
IsOf a given consent = (consent ≡ given) ⊎ ((q : Remembered) × (a.remembered ≡ Some q) × (consent ≡ q.asked.consent))

unless : (o : Option ℕ) (a : AuthenticatorState) (out : Outcome) (S : Type 0) → Unless o a out S → ((status : ℕ) × (out ≡ refusal a status)) ⊎ ((o ≡ None) × S)
unless (Some status) a out S h = inl (status, h)
unless None a out S h = inr (refl, h)

none_remembered : (a b : AuthenticatorState) (r : Remembered) → b.remembered ≡ None → b.remembered ≡ Some r → ⊥
none_remembered a b r none some = let bad : None ≡ Some r = sym none ∙ some in absurd cc

none_there : (signed : List Entry) (e : Entry) → signed ≡ [] → Contains signed e → ⊥
none_there signed e none there =
    let in_none : Contains [] e = subst (λ (l : List Entry). Contains l e) none there in
    let lt = in_none.1 in omega (arith, lt)

the_only : (signed : List Entry) (x e : Entry) → signed ≡ x ∷ [] → Contains signed e → x ≡ e
the_only signed x e one there = go in_one.0 in_one.1 in_one.2
  where
    in_one : Contains (x ∷ []) e
    in_one = subst (λ (l : List Entry). Contains l e) one there

    go : (k : ℕ) → k < 1 → slice_index_or (x ∷ []) k e ≡ e → x ≡ e
    go zero lt is = is
    go (suc k) lt is = absurd (omega (arith, lt))

is_remembered : (channel : ℕ) (o : Option Remembered) (q : Remembered) → remembered_on channel o ≡ Some q → o ≡ Some q
is_remembered channel None q is = absurd cc
is_remembered channel (Some r) q is = go (r.asked.channel == channel) is
  where
    go : (b : Bool) → (if b then Some r else None) ≡ Some q → Some r ≡ Some q
    go true is = is
    go false is = absurd cc

asked_of : (asked : Asked) (later : List (List ℕ)) (r : Remembered) → remembering asked later ≡ Some r → r.asked ≡ asked
asked_of asked [] r is = absurd cc
asked_of asked (id ∷ ids) r is =
    ap (λ (z : Remembered). z.asked) (sym (same_Some (record { asked = asked; next = id; later = ids }) r is))

-- the authenticator data of an entry
front_of : OneFront → (e : Entry) (has : HasUv e) (auth : AuthenticatorData) (bytes hash : List ℕ) → AuthOf Strict auth bytes → e.message ≡ bytes ++ hash
    → is_set auth.flags UV ≡ true
front_of one e has auth bytes hash spelled message =
    let same = (one Strict Strict has.auth auth has.bytes bytes has.hash hash has.spelled spelled (sym has.message ∙ message)).0 in
    ap (λ (d : AuthenticatorData). is_set d.flags UV) (sym same) ∙ has.uv

module _ (one : OneFront) (valid : Validity) (public : Keys) (a : AuthenticatorState) (channel : ℕ) (consent : Consent) (words : Words) (out : Outcome) where
  record Tells : Type 0 where
    pub remembers : (r : Remembered) → out.state.remembered ≡ Some r → IsOf a consent r.asked.consent
    pub signs : (e : Entry) → Contains out.signed e → IsOf a consent e.consent
    pub memory : IsMemory a → IsMemory out.state
    pub verified : IsMemory a → (e : Entry) → Contains out.signed e → HasUv e → e.consent.verified ≡ true

  -- nothing is signed or remembered
  quiet : out.state.remembered ≡ None → out.signed ≡ [] → Tells
  quiet none signed = record {
    remembers = λ r is. absurd (none_remembered a out.state r none is);
    signs = λ e there. absurd (none_there out.signed e signed there);
    memory = λ before r is. absurd (none_remembered a out.state r none is);
    verified = λ before e there. absurd (none_there out.signed e signed there);
  }

  refused : (status : ℕ) → out ≡ refusal a status → Tells
  refused status is = quiet (ap (λ (o : Outcome). o.state.remembered) is) (ap (λ (o : Outcome). o.signed) is)

  -- the entry of an assertion
  abbrev asserted : CredentialSource → Asked → Assertion → Entry
  asserted c asked shown = record {
    key = key_of public c;
    message = shown.auth_data ++ asked.client_data_hash;
    purpose = assertion;
    consent = asked.consent;
  }

  -- an answer by a credential, to what was asked with such a consent
  answered : (id : List ℕ) (asked : Asked) (later : List (List ℕ)) (message : Assertion → ReplyMessage) (count : Option ℕ)
      → AnswersWith valid public a id asked later message count out → IsOf a consent asked.consent
      → (IsMemory a → asked.uv ≡ true → asked.consent.verified ≡ true) → Tells
  answered id asked later message count x of uv = record {
    remembers = λ r is. subst (λ (z : Asked). IsOf a consent z.consent) (sym (again r is)) of;
    signs = λ e there. subst (λ (c : Consent). IsOf a consent c) (ap (λ (z : Entry). z.consent) (only_one e there)) of;
    memory = λ before r is. subst (λ (z : Asked). z.uv ≡ true → z.consent.verified ≡ true) (sym (again r is)) (uv before);
    verified = λ before e there has.
        let message = ap (λ (z : Entry). z.message) (sym (only_one e there)) in
        let set = front_of one e has (assertion_data x.credential asked) x.shown.auth_data asked.client_data_hash x.asserts.spelled message in
        ap (λ (z : Entry). z.consent.verified) (sym (only_one e there)) ∙ uv before (uv_set asked.up asked.uv set);
  } where
    again : (r : Remembered) → out.state.remembered ≡ Some r → r.asked ≡ asked
    again r is = asked_of asked later r (sym (ap (λ (z : AuthenticatorState). z.remembered) x.state) ∙ is)

    only_one : (e : Entry) → Contains out.signed e → asserted x.credential asked x.shown ≡ e
    only_one e there = the_only out.signed (asserted x.credential asked x.shown) e x.signed there

  -- a new credential's attestation
  attested : (attest : AttestationType) (q : CreationRequest) (alg : SigningAlg) (shown : Creation)
      → AuthOf Strict (creation_data a q words.id (public alg words.secret)) shown.auth_data
      → MakesStatement valid (public alg words.secret) q.client_data_hash consent attest shown out.signed
      → (is_true (creation_flags q.options).uv ≡ true → consent.verified ≡ true) → (e : Entry) → Contains out.signed e
      → (e.consent ≡ consent) × (HasUv e → e.consent.verified ≡ true)
  attested types.None q alg shown spelled h uv e there = absurd (none_there out.signed e h.2 there)
  attested types.SelfSigned q alg shown spelled h uv e there =
      let entry : Entry = record {
        key = public alg words.secret;
        message = shown.auth_data ++ q.client_data_hash;
        purpose = attestation;
        consent = consent;
      } in
      let is = the_only out.signed entry e h.2 there in (
        ap (λ (z : Entry). z.consent) (sym is),
        λ has.
            let set = front_of one e has (creation_data a q words.id (public alg words.secret)) shown.auth_data q.client_data_hash spelled
            (ap (λ (z : Entry). z.message) (sym is)) in
            ap (λ (z : Entry). z.consent.verified) (sym is) ∙ uv (uv_made (is_true (creation_flags q.options).uv) set),
      )

  first : (ids : List (List ℕ)) (asked : Asked) → FirstAnswers valid public a ids asked out → IsOf a consent asked.consent
      → (IsMemory a → asked.uv ≡ true → asked.consent.verified ≡ true) → Tells
  first [] asked h of uv = absurd h
  first (id ∷ ids) asked h of uv = answered id asked ids _ _ h of uv

  next : (o : Option Remembered) → NextAnswers valid public a o out → ((q : Remembered) → o ≡ Some q → a.remembered ≡ Some q) → Tells
  next None h there = absurd h
  next (Some q) h there =
      answered q.next q.asked q.later _ _ h (inr (q, there q refl, refl)) (λ before. before q (there q refl))

  carries_out : (q : RequestMessage) (bs : List ℕ) → IsRequest q bs → CarriesOut valid public a channel consent words q out → Tells
  carries_out (make_credential q) bs is h = elim (unless (first_true (creation_order a q consent words)) a out _ h) [
    | inl refuses ↦ refused refuses.0 refuses.1
    | inr made ↦
        let x = made.1 in
        let may = granted a q consent words made.0 in
        let forgets = ap (λ (z : AuthenticatorState). z.remembered) x.state in
        record {
          remembers = λ r some. absurd (none_remembered a out.state r forgets some);
          signs = λ e there. inl (attested a.attest q x.alg x.shown x.spelled x.attested may.verified e there).0;
          memory = λ before r some. absurd (none_remembered a out.state r forgets some);
          verified = λ before e there. (attested a.attest q x.alg x.shown x.spelled x.attested may.verified e there).1;
        }
  ]
  carries_out (get_assertion q) bs is h = elim (unless (first_true (assertion_order a q consent)) a out _ h) [
    | inl refuses ↦ refused refuses.0 refuses.1
    | inr x ↦
        let follow = follows a channel q consent (assertion_hashed q bs is) x.0 in
        first (candidates a.credentials q.rp_id q.allow_list) (asked_by channel q consent) x.1 (inl refl) (λ before. follow.verified)
  ]
  carries_out get_next_assertion bs is h = elim (unless (first_true (next_order a channel)) a out _ h) [
    | inl refuses ↦ refused refuses.0 refuses.1
    | inr x ↦ next (remembered_on channel a.remembered) x.1 (is_remembered channel a.remembered)
  ]
  carries_out get_info bs is h = quiet (ap (λ (z : AuthenticatorState). z.remembered) h.state) h.signed
  carries_out reset bs is h = elim (unless (first_true (reset_order consent)) a out _ h) [
    | inl refuses ↦ refused refuses.0 refuses.1
    | inr x ↦ quiet (ap (λ (z : AuthenticatorState). z.remembered) x.1.state) x.1.signed
  ]

  tells : (bs : List ℕ) → Step valid public a channel bs consent words out → Tells
  tells bs (inl h) = refused _ h.2
  tells bs (inr h) = carries_out h.0 bs h.1 h.2

-- ---- what an act makes of the authenticator

-- it is as it was; or remembers nothing; or made a step with what it was handed
data Changes (old new : KeyDeviceState) : Type 0 where
  same : new.authenticator ≡ old.authenticator → Changes old new
  forgets : new.authenticator.remembered ≡ None → Changes old new
  steps : (bs : List ℕ) (consent : Consent) (h : Handed) → handed old.pin old.stage bs consent ≡ Some h
      → ((r : Remembered) → new.authenticator.remembered ≡ Some r → IsOf old.authenticator h.consent r.asked.consent)
      → (IsMemory old.authenticator → IsMemory new.authenticator) → Changes old new

abbrev authenticator_in : KeyDeviceState → AuthenticatorState
authenticator_in k = k.authenticator

module _ (one : OneFront) (old new : KeyDeviceState) where
  -- all else may change
  beside : (k : KeyDeviceState) → new ≡ k → k.authenticator ≡ old.authenticator → Changes old new
  beside k is as_it_was = same (ap authenticator_in is ∙ as_it_was)

  goes : (s t : TransactionState) (mid : KeyDeviceState) (between : List Packet) (event : DeviceEvent) (told : Told) (after : List Packet)
      → mid.authenticator ≡ old.authenticator → Goes s t mid between event told new after → Changes old new
  goes (Working c bs) (Working d cs) mid between event told after kept h = beside mid h.2 kept
  goes Idle (Working d cs) mid between event told after kept h = same (ap authenticator_in h.4 ∙ kept)
  goes (Receiving i j k l bs) (Working d cs) mid between event told after kept h = same (ap authenticator_in h.4 ∙ kept)
  goes Idle Idle mid between event told after kept h = same (ap authenticator_in h.1 ∙ kept)
  goes (Receiving i j k l bs) Idle mid between event told after kept h = same (ap authenticator_in h.1 ∙ kept)
  goes (Working c bs) Idle mid between event told after kept h = same (ap authenticator_in h.1 ∙ kept)
  goes Idle (Receiving m n o p cs) mid between event told after kept h = same (ap authenticator_in h.1 ∙ kept)
  goes (Receiving i j k l bs) (Receiving m n o p cs) mid between event told after kept h = same (ap authenticator_in h.1 ∙ kept)
  goes (Working c bs) (Receiving m n o p cs) mid between event told after kept h = same (ap authenticator_in h.1 ∙ kept)

  takes_words : (words : PinWords) (st : Stage) (before : List Packet) (t : Told) (after : List Packet) → TakesWords st old words before t new after → Changes old new
  takes_words words (stages.Words r) before t after h = same (ap authenticator_in h.7)
  takes_words words stages.Unread before t after h = same (ap authenticator_in h.4)
  takes_words words stages.Nothing before t after h = absurd h
  takes_words words (stages.Answer r c) before t after h = absurd h
  takes_words words stages.User before t after h = absurd h
  takes_words words stages.Touch before t after h = absurd h
  takes_words words (stages.Granted g) before t after h = absurd h

  wants_words : (words : PinWords) (st : Stage) → WantsWords st old words new → Changes old new
  wants_words words (stages.Words r) (inl h) = same (ap authenticator_in h)
  wants_words words (stages.Words r) (inr h) = same (ap authenticator_in h.4)
  wants_words words stages.Unread h = same (ap authenticator_in h)
  wants_words words stages.Nothing h = same (ap authenticator_in h)
  wants_words words (stages.Answer r c) h = same (ap authenticator_in h)
  wants_words words stages.User h = same (ap authenticator_in h)
  wants_words words stages.Touch h = same (ap authenticator_in h)
  wants_words words (stages.Granted g) h = same (ap authenticator_in h)

  takes_answer : (answer : List ℕ) (st : Stage) (before : List Packet) (t : Told) (after : List Packet) → TakesAnswer st old answer before t new after
      → Changes old new
  takes_answer answer (stages.Answer r c) before t after h = same (ap authenticator_in h.7)
  takes_answer answer stages.Unread before t after h = absurd h
  takes_answer answer stages.Nothing before t after h = absurd h
  takes_answer answer (stages.Words r) before t after h = absurd h
  takes_answer answer stages.User before t after h = absurd h
  takes_answer answer stages.Touch before t after h = absurd h
  takes_answer answer (stages.Granted g) before t after h = absurd h

  wants_answer : (answer : List ℕ) (st : Stage) → WantsAnswer st old answer new → Changes old new
  wants_answer answer (stages.Answer r c) (inl h) = same (ap authenticator_in h)
  wants_answer answer (stages.Answer r c) (inr (inl h)) = same (ap authenticator_in h)
  wants_answer answer (stages.Answer r c) (inr (inr h)) = same (ap authenticator_in h.4)
  wants_answer answer stages.Unread h = same (ap authenticator_in h)
  wants_answer answer stages.Nothing h = same (ap authenticator_in h)
  wants_answer answer (stages.Words r) h = same (ap authenticator_in h)
  wants_answer answer stages.User h = same (ap authenticator_in h)
  wants_answer answer stages.Touch h = same (ap authenticator_in h)
  wants_answer answer (stages.Granted g) h = same (ap authenticator_in h)

  decided : (public : Keys) (consent : Consent) (words : Words) (before after : List Packet) (o : Option Pending)
      → Decides public old.device old.authenticator old.pin old.stage consent words before o new.device new.authenticator new.pin after → Changes old new
  decided public consent words before after None d =
      let out : Outcome = record { reply = d.reply; state = new.authenticator; signed = d.step.0; made = d.step.1 } in
      let x = tells one no_signature public old.authenticator d.channel d.given.consent words out d.given.request d.step.2 in
      steps d.request consent d.given d.hands x.remembers x.memory
  decided public consent words before after (Some p) d = same d.2

  decides : (public : Keys) (consent : Consent) (words : Words) (st : Stage) (before : List Packet) (t : Told) (after : List Packet)
      → TakesDecision public st old consent words before t new after → Changes old new
  decides public consent words stages.User before t after h = decided public consent words before after h.0 h.1
  decides public consent words (stages.Granted g) before t after h = decided public consent words before after h.0 h.1
  decides public consent words stages.Touch before t after h = same (ap authenticator_in h.2)
  decides public consent words stages.Unread before t after h = same (ap authenticator_in h.4)
  decides public consent words stages.Nothing before t after h = absurd h
  decides public consent words (stages.Words r) before t after h = absurd h
  decides public consent words (stages.Answer r c) before t after h = absurd h

  changes : (a : KeyAct) → Acts old a new → Changes old new
  changes Waits h = same (ap authenticator_in h.3.3)
  changes Expires h = same (ap authenticator_in h.3.3)
  changes (Takes p) h = let x = h.3 in goes old.device.state x.1.state (record old { device = x.1 }) x.2 x.0 h.1 h.2 refl x.4
  changes (runs.Computes words) (inl h) = takes_words words old.stage h.0 h.1 h.2 h.3
  changes (runs.Computes words) (inr h) = wants_words words old.stage h
  changes (Answers answer) (inl h) = takes_answer answer old.stage h.0 h.1 h.2 h.3
  changes (Answers answer) (inr h) = wants_answer answer old.stage h
  changes (runs.Decides consent words) h = decides h.0 consent words old.stage h.1 h.2 h.3 h.4
  changes (Signs signature) (inl h) =
      let x = h.2 in
      let y = x.step x.known (λ alg. refl) in
      let out : Outcome = record { reply = x.reply; state = new.authenticator; signed = y.5.0; made = y.5.1 } in
      let valid : Validity = only (x.known x.pending.alg x.pending.secret) (message_of x.pending) signature in
      let z = tells one valid x.known old.authenticator y.0 y.2.consent x.words out y.2.request y.5.2 in
      steps y.1 x.consent y.2 y.4 z.remembers z.memory
  changes (Signs signature) (inr is) = same (ap authenticator_in is)
  changes PowersUp is = forgets (ap (λ (k : KeyDeviceState). k.authenticator.remembered) is)
  changes EndsToken is = same (ap authenticator_in is)
  changes (Loads bytes) h = forgets h.0.remembered

-- ---- over a run

carried_out_later : (s : PinState) (past : List KeyMoment) (m : KeyMoment) → WasCarriedOut s past → WasCarriedOut s (past ++ m ∷ [])
carried_out_later s past m x = record {
  before = x.before;
  moment = x.moment;
  later = x.later ++ m ∷ [];
  here = ap (λ (l : List KeyMoment). l ++ m ∷ []) x.here ∙ append_assoc x.before (x.moment ∷ x.later) (m ∷ []);
  granted = x.granted;
  stage = x.stage;
  vouched = x.vouched;
}

module _ (one : OneFront) (laws : PinLaws) (s : PinState) (none : s.token ≡ None) where
  -- so far, with what is remembered
  record Remembers (past : List KeyMoment) (k : KeyDeviceState) : Type 0 where
    pub held : Held s past k
    pub remembered : (r : Remembered) → k.authenticator.remembered ≡ Some r → r.asked.consent.verified ≡ true → WasCarriedOut s past
    pub memory : IsMemory k.authenticator

  -- a consent with which a step is made, or that it has of what was remembered
  verified_by : (past : List KeyMoment) (m : KeyMoment) → Remembers past m.old → (bs : List ℕ) (given : Consent) (h : Handed)
      → handed m.old.pin m.old.stage bs given ≡ Some h → (consent : Consent) → IsOf m.old.authenticator h.consent consent → consent.verified ≡ true
      → WasCarriedOut s (past ++ m ∷ [])
  verified_by past m x bs given h hands consent (inl now) verified =
      let u = nexts x.held.calls s in
      let g = handed_granted laws s none u m.old.stage bs given h (subst (λ (p : Option PinState). handed p m.old.stage bs given ≡ Some h) x.held.pin hands)
      (ap (λ (c : Consent). c.verified) (sym now) ∙ verified) in
      record { before = past; moment = m; later = []; here = refl; granted = g.0; stage = g.1; vouched = x.held.granted g.0 g.1 }
  verified_by past m x bs given h hands consent (inr was) verified =
      carried_out_later s past m (x.remembered was.0 was.1 (ap (λ (c : Consent). c.verified) (sym was.2) ∙ verified))

  remembers_then : (past : List KeyMoment) (m : KeyMoment) → Remembers past m.old → Changes m.old m.new → (r : Remembered)
      → m.new.authenticator.remembered ≡ Some r → r.asked.consent.verified ≡ true → WasCarriedOut s (past ++ m ∷ [])
  remembers_then past m x (same is) r there verified =
      carried_out_later s past m (x.remembered r (ap (λ (a : AuthenticatorState). a.remembered) (sym is) ∙ there) verified)
  remembers_then past m x (forgets is) r there verified = let bad : None ≡ Some r = sym is ∙ there in absurd cc
  remembers_then past m x (steps bs given h hands of memory) r there verified = verified_by past m x bs given h hands r.asked.consent (of r there) verified

  memory_then : (old new : KeyDeviceState) → IsMemory old.authenticator → Changes old new → IsMemory new.authenticator
  memory_then old new before (same is) r there = subst IsMemory (sym is) before r there
  memory_then old new before (forgets is) r there = let bad : None ≡ Some r = sym is ∙ there in absurd cc
  memory_then old new before (steps bs given h hands of memory) r there = memory before r there

  step_then : (past : List KeyMoment) (m : KeyMoment) → Remembers past m.old → Acts m.old m.act m.new → Remembers (past ++ m ∷ []) m.new
  step_then past m x does = record {
    held = step laws s none past m x.held does;
    remembered = remembers_then past m x (changes one m.old m.new m.act does);
    memory = memory_then m.old m.new x.memory (changes one m.old m.new m.act does);
  }

  signs_at : (past : List KeyMoment) (m : KeyMoment) (e : Entry) → Remembers past m.old → IsSignedAt m e → HasUv e → WasCarriedOut s (past ++ m ∷ [])
  signs_at past m e x at has =
      let y = at.signed.step at.public at.agrees in
      let out : Outcome = record { reply = at.signed.reply; state = m.new.authenticator; signed = y.5.0; made = y.5.1 } in
      let valid : Validity = only (at.public at.signed.pending.alg at.signed.pending.secret) (message_of at.signed.pending) at.signature in
      let z = tells one valid at.public m.old.authenticator y.0 y.2.consent at.signed.words out y.2.request y.5.2 in
      verified_by past m x y.1 at.signed.consent y.2 y.4 e.consent (z.signs e at.there) (z.verified x.memory e at.there has)

  over_to : (done past later : List KeyMoment) (k : KeyDeviceState) (m : KeyMoment) (e : Entry) → Remembers done k → IsKeyRun k (past ++ m ∷ later)
      → IsSignedAt m e → HasUv e → WasCarriedOut s ((done ++ past) ++ m ∷ [])
  over_to done [] later k m e x run at has =
      subst (λ (l : List KeyMoment). WasCarriedOut s (l ++ m ∷ [])) (sym (append-nil done))
      (signs_at done m e (subst (Remembers done) (sym run.0) x) at has)
  over_to done (l ∷ past) later k m e x run at has =
      subst (λ (ls : List KeyMoment). WasCarriedOut s (ls ++ m ∷ [])) (append_assoc done (l ∷ []) past)
      (over_to (done ++ l ∷ []) past later l.new m e (step_then done l (subst (Remembers done) (sym run.0) x) run.1) run.2 at has)

pub signed_runs : OneFront → PinLaws → SignedRuns
signed_runs one laws k s past later m e pin none ungranted forgotten run at has =
    over_to one laws s none [] past later k m e (record {
      held = record { calls = []; are_calls = refl; pin = pin; granted = λ g is. absurd (ungranted g is) };
      remembered = λ r is verified. let bad : None ≡ Some r = sym forgotten ∙ is in absurd cc;
      memory = λ r is uv. let bad : None ≡ Some r = sym forgotten ∙ is in absurd cc;
    }) run at has
