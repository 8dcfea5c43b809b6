-- A credential that is stored no more was dropped by a request with presence.
use Rattle.std.proofs.Common.{◌≡◌, ◌+◌, inl, inr, ℕ, List, [], ◌∷◌, ◌++◌, Bool, true, false, Option, Some, None, refl, sym, ◌∙◌, ap, subst, arith}
use Rattle.std.specs.Prelude.{if◌then◌else◌, not}
use Rattle.std.specs.Str.{bytes_eq}
use Rattle.std.specs.List.{AllByRecursion as Each}
use Rattle.std.proofs.lemmas.Bool.Decides.{eqb_tells}
use Rattle.std.proofs.lemmas.Grind.{common_steps}
use Rattle.std.proofs.lemmas.List.Elements.{All-from_recursion}
use Rattle.cose.specs.Schemes.{Validity}
use Rattle.refusal_order.specs.Lines.{first_true}
use Rattle.ctap_replies.specs.Replies.{Assertion, ReplyMessage}
use Rattle.ctap_replies.proofs.Texts.{and_left, and_right}
use Rattle.ctap_requests.specs.Requests.{CreationRequest, RequestMessage, get_assertion, get_info, get_next_assertion, make_credential, reset}
use Rattle.ctap_requests.specs.Status.{IsRequest, status_of}
use Rattle.authenticator.specs.State.{Asked, AuthenticatorState, CredentialSource, Remembered}
use Rattle.authenticator.specs.Credentials.{credential_of, is_resident_for, is_resident_of, without_first}
use Rattle.authenticator.specs.Orders.{assertion_order, candidates, creation_flags, creation_order, is_true, kept, next_order, remembered_on, reset_order}
use Rattle.authenticator.specs.Steps.{AnswersWith, CarriesOut, Creates, FirstAnswers, Keys, NextAnswers, Outcome, Resets, Step, Unless, asked_by, new_credential}
use Rattle.authenticator.specs.Steps.{refusal}
use Rattle.authenticator.specs.declared.consent.Consent.{Consent}
use Rattle.authenticator.specs.declared.consent.Words.{Words}
use Rattle.authenticator.proofs.Soundness.{granted}
use Rattle.authenticator.proofs.Stored.{same_id}
use Rattle.agreement.specs.Below.{Below}
use Rattle.agreement.specs.Dropped.{Drops, DropsOfAllRuns, IsDropped}
use Rattle.agreement.specs.World.{Asks, AtSite, Done, Event, EventEffect, EventEnd, Happens, Holder, IsRun, Moment, Nothing, Reloads, World}
use Rattle.agreement.proofs.Own.{IsOwnId, own_all}

-- ---- lists

none_front : (id : List ℕ) (cs ds : List CredentialSource) → credential_of id (cs ++ ds) ≡ None → credential_of id cs ≡ None
none_front id [] ds none = refl
none_front id (x ∷ cs) ds none = grind (arith, common_steps, none, none_front id cs ds)

-- what is taken out passes the test
taken_out : (test : CredentialSource → Bool) (cs : List CredentialSource) (c : CredentialSource) → credential_of c.id cs ≡ Some c
    → credential_of c.id (without_first test cs) ≡ None → test c ≡ true
taken_out test [] c found none = absurd cc
taken_out test (x ∷ cs) c found none = grind (arith, common_steps, found, none, taken_out test cs c)

-- what is replaced is resident, and of this relying party and user
replaced : (cs : List CredentialSource) (q : CreationRequest) (c : CredentialSource) → credential_of c.id cs ≡ Some c
    → credential_of c.id (kept cs q) ≡ None → Drops c (make_credential q)
replaced cs q c found none = either (is_true (creation_flags q.options).rk) refl none where
  either : (b : Bool) → is_true (creation_flags q.options).rk ≡ b
      → credential_of c.id (if b then without_first (is_resident_of q.rp.id q.user.id) cs else cs) ≡ None → Drops c (make_credential q)
  either false is none = let bad : None ≡ Some c = sym none ∙ found in absurd cc
  either true is none =
      let passes = taken_out (is_resident_of q.rp.id q.user.id) cs c found none in
      let of_party = and_left (is_resident_for q.rp.id c) (bytes_eq c.user q.user.id) passes in (
        is,
        and_left c.resident (bytes_eq c.rp_id q.rp.id) of_party,
        same_id c.rp_id q.rp.id (and_right c.resident (bytes_eq c.rp_id q.rp.id) of_party),
        same_id c.user q.user.id (and_right (is_resident_for q.rp.id c) (bytes_eq c.user q.user.id) passes),
      )

-- a reset is refused without presence
reset_present : (consent : Consent) → first_true (reset_order consent) ≡ None → consent.present ≡ true
reset_present consent none = either consent.present none where
  either : (b : Bool) → first_true {X = ℕ} ((not b, 0x27) ∷ []) ≡ None → b ≡ true
  either true e = refl
  either false e = absurd cc

module _ (valid : Validity) (public : Keys) (b : Below valid public) where
  -- ---- a request

  module _ (k channel : ℕ) (bs : List ℕ) (consent : Consent) (words : Words) (m : Moment) (out : Outcome)
      (event : m.event ≡ Asks k channel bs consent words) (done : m.end ≡ Done) (c : CredentialSource)
      (there : credential_of c.id (m.old.holder k).state.credentials ≡ Some c) (gone : credential_of c.id out.state.credentials ≡ None) where
    abbrev old : AuthenticatorState
    old = (m.old.holder k).state

    dropped : (q : RequestMessage) → IsRequest q bs → Drops c q → consent.present ≡ true → IsDropped k c m
    dropped q is drops present = record {
      channel = channel;
      consent = consent;
      words = words;
      request = q;
      asked = record { bytes = bs; event = event; done = done; request = is };
      drops = drops;
      present = present;
    }

    -- it is stored, with whatever counter
    stays : (d : CredentialSource) → credential_of c.id out.state.credentials ≡ Some d → IsDropped k c m
    stays d is = let bad : None ≡ Some d = sym gone ∙ is in absurd cc

    same : (a : AuthenticatorState) → out.state ≡ a → credential_of c.id a.credentials ≡ Some c → IsDropped k c m
    same a is found = stays c (ap (λ (s : AuthenticatorState). credential_of c.id s.credentials) is ∙ found)

    refused : (status : ℕ) → out ≡ refusal old status → IsDropped k c m
    refused status is = same (refusal old status).state (ap (λ (o : Outcome). o.state) is) there

    unless : (o : Option ℕ) (P : Type 0) → (o ≡ None → P → IsDropped k c m) → Unless o old out P → IsDropped k c m
    unless None P f h = f refl h
    unless (Some status) P f h = refused status h

    created : (q : CreationRequest) → IsRequest (make_credential q) bs → first_true (creation_order old q consent words) ≡ None
        → Creates valid public old q consent words out → IsDropped k c m
    created q is none h =
        let none_left : credential_of c.id (kept old.credentials q ++ new_credential q h.alg words ∷ []) ≡ None =
        ap (λ (s : AuthenticatorState). credential_of c.id s.credentials) (sym h.state) ∙ gone in
        dropped (make_credential q) is (replaced old.credentials q c there (none_front c.id (kept old.credentials q) _ none_left))
        (granted old q consent words none).present

    answered : (id : List ℕ) (asked : Asked) (later : List (List ℕ)) (message : Assertion → ReplyMessage) (count : Option ℕ)
        → AnswersWith valid public old id asked later message count out → IsDropped k c m
    answered id asked later message count h =
        let own : IsOwnId c.rp_id old.credentials c.id = (c, there, refl) in
        let left = (own_all c.rp_id id (h.credential.sign_count + 1) old.credentials (c.id ∷ []) (own, tt)).0 in
        stays left.0 (ap (λ (s : AuthenticatorState). credential_of c.id s.credentials) h.state ∙ left.1)

    first_answered : (ids : List (List ℕ)) (asked : Asked) → FirstAnswers valid public old ids asked out → IsDropped k c m
    first_answered [] asked h = absurd h
    first_answered (id ∷ ids) asked h = answered id asked ids _ _ h

    next_answered : (o : Option Remembered) → NextAnswers valid public old o out → IsDropped k c m
    next_answered None h = absurd h
    next_answered (Some r) h = answered r.next r.asked r.later _ _ h

    carried : (q : RequestMessage) → IsRequest q bs → CarriesOut valid public old channel consent words q out → IsDropped k c m
    carried (make_credential q) is h = unless (first_true (creation_order old q consent words)) (Creates valid public old q consent words out) (created q is) h
    carried (get_assertion q) is h =
        let ids = candidates old.credentials q.rp_id q.allow_list in
        unless (first_true (assertion_order old q consent)) (FirstAnswers valid public old ids (asked_by channel q consent) out)
        (λ none. first_answered ids (asked_by channel q consent)) h
    carried get_next_assertion is h =
        unless (first_true (next_order old channel)) (NextAnswers valid public old (remembered_on channel old.remembered) out)
        (λ none. next_answered (remembered_on channel old.remembered)) h
    carried get_info is h = same _ h.state there
    carried reset is h = unless (first_true (reset_order consent)) (Resets old out) (λ none r. dropped reset is tt (reset_present consent none)) h

    stepped : Step valid public old channel bs consent words out → IsDropped k c m
    stepped (inl unread) = refused (status_of unread.0) unread.2
    stepped (inr read) = carried read.0 read.1 read.2

  -- ---- a moment, and a run

  abbrev Is : ℕ → CredentialSource → Moment → Type 0
  Is k c m = credential_of c.id (m.old.holder k).state.credentials ≡ Some c → credential_of c.id (m.new.holder k).state.credentials ≡ None → IsDropped k c m

  -- an authenticator that is as it was has lost none
  untouched : (k : ℕ) (c : CredentialSource) (m : Moment) → (m.new.holder k).state.credentials ≡ (m.old.holder k).state.credentials → Is k c m
  untouched k c m as_it_was there gone =
      let bad : None ≡ Some c = sym gone ∙ ap (λ cs. credential_of c.id cs) as_it_was ∙ there in absurd cc

  happened : (k : ℕ) (c : CredentialSource) (m : Moment) (event : Event) (end : EventEnd) → m.event ≡ event → m.end ≡ end
      → Happens valid public m.old event end m.new → Is k c m
  happened k c m event Nothing is ends h = untouched k c m (ap (λ (w : World). (w.holder k).state.credentials) h)
  happened k c m (AtSite i e) Done is ends h = untouched k c m (ap (λ (g : Holder). g.state.credentials) (h.2.holders k))
  happened k c m (Asks j channel bs consent words) Done is ends h = λ there gone. elim (eqb_tells j k) [
    | inl now ↦
        let here : EventEffect valid public m.old (Asks k channel bs consent words) m.new =
        subst (λ (l : ℕ). EventEffect valid public m.old (Asks l channel bs consent words) m.new) now.1 h in
        stepped k channel bs consent words m here.0 (is ∙ ap (λ l. Asks l channel bs consent words) now.1) ends c there
        (sym (ap (λ (g : Holder). credential_of c.id g.state.credentials) here.3.now) ∙ gone) here.2
    | inr other ↦ untouched k c m (ap (λ (g : Holder). g.state.credentials) (h.3.others k (λ e. other.1 (sym e)))) there gone
  ]
  happened k c m (Reloads j) Done is ends h = elim (eqb_tells j k) [
    | inl now ↦
        let here : EventEffect valid public m.old (Reloads k) m.new = subst (λ (l : ℕ). EventEffect valid public m.old (Reloads l) m.new) now.1 h in
        untouched k c m
        (ap (λ (g : Holder). g.state.credentials) here.2.now
        ∙ ap (λ (s : AuthenticatorState). s.credentials) (b.saving.restarted (m.old.holder k).state here.0 here.1))
    | inr other ↦ untouched k c m (ap (λ (g : Holder). g.state.credentials) (h.2.others k (λ e. other.1 (sym e))))
  ]

  each : (k : ℕ) (c : CredentialSource) (w : World) (run : List Moment) → IsRun valid public w run → Each (Is k c) run
  each k c w [] run = tt
  each k c w (m ∷ ms) run = (happened k c m m.event m.end refl refl run.1, each k c m.new ms run.2)

  pub dropped_of_all_runs : DropsOfAllRuns valid public
  dropped_of_all_runs w run is m there k c =
      subst (Is k c) there.2 (All-from_recursion (Is k c) run (each k c w run is) there.0 m there.1)
