-- What an event at a site keeps, and which session it takes.
use Rattle.std.proofs.Common.{◌≡◌, ◌≢◌, ◌<◌, ◌-◌, ◌^◌, ◌⊎◌, ◌++◌, ◌∷◌, [], inl, inr, ℕ, zero, suc, List, Option, Some, None, refl, sym, ◌∙◌, ap, subst, arith}
use Rattle.std.specs.Int.{w64, to_be_bytes}
use Rattle.std.specs.Prelude.{IsSome}
use Rattle.std.specs.FinMap.{gets}
use Rattle.std.specs.FinMap as finite
use Rattle.std.proofs.lemmas.Grind.{common_steps}
use Rattle.std.proofs.lemmas.Option.{same_Some}
use Rattle.base64.specs.GeneralPurpose.{IsBytes}
use Rattle.hidframe.specs.declared.Packet.{Packet}
use Rattle.hidframe.proofs.Bytes.{bytes-append}
use Rattle.cose.specs.Schemes.{Validity}
use Rattle.authdata.specs.Responses as responses
use Rattle.ctap_replies.specs.Replies.{Assertion, Creation, ReplyOf, assertion_reply, creation_reply}
use Rattle.verification.specs.SignIn as authentication
use Rattle.verification.specs.Registration as registration
use Rattle.verification.specs.Registration.{JudgedRegistration, PassesRegistrationStep}
use Rattle.verification.specs.declared.refusal.RegistrationRefusal.{RegistrationRefusal}
use Rattle.verification.specs.declared.refusal.RegistrationRefusal.TheVariants as step
use Rattle.authdata.specs.Flags.{is_set, BE}
use Rattle.site_state.specs.Table.{row_of, retired, signed_in}
use Rattle.site_state.proofs.RowLemmas.{found_id}
use Rattle.site_state.specs.Sessions.{Expected, Opening, OpensRegistration, OpensSignIn, challenge_in, closed, expected_of}
use Rattle.site.specs.Saved.{version_of}
use Rattle.site.specs.State.{IsAfterRegistration, IsAfterSignIn, SiteState, judged_sign_in, judged_registration, none_open, registered}
use Rattle.verification.specs.Records.{Credential}
use Rattle.site.specs.Laws.{IsFresh, IsGone, IsKept, Keeps, Takes, after_begin, after_restart, GoesOn}
use Rattle.site.proofs.Goings.{begun_or, still}
use Rattle.site.proofs.Judged.{no_row}
use Rattle.site.proofs.Kept.{kept_here, row_before}
use Rattle.client.specs.Responses.{response_of}
use Rattle.ceremony.specs.Registration as registering
use Rattle.ceremony.specs.Verdict.{CarriesReply, Delivers, Succeeds}
use Rattle.ceremony.proofs.OneVerdict.{registration_one, sign_in_one}
use Rattle.authenticator.specs.Steps.{Keys}
use Rattle.authenticator.proofs.Stored.{each_weaker}
use Rattle.agreement.specs.World.{Abandons, SiteActs, Begins, BeginsAs, Bounds, Deletes, EndsSessions, Expires, IsReopened, Loads, Registers, RegistersBy, Reopens}
use Rattle.agreement.specs.World.{Restarts, Retires, SignsIn, SignsInBy, SiteEvent, after_begin_as, after_delete, with_bound, with_room, words_of}
use Rattle.agreement.specs.Agreement.{BringsNewTo, BringsTo, Carried, CarriedNew, IsRegistration, session_in}
use Rattle.agreement.specs.Below.{Below}
use Rattle.agreement.proofs.Rows.{none_last, none_with, none_without, others_left}

-- ---- challenges are bytes

pub bytes_of_64 : (n : ℕ) → n < 2 ^ 64 → IsBytes (to_be_bytes w64 n)
bytes_of_64 n h zero = omega arith
bytes_of_64 n h (suc zero) = omega arith
bytes_of_64 n h (suc (suc zero)) = omega arith
bytes_of_64 n h (suc (suc (suc zero))) = omega arith
bytes_of_64 n h (suc (suc (suc (suc zero)))) = omega arith
bytes_of_64 n h (suc (suc (suc (suc (suc zero))))) = omega arith
bytes_of_64 n h (suc (suc (suc (suc (suc (suc zero)))))) = omega arith
bytes_of_64 n h (suc (suc (suc (suc (suc (suc (suc zero))))))) = omega arith
bytes_of_64 n h (suc (suc (suc (suc (suc (suc (suc (suc k)))))))) = omega arith

abbrev pub AreBytes : SiteState → Type 0
AreBytes s = (n : ℕ) (e : Expected) → finite.get s.sessions.expected n ≡ Some e → IsBytes (challenge_in e)

pub new_bytes : (n : ℕ) (o : Opening) → n < 2 ^ 64 → IsBytes (words_of o) → IsBytes (challenge_in (expected_of n o))
new_bytes n (OpensSignIn user allow uv words) lt is = bytes-append (to_be_bytes w64 n) words (bytes_of_64 n lt) is
new_bytes n (OpensRegistration user algorithms uv words asks) lt is = bytes-append (to_be_bytes w64 n) words (bytes_of_64 n lt) is

bytes_begun : (s : SiteState) (o : Opening) → s.sessions.next < 2 ^ 64 - 1 → IsBytes (words_of o) → AreBytes s → AreBytes (after_begin s o)
bytes_begun s o lt is old n e h = elim (begun_or s o n e h) [
  | inl new ↦ subst (λ (x : Expected). IsBytes (challenge_in x)) (sym new.1) (new_bytes s.sessions.next o (omega arith) is)
  | inr there ↦ old n e there
]

-- ---- a session that begins with whatever challenge

-- it is the new one, or was open
pub begun_as_or : (s : SiteState) (x : Expected) (n : ℕ) (e : Expected) → finite.get (after_begin_as s x).sessions.expected n ≡ Some e
    → ((n ≡ s.sessions.next) × (e ≡ x)) ⊎ (finite.get s.sessions.expected n ≡ Some e)
begun_as_or s x n e h = grind (arith, gets, common_steps, h)

bytes_begun_as : (s : SiteState) (x : Expected) → IsBytes (challenge_in x) → AreBytes s → AreBytes (after_begin_as s x)
bytes_begun_as s x is old n e h = elim (begun_as_or s x n e h) [
  | inl new ↦ subst (λ (z : Expected). IsBytes (challenge_in z)) (sym new.1) is
  | inr there ↦ old n e there
]

pub fresh_begun_as : (s : SiteState) (x : Expected) → IsFresh s → IsFresh (after_begin_as s x)
fresh_begun_as s x fresh n is = grind (arith, gets, common_steps, fresh n, is)

gone_begun_as : (s : SiteState) (x : Expected) (n : ℕ) → IsGone s n → IsGone (after_begin_as s x) n
gone_begun_as s x n (lt, none) = (omega arith, grind (arith, gets, common_steps, none, lt))

-- no session is open
pub empty_bytes : (s : SiteState) → s.sessions.expected ≡ finite.empty → AreBytes s
empty_bytes s none n e h =
    let empty : finite.get s.sessions.expected n ≡ None = rw none (grind (arith, gets, common_steps)) in
    let bad : None ≡ Some e = sym empty ∙ h in absurd cc

-- what passes where there is room or not, passes where there is
pub passes_with_room : (valid : Validity) (x : JudgedRegistration) → registration.PassesRegistration valid x
    → registration.PassesRegistration valid (with_room x)
passes_with_room valid x passes = each_weaker (PassesRegistrationStep valid x) (PassesRegistrationStep valid (with_room x)) step_by_step registration.steps passes
  where
    step_by_step : (w : RegistrationRefusal) → PassesRegistrationStep valid x w → PassesRegistrationStep valid (with_room x) w
    step_by_step step.TableFull h = refl
    step_by_step _ h = h

pub succeeds_with_room : (valid : Validity) (s : SiteState) (n c used : ℕ) (ps : List Packet) (d : List ℕ) (r : Creation)
    → Succeeds (registering.registration valid s n d) c ps used r
    → CarriesReply (λ x m. ReplyOf (creation_reply x) m)
    (λ x. registration.PassesRegistration valid (with_room (judged_registration s n (registering.response x d)))) c ps
succeeds_with_room valid s n c used ps d r h =
    (used, h.0, r, h.1, h.2, passes_with_room valid (judged_registration s n (registering.response r d)) h.3)

module _ (valid : Validity) (public : Keys) (b : Below valid public) where
  -- ---- one reply

  pub same_assertion : (s : SiteState) (n c j k : ℕ) (ps : List Packet) (d m l : List ℕ) (x y : Assertion) → Delivers c ps j m → ReplyOf (assertion_reply x) m
      → Delivers c ps k l → ReplyOf (assertion_reply y) l
      → x ≡ y
  same_assertion s n c j k ps d m l x y first reads second also =
      let o = b.links.carried c j k ps 16 16 m l first.0 second.0 first.1 second.1 in
      (sign_in_one valid s n d).one_reply x y l (subst (λ (z : List ℕ). ReplyOf (assertion_reply x) z) o.2 reads) also

  same_creation : (s : SiteState) (n c j k : ℕ) (ps : List Packet) (d m l : List ℕ) (x y : Creation) → Delivers c ps j m → ReplyOf (creation_reply x) m
      → Delivers c ps k l → ReplyOf (creation_reply y) l
      → x ≡ y
  same_creation s n c j k ps d m l x y first reads second also =
      let o = b.links.carried c j k ps 16 16 m l first.0 second.0 first.1 second.1 in
      (registration_one valid s n d).one_reply x y l (subst (λ (z : List ℕ). ReplyOf (creation_reply x) z) o.2 reads) also

  -- ---- what is accepted

  pub record SignedIn (s : SiteState) (n : ℕ) (r : responses.AuthenticatorAssertionResponse) (t : SiteState) : Type 0 where
    pub passes : authentication.PassesSignIn valid (judged_sign_in s n r)
    pub after : IsAfterSignIn s n r t

  pub record Registered (s : SiteState) (n : ℕ) (r : responses.AuthenticatorAttestationResponse) (t : SiteState) : Type 0 where
    pub passes : registration.PassesRegistration valid (with_room (judged_registration s n r))
    pub after : IsAfterRegistration s n r t

  -- by the packets, with whatever response they carry
  pub signed_in_by : (s t : SiteState) (n c : ℕ) (ps : List Packet) (d : List ℕ) (r : responses.AuthenticatorAssertionResponse)
      → SiteActs valid s (SignsInBy n c ps d) t → Carried c ps d r → SignedIn s n r t
  signed_in_by s t n c ps d r acts carried =
      let used = acts.0.0 in
      let reply = acts.0.1 in
      let succeeds = acts.0.2 in
      let after = acts.1 in
      let one : reply ≡ carried.2 = same_assertion s n c used carried.0 ps d succeeds.0 carried.1 reply carried.2 succeeds.1 succeeds.2 carried.3 carried.4 in
      let two : after.2 ≡ carried.2 = same_assertion s n c after.0 carried.0 ps d after.1 carried.1 after.2 carried.2 after.3 after.4 carried.3 carried.4 in
      let response : (x : Assertion) → x ≡ carried.2 → response_of x d ≡ r = λ x same. ap (λ z. response_of z d) same ∙ sym carried.5 in
      record {
        passes = subst (λ (z : responses.AuthenticatorAssertionResponse). authentication.PassesSignIn valid (judged_sign_in s n z))
            (response reply one) succeeds.3;
        after = subst (λ (z : responses.AuthenticatorAssertionResponse). IsAfterSignIn s n z t) (response after.2 two) after.5;
      }

  pub registered_by : (s t : SiteState) (n c : ℕ) (ps : List Packet) (d : List ℕ) → SiteActs valid s (RegistersBy n c ps d) t
      → (r : responses.AuthenticatorAttestationResponse) × Registered s n r t
  registered_by s t n c ps d acts =
      let came = acts.0 in
      let reply = came.2 in
      let after = acts.1 in
      let one : after.2 ≡ reply = same_creation s n c after.0 came.0 ps d after.1 came.1 after.2 reply after.3 after.4 came.3 came.4 in (
        registering.response reply d,
        record { passes = came.5; after = subst (λ (z : Creation). IsAfterRegistration s n (registering.response z d) t) one after.5 },
      )

  -- with whatever response they carry
  registered_with : (s t : SiteState) (n c : ℕ) (ps : List Packet) (d : List ℕ) (r : responses.AuthenticatorAttestationResponse)
      → SiteActs valid s (RegistersBy n c ps d) t → CarriedNew c ps d r → Registered s n r t
  registered_with s t n c ps d r acts carried =
      let came = acts.0 in
      let reply = came.2 in
      let after = acts.1 in
      let one : reply ≡ carried.2 = same_creation s n c came.0 carried.0 ps d came.1 carried.1 reply carried.2 came.3 came.4 carried.3 carried.4 in
      let two : after.2 ≡ carried.2 = same_creation s n c after.0 carried.0 ps d after.1 carried.1 after.2 carried.2 after.3 after.4 carried.3 carried.4 in
      let response : (x : Creation) → x ≡ carried.2 → registering.response x d ≡ r = λ x same. ap (λ z. registering.response z d) same ∙ sym carried.5 in
      record {
        passes = subst (λ (z : responses.AuthenticatorAttestationResponse). registration.PassesRegistration valid (with_room (judged_registration s n z)))
            (response reply one) came.5;
        after = subst (λ (z : responses.AuthenticatorAttestationResponse). IsAfterRegistration s n z t) (response after.2 two) after.5;
      }

  -- an accepted registration with the response that the event brings
  pub registered_in : (s t : SiteState) (e : SiteEvent) (n : ℕ) (r : responses.AuthenticatorAttestationResponse) → SiteActs valid s e t → BringsNewTo e n r
      → Registered s n r t
  registered_in s t (Registers k q) n r acts brings =
      subst (λ (j : ℕ). Registered s j r t) brings.0
      (subst (λ (z : responses.AuthenticatorAttestationResponse). Registered s k z t) brings.1 (record { passes = acts.0; after = acts.1 }))
  registered_in s t (RegistersBy k c ps d) n r acts brings = subst (λ (j : ℕ). Registered s j r t) brings.0 (registered_with s t k c ps d r acts brings.1)
  registered_in s t (Begins o) n r acts brings = absurd brings
  registered_in s t (BeginsAs x) n r acts brings = absurd brings
  registered_in s t (Abandons k) n r acts brings = absurd brings
  registered_in s t (Retires id) n r acts brings = absurd brings
  registered_in s t (Deletes id) n r acts brings = absurd brings
  registered_in s t (SignsIn k q) n r acts brings = absurd brings
  registered_in s t (SignsInBy k c ps d) n r acts brings = absurd brings
  registered_in s t Expires n r acts brings = absurd brings
  registered_in s t (Bounds k) n r acts brings = absurd brings
  registered_in s t Restarts n r acts brings = absurd brings
  registered_in s t Reopens n r acts brings = absurd brings

  pub carried_there : (s t : SiteState) (n c : ℕ) (ps : List Packet) (d : List ℕ) → SiteActs valid s (SignsInBy n c ps d) t
      → (r : responses.AuthenticatorAssertionResponse) × Carried c ps d r
  carried_there s t n c ps d acts =
      let used = acts.0.0 in
      let reply = acts.0.1 in
      let succeeds = acts.0.2 in
      (response_of reply d, (used, succeeds.0, reply, succeeds.1, succeeds.2, refl))

  -- an accepted sign-in with the response that the event brings
  pub signs_in : (s t : SiteState) (e : SiteEvent) (n : ℕ) (r : responses.AuthenticatorAssertionResponse) → SiteActs valid s e t → BringsTo e n r
      → SignedIn s n r t
  signs_in s t (SignsIn k q) n r acts brings =
      subst (λ (j : ℕ). SignedIn s j r t) brings.0
      (subst (λ (z : responses.AuthenticatorAssertionResponse). SignedIn s k z t) brings.1 (record { passes = acts.0; after = acts.1 }))
  signs_in s t (SignsInBy k c ps d) n r acts brings = subst (λ (j : ℕ). SignedIn s j r t) brings.0 (signed_in_by s t k c ps d r acts brings.1)
  signs_in s t (Begins o) n r acts brings = absurd brings
  signs_in s t (BeginsAs x) n r acts brings = absurd brings
  signs_in s t (Abandons k) n r acts brings = absurd brings
  signs_in s t (Retires id) n r acts brings = absurd brings
  signs_in s t (Deletes id) n r acts brings = absurd brings
  signs_in s t (Registers k q) n r acts brings = absurd brings
  signs_in s t (RegistersBy k c ps d) n r acts brings = absurd brings
  signs_in s t Expires n r acts brings = absurd brings
  signs_in s t (Bounds k) n r acts brings = absurd brings
  signs_in s t Restarts n r acts brings = absurd brings
  signs_in s t Reopens n r acts brings = absurd brings

  -- ---- what is kept

  -- a site in which this one is opened, of another relying party and policy
  abbrev opened_as : SiteState → SiteState → SiteState
  opened_as t s = record s { rp = t.rp; policy = t.policy }

  loaded : (s t : SiteState) → Loads s t → t ≡ opened_as t (after_restart t.sessions.max_open s)
  loaded s t l =
      let same = b.sites.one_saved s t (version_of s.rows) l.version l.bytes l.saved l.loaded in
      let rows = same.0 in
      let sessions : t.sessions ≡ none_open t.sessions.max_open s.sessions.next = l.none_open ∙ ap (none_open t.sessions.max_open) same.1 in
      λ i. record { rp = t.rp; policy = t.policy; rows = rows i; sessions = sessions i }

  reopened : (s t : SiteState) → IsReopened s t → t ≡ opened_as t (with_bound t.sessions.max_open s)
  reopened s t x =
      let rows = x.rows in
      let sessions = x.sessions in
      λ i. record { rp = t.rp; policy = t.policy; rows = rows i; sessions = sessions i }

  record Whole (s t : SiteState) : Type 0 where
    pub keeps : Keeps s t
    pub bytes : AreBytes s → AreBytes t

  -- no session comes again; and each credential is kept, but that of an id that is deleted
  pub record Stays (s t : SiteState) (e : SiteEvent) : Type 0 where
    pub fresh : IsFresh t
    pub gone : (n : ℕ) → IsGone s n → IsGone t n
    pub rows : (id : List ℕ) (row : Credential) → e ≢ Deletes id → row_of id s.rows ≡ Some row → IsKept row t.rows
    pub bytes : AreBytes s → AreBytes t

  whole : (s t : SiteState) (e : SiteEvent) → Whole s t → Stays s t e
  whole s t e x = record {
    fresh = x.keeps.fresh;
    gone = x.keeps.goes_on.gone;
    rows = λ id row apart found. x.keeps.goes_on.rows id row found;
    bytes = x.bytes;
  }

  -- pages, profile and policy do not matter to what stays
  stays_opened : (s t u : SiteState) (e : SiteEvent) → Stays s u e → t ≡ opened_as t u → Stays s t e
  stays_opened s t u e x is =
      subst (λ (z : SiteState). Stays s z e) (sym is)
      (record { fresh = x.fresh; gone = x.gone; rows = x.rows; bytes = x.bytes })

  stays_signed_in : (s t : SiteState) (n : ℕ) (r : responses.AuthenticatorAssertionResponse) → IsFresh s → SignedIn s n r t → Whole s t
  stays_signed_in s t n r fresh x = record {
    keeps = (b.sites.signs_in s n r t fresh x.passes x.after).0;
    bytes = λ old k e h. old k e (still s n k e (subst (λ (z : SiteState). finite.get z.sessions.expected k ≡ Some e) x.after.2 h));
  }

  stays_registered : (s t : SiteState) (n : ℕ) (r : responses.AuthenticatorAttestationResponse) → IsFresh s → Registered s n r t → Whole s t
  stays_registered s t n r fresh x =
      let c = registered x.after.0 x.after.2 x.after.3 in
      let shut = b.sites.abandons s n fresh in
      let keeps : Keeps s (record s { rows = s.rows ++ c ∷ []; sessions = closed n s.sessions }) = record {
        numbered = shut.numbered;
        fresh = shut.fresh;
        goes_on = record {
          rows = λ id row found.
              kept_here (s.rows ++ c ∷ []) row
              (ap (λ (k : List ℕ). row_of k (s.rows ++ c ∷ [])) (found_id id s.rows row found) ∙ row_before id s.rows (c ∷ []) row found);
          gone = shut.goes_on.gone;
          rp = refl;
        };
      } in
      record {
        keeps = subst (Keeps s) (sym x.after.6) keeps;
        bytes = λ old k e h. old k e (still s n k e (subst (λ (z : SiteState). finite.get z.sessions.expected k ≡ Some e) x.after.6 h));
      }

  -- what is open is what was open
  pub left_open : (s t : SiteState) (n : ℕ) (e : Expected) → EndsSessions s t → finite.get t.sessions.expected n ≡ Some e
      → finite.get s.sessions.expected n ≡ Some e
  left_open s t n e ends h = elim (ends.left n) [
    | inl gone ↦ let bad : None ≡ Some e = sym gone ∙ h in absurd cc
    | inr same ↦ sym same ∙ h
  ]

  none_left : (s t : SiteState) (n : ℕ) → EndsSessions s t → finite.get s.sessions.expected n ≡ None → finite.get t.sessions.expected n ≡ None
  none_left s t n ends h = elim (ends.left n) [ inl gone ↦ gone | inr same ↦ same ∙ h ]

  some_left : (s t : SiteState) (n : ℕ) → EndsSessions s t → IsSome (finite.get t.sessions.expected n) → IsSome (finite.get s.sessions.expected n)
  some_left s t n ends h = elim (ends.left n) [
    | inl gone ↦ let bad : IsSome {T = Expected} None = subst (λ (o : Option Expected). IsSome o) gone h in absurd cc
    | inr same ↦ subst (λ (o : Option Expected). IsSome o) same h
  ]

  ended : (s t : SiteState) → IsFresh s → EndsSessions s t → Whole s t
  ended s t fresh ends =
      let onward = b.sites.stays s in
      let next : t.sessions.next ≡ s.sessions.next = ap (λ (z : SiteState). z.sessions.next) ends.same in
      let rows : t.rows ≡ s.rows = ap (λ (z : SiteState). z.rows) ends.same in
      record {
        keeps = record {
          numbered = λ old n e h. old n e (left_open s t n e ends h);
          fresh = λ n h. subst (λ (k : ℕ). n < k) (sym next) (fresh n (some_left s t n ends h));
          goes_on = record {
            rows = λ id row h. subst (λ (l : List Credential). IsKept row l) (sym rows) (onward.rows id row h);
            gone = λ n h. (subst (λ (k : ℕ). n < k) (sym next) h.0, none_left s t n ends h.1);
            rp = ap (λ (z : SiteState). z.rp) ends.same;
          };
        };
        bytes = λ old n e h. old n e (left_open s t n e ends h);
      }

  rebounded : (s : SiteState) (max_open : ℕ) → IsFresh s → Whole s (with_bound max_open s)
  rebounded s max_open fresh =
      let onward = b.sites.stays s in
      let goes_on : GoesOn s (with_bound max_open s) = record { rows = onward.rows; gone = onward.gone; rp = onward.rp } in
      record { keeps = record { numbered = λ h. h; fresh = fresh; goes_on = goes_on }; bytes = λ old. old }

  deleted : (s t : SiteState) (id : List ℕ) → IsFresh s → t ≡ after_delete s id → Stays s t (Deletes id)
  deleted s t id fresh is =
      subst (λ (z : SiteState). Stays s z (Deletes id)) (sym is) (record {
        fresh = fresh;
        gone = λ n h. h;
        rows = λ k row apart found.
            let same : row.id ≡ k = found_id k s.rows row found in
            kept_here (after_delete s id).rows row
            (others_left id row.id s.rows (λ mine. apart (ap Deletes (sym mine ∙ same))) ∙ ap (λ (j : List ℕ). row_of j s.rows) same ∙ found);
        bytes = λ old. old;
      })

  pub stays : (s t : SiteState) (e : SiteEvent) → IsFresh s → SiteActs valid s e t → Stays s t e
  stays s t (Begins o) fresh acts =
      whole s t (Begins o) (subst (Whole s) (sym acts.2) (record { keeps = b.sites.begins s o acts.1 fresh; bytes = bytes_begun s o acts.1 acts.0 }))
  stays s t (BeginsAs x) fresh acts =
      subst (λ (z : SiteState). Stays s z (BeginsAs x)) (sym acts.1) (record {
        fresh = fresh_begun_as s x fresh;
        gone = gone_begun_as s x;
        rows = λ id row apart found. (b.sites.stays s).rows id row found;
        bytes = bytes_begun_as s x acts.0;
      })
  stays s t (Abandons n) fresh acts =
      whole s t (Abandons n)
      (subst (Whole s) (sym acts) (record { keeps = b.sites.abandons s n fresh; bytes = λ old k e h. old k e (still s n k e h) }))
  stays s t (Retires id) fresh acts =
      whole s t (Retires id) (subst (Whole s) (sym acts) (record { keeps = b.sites.retires s id fresh; bytes = λ old. old }))
  stays s t (Deletes id) fresh acts = deleted s t id fresh acts
  stays s t (SignsIn n r) fresh acts = whole s t (SignsIn n r) (stays_signed_in s t n r fresh (record { passes = acts.0; after = acts.1 }))
  stays s t (SignsInBy n c ps d) fresh acts =
      let x = carried_there s t n c ps d acts in
      whole s t (SignsInBy n c ps d) (stays_signed_in s t n x.0 fresh (signed_in_by s t n c ps d x.0 acts x.1))
  stays s t (Registers n r) fresh acts = whole s t (Registers n r) (stays_registered s t n r fresh (record { passes = acts.0; after = acts.1 }))
  stays s t (RegistersBy n c ps d) fresh acts =
      let x = registered_by s t n c ps d acts in
      whole s t (RegistersBy n c ps d) (stays_registered s t n x.0 fresh x.1)
  stays s t Expires fresh acts = whole s t Expires (ended s t fresh acts)
  stays s t (Bounds max_open) fresh acts = whole s t (Bounds max_open) (subst (Whole s) (sym acts) (rebounded s max_open fresh))
  stays s t Restarts fresh acts =
      let after = after_restart t.sessions.max_open s in
      let kept : Whole s after = record { keeps = b.sites.restarts t.sessions.max_open s fresh; bytes = λ old. empty_bytes after refl } in
      stays_opened s t after Restarts (whole s after Restarts kept) (loaded s t acts)
  stays s t Reopens fresh acts =
      let after = with_bound t.sessions.max_open s in
      stays_opened s t after Reopens (whole s after Reopens (rebounded s t.sessions.max_open fresh)) (reopened s t acts)

  -- ---- which session is taken

  takes_registered : (s t : SiteState) (n : ℕ) (r : responses.AuthenticatorAttestationResponse) → IsFresh s → Registered s n r t → Takes s t n
  takes_registered s t n r fresh x =
      let there = b.sites.is_open_to_register s n x.after.0 x.after.4 in
      let was : IsSome (finite.get s.sessions.expected n) = subst (λ (o : Option Expected). IsSome o) (sym there) refl in
      subst (λ (z : SiteState). Takes s z n) (sym x.after.6) (record { was_open = was; gone = (fresh n was, grind (arith, gets, common_steps)) })

  pub takes : (s t : SiteState) (e : SiteEvent) (n : ℕ) → IsFresh s → SiteActs valid s e t → session_in e ≡ Some n → Takes s t n
  takes s t (SignsIn k r) n fresh acts is = subst (Takes s t) (same_Some k n is) (b.sites.signs_in s k r t fresh acts.0 acts.1).1
  takes s t (SignsInBy k c ps d) n fresh acts is =
      let x = carried_there s t k c ps d acts in
      let y = signed_in_by s t k c ps d x.0 acts x.1 in
      subst (Takes s t) (same_Some k n is) (b.sites.signs_in s k x.0 t fresh y.passes y.after).1
  takes s t (Registers k r) n fresh acts is =
      subst (Takes s t) (same_Some k n is) (takes_registered s t k r fresh (record { passes = acts.0; after = acts.1 }))
  takes s t (RegistersBy k c ps d) n fresh acts is =
      let x = registered_by s t k c ps d acts in
      subst (Takes s t) (same_Some k n is) (takes_registered s t k x.0 fresh x.1)
  takes s t (Begins o) n fresh acts is = let bad : None ≡ Some n = is in absurd cc
  takes s t (BeginsAs x) n fresh acts is = let bad : None ≡ Some n = is in absurd cc
  takes s t (Abandons k) n fresh acts is = let bad : None ≡ Some n = is in absurd cc
  takes s t (Deletes id) n fresh acts is = let bad : None ≡ Some n = is in absurd cc
  takes s t (Retires id) n fresh acts is = let bad : None ≡ Some n = is in absurd cc
  takes s t Expires n fresh acts is = let bad : None ≡ Some n = is in absurd cc
  takes s t (Bounds k) n fresh acts is = let bad : None ≡ Some n = is in absurd cc
  takes s t Restarts n fresh acts is = let bad : None ≡ Some n = is in absurd cc
  takes s t Reopens n fresh acts is = let bad : None ≡ Some n = is in absurd cc

  -- what a registration adds
  pub registers : (s t : SiteState) (e : SiteEvent) → SiteActs valid s e t → IsRegistration e → (n : ℕ) × (r : responses.AuthenticatorAttestationResponse)
      × Registered s n r t
  registers s t (Registers n r) acts is = (n, r, record { passes = acts.0; after = acts.1 })
  registers s t (RegistersBy n c ps d) acts is = let x = registered_by s t n c ps d acts in (n, x.0, x.1)
  registers s t (Begins o) acts is = absurd is
  registers s t (BeginsAs x) acts is = absurd is
  registers s t (Abandons n) acts is = absurd is
  registers s t (Retires id) acts is = absurd is
  registers s t (Deletes id) acts is = absurd is
  registers s t (SignsIn n r) acts is = absurd is
  registers s t (SignsInBy n c ps d) acts is = absurd is
  registers s t Expires acts is = absurd is
  registers s t (Bounds k) acts is = absurd is
  registers s t Restarts acts is = absurd is
  registers s t Reopens acts is = absurd is

  -- no id that has a credential is registered
  pub unregistered : (s t : SiteState) (n : ℕ) (r : responses.AuthenticatorAttestationResponse) (x : Registered s n r t)
      → row_of x.after.3.id s.rows ≡ None
  unregistered s t n r x = no_row (row_of x.after.3.id s.rows) (x.passes.1.1.1.1.1.1.1.1.1.1.1.1.1.1.1.1.1.0 x.after.1 x.after.2 x.after.3 x.after.5)

  -- ---- an id that none has

  none_registered : (s t : SiteState) (n : ℕ) (r : responses.AuthenticatorAttestationResponse) → Registered s n r t → (id : List ℕ) → row_of id s.rows ≡ None
      → ((c : Credential) → t.rows ≡ s.rows ++ c ∷ [] → c.id ≢ id) → row_of id t.rows ≡ None
  none_registered s t n r x id none apart =
      let c = registered x.after.0 x.after.2 x.after.3 in
      let rows : t.rows ≡ s.rows ++ c ∷ [] = ap (λ (z : SiteState). z.rows) x.after.6 in
      ap (row_of id) rows ∙ none_last id s.rows c none (apart c rows)

  none_signed_in : (s t : SiteState) (n : ℕ) (r : responses.AuthenticatorAssertionResponse) → SignedIn s n r t → (id : List ℕ) → row_of id s.rows ≡ None
      → row_of id t.rows ≡ None
  none_signed_in s t n r x id none =
      ap (λ (z : SiteState). row_of id z.rows) x.after.2
      ∙ none_with id r.credential (signed_in x.after.0.sign_count (is_set x.after.0.flags BE)) s.rows (λ row. refl) none

  -- it is none's still, if it isn't registered
  pub absent : (s t : SiteState) (e : SiteEvent) → SiteActs valid s e t → (id : List ℕ) → row_of id s.rows ≡ None
      → ((c : Credential) → IsRegistration e → t.rows ≡ s.rows ++ c ∷ [] → c.id ≢ id) → row_of id t.rows ≡ None
  absent s t (Begins o) acts id none apart = ap (λ (z : SiteState). row_of id z.rows) acts.2 ∙ none
  absent s t (BeginsAs x) acts id none apart = ap (λ (z : SiteState). row_of id z.rows) acts.1 ∙ none
  absent s t (Abandons n) acts id none apart = ap (λ (z : SiteState). row_of id z.rows) acts ∙ none
  absent s t (Retires k) acts id none apart = ap (λ (z : SiteState). row_of id z.rows) acts ∙ none_with id k retired s.rows (λ row. refl) none
  absent s t (Deletes k) acts id none apart = ap (λ (z : SiteState). row_of id z.rows) acts ∙ none_without id k s.rows none
  absent s t (SignsIn n r) acts id none apart = none_signed_in s t n r (record { passes = acts.0; after = acts.1 }) id none
  absent s t (SignsInBy n c ps d) acts id none apart =
      let x = carried_there s t n c ps d acts in
      none_signed_in s t n x.0 (signed_in_by s t n c ps d x.0 acts x.1) id none
  absent s t (Registers n r) acts id none apart = none_registered s t n r (record { passes = acts.0; after = acts.1 }) id none (λ c. apart c tt)
  absent s t (RegistersBy n c ps d) acts id none apart =
      let x = registered_by s t n c ps d acts in
      none_registered s t n x.0 x.1 id none (λ c. apart c tt)
  absent s t Expires acts id none apart = ap (λ (z : SiteState). row_of id z.rows) acts.same ∙ none
  absent s t (Bounds max_open) acts id none apart = ap (λ (z : SiteState). row_of id z.rows) acts ∙ none
  absent s t Restarts acts id none apart = ap (λ (z : SiteState). row_of id z.rows) (loaded s t acts) ∙ none
  absent s t Reopens acts id none apart = ap (row_of id) acts.rows ∙ none
