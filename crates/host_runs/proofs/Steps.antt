-- Each transaction is an event at a site that stands for the rows.
use Rattle.std.proofs.Common.{◌≡◌, ◌≢◌, ◌<◌, inl, inr, ℕ, List, [], ◌∷◌, ◌++◌, Bool, false, Option, Some, None, is_some, IsSome, refl, sym, ◌∙◌, ap, subst, arith}
use Rattle.std.proofs.lemmas.Grind.{common_steps}
use Rattle.std.proofs.lemmas.Option.{same_Some}
use Rattle.std.specs.Prelude.{if◌then◌else◌}
use Rattle.std.specs.FinMap.{gets}
use Rattle.std.specs.FinMap as finite
use Rattle.std.specs.Str.{bytes_eq}
use Rattle.cose.specs.Schemes.{Validity}
use Rattle.authdata.specs.Flags.{is_set, BE}
use Rattle.authdata.specs.Layout.{AuthOf}
use Rattle.authdata.specs.Responses.{AuthenticatorAssertionResponse, AuthenticatorAttestationResponse}
use Rattle.verification.specs.Records.{Credential, ExpectedRegistration, ExpectedSignIn, RelyingParty}
use Rattle.verification.specs.Registration as registration
use Rattle.verification.specs.Registration.{Attests, JudgedRegistration, PassesRegistration, PassesRegistrationStep}
use Rattle.verification.specs.SignIn.{PassesSignIn}
use Rattle.verification.specs.declared.party.Policy.{Policy}
use Rattle.verification.specs.declared.refusal.RegistrationRefusal.{RegistrationRefusal}
use Rattle.verification.specs.declared.refusal.RegistrationRefusal.TheVariants as step
use Rattle.site_state.specs.Sessions.{Expected, ForRegistration, ForSignIn, closed, for_registration, for_sign_in, registration_at, sign_in_at}
use Rattle.site_state.specs.Table.{retired, row_of, signed_in, with_row}
use Rattle.site.specs.Laws.{IsFresh, after_abandon, after_retire}
use Rattle.site.specs.State as site
use Rattle.site.specs.State.{SiteState, registered}
use Rattle.site.proofs.Judged.{no_row}
use Rattle.site.proofs.Kept.{row_changed}
use Rattle.authenticator.proofs.Stored.{each_weaker}
use Rattle.agreement.specs.World as world
use Rattle.agreement.specs.World.{SiteActs, SiteEvent, after_begin_as, after_delete, with_room}
use Rattle.agreement.proofs.Rows.{none_left, others_left}
use Rattle.agreement.proofs.Sites.{fresh_begun_as}
use Rattle.host_runs.specs.Histories.{StandsFor}
use Rattle.host_runs.specs.Rows.{Begun, Closed, Configured, Deleted, HostStore, Registered, Retired, SignedIn, TakesOut, Writes, judged_registration, judged_sign_in}
use Rattle.host_runs.proofs.Tables.{either, is_other, is_same, row_last, row_not_last, row_other}

-- the event happens at the site, which stands for the rows then
pub record Stepped (valid : Validity) (s : SiteState) (e : SiteEvent) (new : HostStore) : Type 0 where
  pub site : SiteState
  pub numbers : List ℕ → ℕ
  pub acts : SiteActs valid s e site
  pub stands : StandsFor numbers new site
  pub fresh : IsFresh site

fresh_closed : (s : SiteState) (rows : List Credential) (k : ℕ) → IsFresh s → IsFresh (record s { rows = rows; sessions = closed k s.sessions })
fresh_closed s rows k fresh n is = grind (arith, gets, common_steps, fresh n, is)

still_there : (s : SiteState) (k n : ℕ) (e : Expected) → n ≢ k → finite.get s.sessions.expected n ≡ Some e → finite.get (closed k s.sessions).expected n ≡ Some e
still_there s k n e apart is = grind (arith, gets, common_steps, apart, is)

begun_there : (s : SiteState) (e : Expected) → finite.get (after_begin_as s e).sessions.expected s.sessions.next ≡ Some e
begun_there s e = grind (arith, gets, common_steps)

begun_before : (s : SiteState) (e f : Expected) (n : ℕ) → n < s.sessions.next → finite.get s.sessions.expected n ≡ Some f
    → finite.get (after_begin_as s e).sessions.expected n ≡ Some f
begun_before s e f n lt is = grind (arith, gets, common_steps, lt, is)

module _ (valid : Validity) (numbers : List ℕ → ℕ) (old new : HostStore) (s : SiteState) (stands : StandsFor numbers old s) (fresh : IsFresh s) where
  below : (key : List ℕ) (e : Expected) → old.sessions key ≡ Some e → numbers key < s.sessions.next
  below key e is = fresh (numbers key) (subst (λ (o : Option Expected). IsSome o) (sym (stands.sessions key e is)) refl)

  -- ---- a session begins

  module _ (key : List ℕ) (e : Expected) (x : Begun old key e new) where
    abbrev numbered : List ℕ → ℕ
    numbered k = if bytes_eq k key then s.sessions.next else numbers k

    at_key : (k : List ℕ) → k ≡ key → numbered k ≡ s.sessions.next
    at_key k same = ap (λ (b : Bool). if b then s.sessions.next else numbers k) (is_same k key same)

    elsewhere : (k : List ℕ) → k ≢ key → numbered k ≡ numbers k
    elsewhere k apart = ap (λ (b : Bool). if b then s.sessions.next else numbers k) (is_other k key apart)

    was : (k : List ℕ) (f : Expected) → k ≢ key → new.sessions k ≡ Some f → old.sessions k ≡ Some f
    was k f apart is = sym (x.writes.1 k apart) ∙ is

    expects : (k : List ℕ) (f : Expected) → new.sessions k ≡ Some f → finite.get (after_begin_as s e).sessions.expected (numbered k) ≡ Some f
    expects k f is = elim (either k key) [
      | inl same ↦
          let mine : f ≡ e = same_Some f e (sym is ∙ ap new.sessions same ∙ x.writes.0) in
          subst (λ (n : ℕ). finite.get (after_begin_as s e).sessions.expected n ≡ Some f) (sym (at_key k same)) (begun_there s e ∙ ap Some (sym mine))
      | inr apart ↦
          let there = was k f apart is in
          subst (λ (n : ℕ). finite.get (after_begin_as s e).sessions.expected n ≡ Some f) (sym (elsewhere k apart))
          (begun_before s e f (numbers k) (below k f there) (stands.sessions k f there))
    ]

    new_and_old : (k o : List ℕ) (g : Expected) → k ≡ key → o ≢ key → new.sessions o ≡ Some g → numbered k ≡ numbered o → ⊥
    new_and_old k o g same apart is alike =
        let lt = below o g (was o g apart is) in
        let equal : s.sessions.next ≡ numbers o = sym (at_key k same) ∙ alike ∙ elsewhere o apart in
        omega (arith, lt, equal)

    own : (k o : List ℕ) (f g : Expected) → new.sessions k ≡ Some f → new.sessions o ≡ Some g → numbered k ≡ numbered o → k ≡ o
    own k o f g is js alike = elim (either k key) [
      | inl same ↦ elim (either o key) [
        | inl too ↦ same ∙ sym too
        | inr apart ↦ absurd (new_and_old k o g same apart js alike)
      ]
      | inr apart ↦ elim (either o key) [
        | inl same ↦ absurd (new_and_old o k f same apart is (sym alike))
        | inr also ↦ stands.own k o f g (was k f apart is) (was o g also js) (sym (elsewhere k apart) ∙ alike ∙ elsewhere o also)
      ]
    ]

    pub begins : Stepped valid s (world.BeginsAs e) new
    begins = record {
      site = after_begin_as s e;
      numbers = numbered;
      acts = (x.bytes, refl);
      stands = record {
        rp = stands.rp ∙ ap (λ (h : HostStore). h.rp) (sym x.rest);
        policy = stands.policy ∙ ap (λ (h : HostStore). h.policy) (sym x.rest);
        credentials = λ id. stands.credentials id ∙ ap (λ (h : HostStore). h.credentials id) (sym x.rest);
        sessions = expects;
        own = own;
      };
      fresh = fresh_begun_as s e fresh;
    }

  -- ---- a session ends

  module _ (key : List ℕ) (e : Expected) (there : old.sessions key ≡ Some e) (out : TakesOut old.sessions key new.sessions) where
    left : (k : List ℕ) (f : Expected) → new.sessions k ≡ Some f → (k ≢ key) × (old.sessions k ≡ Some f)
    left k f is = elim (either k key) [
      | inl same ↦ let bad : None ≡ Some f = sym (ap new.sessions same ∙ out.0) ∙ is in absurd cc
      | inr apart ↦ (apart, sym (out.1 k apart) ∙ is)
    ]

    still : (k : List ℕ) (f : Expected) → new.sessions k ≡ Some f → finite.get (closed (numbers key) s.sessions).expected (numbers k) ≡ Some f
    still k f is =
        let was = left k f is in
        still_there s (numbers key) (numbers k) f (λ alike. was.0 (stands.own k key f e was.1 there alike)) (stands.sessions k f was.1)

    still_own : (k o : List ℕ) (f g : Expected) → new.sessions k ≡ Some f → new.sessions o ≡ Some g → numbers k ≡ numbers o → k ≡ o
    still_own k o f g is js alike = stands.own k o f g (left k f is).1 (left o g js).1 alike

  -- a site without the session, with these rows
  ended : (key : List ℕ) (e : Expected) → old.sessions key ≡ Some e → TakesOut old.sessions key new.sessions → (rows : List Credential) → new.rp ≡ old.rp
      → new.policy ≡ old.policy → ((id : List ℕ) → row_of id rows ≡ new.credentials id)
      → StandsFor numbers new (record s { rows = rows; sessions = closed (numbers key) s.sessions })
  ended key e there out rows rp policy credentials = record {
    rp = stands.rp ∙ sym rp;
    policy = stands.policy ∙ sym policy;
    credentials = credentials;
    sessions = still key e there out;
    own = still_own key e there out;
  }

  -- a site with these rows
  with_rows : (rows : List Credential) → new ≡ record old { credentials = new.credentials } → ((id : List ℕ) → row_of id rows ≡ new.credentials id)
      → StandsFor numbers new (record s { rows = rows })
  with_rows rows rest credentials = record {
    rp = stands.rp ∙ ap (λ (h : HostStore). h.rp) (sym rest);
    policy = stands.policy ∙ ap (λ (h : HostStore). h.policy) (sym rest);
    credentials = credentials;
    sessions = λ k f is. stands.sessions k f (ap (λ (h : HostStore). h.sessions k) (sym rest) ∙ is);
    own = λ k o f g is js. stands.own k o f g (ap (λ (h : HostStore). h.sessions k) (sym rest) ∙ is) (ap (λ (h : HostStore). h.sessions o) (sym rest) ∙ js);
  }

  -- ---- rows

  written : (id : List ℕ) (c : Credential) (change : Credential → Credential) → ((x : Credential) → (change x).id ≡ x.id) → old.credentials id ≡ Some c
      → Writes old.credentials id (change c) new.credentials → (k : List ℕ) → row_of k (with_row id change s.rows) ≡ new.credentials k
  written id c change same there writes k = elim (either k id) [
    | inl mine ↦
        ap (λ (z : List ℕ). row_of z (with_row id change s.rows)) mine ∙ row_changed id change s.rows c same (stands.credentials id ∙ there)
        ∙ sym (ap new.credentials mine ∙ writes.0)
    | inr apart ↦ row_other id k change s.rows same apart ∙ stands.credentials k ∙ sym (writes.1 k apart)
  ]

  inserted : (c : Credential) → old.credentials c.id ≡ None → Writes old.credentials c.id c new.credentials → (k : List ℕ)
      → row_of k (s.rows ++ c ∷ []) ≡ new.credentials k
  inserted c none writes k = elim (either k c.id) [
    | inl mine ↦
        row_last k s.rows c (ap (λ (z : List ℕ). row_of z s.rows) mine ∙ stands.credentials c.id ∙ none) mine
        ∙ sym (ap new.credentials mine ∙ writes.0)
    | inr apart ↦ row_not_last k s.rows c apart ∙ stands.credentials k ∙ sym (writes.1 k apart)
  ]

  taken : (id : List ℕ) → TakesOut old.credentials id new.credentials → (k : List ℕ) → row_of k (after_delete s id).rows ≡ new.credentials k
  taken id out k = elim (either k id) [
    | inl mine ↦ ap (λ (z : List ℕ). row_of z (after_delete s id).rows) mine ∙ none_left id s.rows ∙ sym (ap new.credentials mine ∙ out.0)
    | inr apart ↦ others_left id k s.rows apart ∙ stands.credentials k ∙ sym (out.1 k apart)
  ]

  -- ---- a sign-in

  module _ (key : List ℕ) (e : ExpectedSignIn) (c : Credential) (r : AuthenticatorAssertionResponse) (x : SignedIn valid old key e c r new) where
    one_sign_in : site.judged_sign_in s (numbers key) r ≡ judged_sign_in old e c r
    one_sign_in =
        let rp = stands.rp in
        let session : sign_in_at (numbers key) s.sessions ≡ Some e = ap for_sign_in (stands.sessions key (ForSignIn e) x.session) in
        let credential : row_of r.credential s.rows ≡ Some c = stands.credentials r.credential ∙ x.credential in
        λ i. record { rp = rp i; session = session i; credential = credential i; response = r }

    abbrev change : Credential → Credential
    change = signed_in x.auth.sign_count (is_set x.auth.flags BE)

    pub signs_in : Stepped valid s (world.SignsIn (numbers key) r) new
    signs_in = record {
      site = record s { rows = with_row r.credential change s.rows; sessions = closed (numbers key) s.sessions };
      numbers = numbers;
      acts = (
        subst (PassesSignIn valid) (sym one_sign_in) x.passes,
        (x.auth, subst (λ (p : RelyingParty). AuthOf p.profile x.auth r.auth_data) (sym stands.rp) x.spelled, refl),
      );
      stands = ended key (ForSignIn e) x.session x.deletes (with_row r.credential change s.rows) (ap (λ (h : HostStore). h.rp) x.rest)
          (ap (λ (h : HostStore). h.policy) x.rest) (written r.credential c change (λ y. refl) x.credential x.writes);
      fresh = fresh_closed s (with_row r.credential change s.rows) (numbers key) fresh;
    }

  -- ---- a registration

  module _ (key : List ℕ) (e : ExpectedRegistration) (r : AuthenticatorAttestationResponse) (x : Registered valid old key e r new) where
    is_open : registration_at (numbers key) s.sessions ≡ Some e
    is_open = ap for_registration (stands.sessions key (ForRegistration e) x.session)

    -- as the site judges it, but for whether an id is registered
    abbrev judged : JudgedRegistration
    judged = record (with_room (site.judged_registration s (numbers key) r)) { is_registered = λ id. is_some (old.credentials id) }

    one_registration : judged ≡ judged_registration old e r
    one_registration =
        let rp = stands.rp in
        let policy = stands.policy in
        let session = is_open in
        λ i. record {
          rp = rp i;
          policy = policy i;
          session = session i;
          response = r;
          is_registered = λ id. is_some (old.credentials id);
          is_full = false;
        }

    step_by_step : (w : RegistrationRefusal) → PassesRegistrationStep valid judged w
        → PassesRegistrationStep valid (with_room (site.judged_registration s (numbers key) r)) w
    step_by_step step.CredentialRegistered h = λ o a c is. ap is_some (stands.credentials c.id) ∙ h o a c is
    step_by_step _ h = h

    passes : PassesRegistration valid (with_room (site.judged_registration s (numbers key) r))
    passes =
        each_weaker (PassesRegistrationStep valid judged) (PassesRegistrationStep valid (with_room (site.judged_registration s (numbers key) r))) step_by_step
        registration.steps (subst (PassesRegistration valid) (sym one_registration) x.passes)

    abbrev row : Credential
    row = registered e x.auth x.credential

    none_there : old.credentials row.id ≡ None
    none_there = no_row (old.credentials row.id) (x.passes.1.1.1.1.1.1.1.1.1.1.1.1.1.1.1.1.1.0 x.object x.auth x.credential x.attests)

    pub registers : Stepped valid s (world.Registers (numbers key) r) new
    registers = record {
      site = record s { rows = s.rows ++ row ∷ []; sessions = closed (numbers key) s.sessions };
      numbers = numbers;
      acts = (
        passes,
        (
          e,
          x.object,
          x.auth,
          x.credential,
          is_open,
          subst (λ (p : RelyingParty). Attests p.profile r x.object x.auth x.credential) (sym stands.rp) x.attests,
          refl,
        ),
      );
      stands = ended key (ForRegistration e) x.session x.deletes (s.rows ++ row ∷ []) (ap (λ (h : HostStore). h.rp) x.rest)
          (ap (λ (h : HostStore). h.policy) x.rest) (inserted row none_there x.inserts);
      fresh = fresh_closed s (s.rows ++ row ∷ []) (numbers key) fresh;
    }

  -- ---- the others

  pub retires : (id : List ℕ) (c : Credential) → Retired old id c new → Stepped valid s (world.Retires id) new
  retires id c x = record {
    site = after_retire s id;
    numbers = numbers;
    acts = refl;
    stands = with_rows (with_row id retired s.rows) x.rest (written id c retired (λ y. refl) x.there x.writes);
    fresh = fresh;
  }

  pub deletes : (id : List ℕ) → Deleted old id new → Stepped valid s (world.Deletes id) new
  deletes id x = record {
    site = after_delete s id;
    numbers = numbers;
    acts = refl;
    stands = with_rows (after_delete s id).rows x.rest (taken id x.deletes);
    fresh = fresh;
  }

  pub closes : (key : List ℕ) (e : Expected) → Closed old key e new → Stepped valid s (world.Abandons (numbers key)) new
  closes key e x = record {
    site = after_abandon s (numbers key);
    numbers = numbers;
    acts = refl;
    stands = ended key e x.there x.deletes s.rows (ap (λ (h : HostStore). h.rp) x.rest) (ap (λ (h : HostStore). h.policy) x.rest)
        (λ id. stands.credentials id ∙ ap (λ (h : HostStore). h.credentials id) (sym x.rest));
    fresh = fresh_closed s s.rows (numbers key) fresh;
  }

  pub configures : (rp : RelyingParty) (policy : Policy) → Configured old rp policy new → Stepped valid s world.Reopens new
  configures rp policy x = record {
    site = record s { rp = rp; policy = policy };
    numbers = numbers;
    acts = record { rp_id = x.rp_id ∙ ap (λ (p : RelyingParty). p.rp_id) (sym stands.rp); rows = refl; sessions = refl };
    stands = record {
      rp = ap (λ (h : HostStore). h.rp) (sym x.rest);
      policy = ap (λ (h : HostStore). h.policy) (sym x.rest);
      credentials = λ id. stands.credentials id ∙ ap (λ (h : HostStore). h.credentials id) (sym x.rest);
      sessions = λ k f is. stands.sessions k f (ap (λ (h : HostStore). h.sessions k) (sym x.rest) ∙ is);
      own = λ k o f g is js. stands.own k o f g (ap (λ (h : HostStore). h.sessions k) (sym x.rest) ∙ is) (ap (λ (h : HostStore). h.sessions o) (sym x.rest) ∙ js);
    };
    fresh = fresh;
  }
