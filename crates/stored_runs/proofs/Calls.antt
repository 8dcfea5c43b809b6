-- Each call of a site over a store is an event of the law, or none.
use Rattle.std.proofs.Common.{◌≡◌, ◌<◌, ◌≤◌, ◌+◌, ◌-◌, ◌^◌, ◌⊎◌, inl, inr, ℕ, Bool, true, false, List, [], ◌∷◌, ◌++◌, filter, map, not, refl, sym, ap, ◌∙◌, subst, arith, append-nil}
use Rattle.std.proofs.lemmas.Grind.{common_steps}
use Rattle.std.proofs.lemmas.List.Elements.{Contains-append_cases}
use Rattle.std.specs.Prelude.{Contains, Some, None, is_some, length}
use Rattle.std.specs.FinMap.{gets}
use Rattle.std.specs.FinMap as finite
use Rattle.std.specs.List.{AllByRecursion}
use Rattle.std.specs.Str.{bytes_eq}
use Rattle.base64.specs.GeneralPurpose.{IsBytes}
use Rattle.cose.specs.Schemes.{Validity}
use Rattle.authdata.specs.Flags.{is_set, BE}
use Rattle.authdata.specs.Layout.{AuthOf}
use Rattle.authdata.specs.Responses.{AuthenticatorAssertionResponse, AuthenticatorAttestationResponse}
use Rattle.verification.specs.Records.{Credential, ExpectedRegistration, ExpectedSignIn, RelyingParty}
use Rattle.verification.specs.SignIn.{JudgedSignIn, PassesSignIn, PassesSignInStep, steps}
use Rattle.verification.specs.Registration.{Attests, JudgedRegistration, PassesRegistration}
use Rattle.verification.specs.declared.refusal.SignInRefusal.{SignInRefusal}
use Rattle.site_state.specs.Table.{retired, row_of, signed_in, with_row}
use Rattle.site_rows.specs.Endings.{Endings}
use Rattle.site_rows.specs.Held.{ArePlaced, rows_of}
use Rattle.site_rows.proofs.Listed.{added_rows, changed_rows, found_row}
use Rattle.site_seal.specs.Judged.{TellsApart, judged_by}
use Rattle.site_seal.specs.Seal.{IsExpectedOf, SealedSignIn, Session, registration, sealed_sign_in, sign_in}
use Rattle.site_state.specs.Sessions.{Expected, ForRegistration, ForSignIn, Opening, closed, expected_of, for_registration, for_sign_in, registration_at, sign_in_at}
use Rattle.site.specs.State as site
use Rattle.site.specs.Laws.{after_begin, after_retire}
use Rattle.site_stored.specs.Calls as calls
use Rattle.site_stored.specs.Calls.{IsOneSite}
use Rattle.site_stored.specs.Sessions.{EndsSession, IsOpen, ceremony_of}
use Rattle.site_stored.specs.declared.finish.SignedIn.{SignedIn}
use Rattle.site_stored.specs.declared.registration.Registered.{Registered}
use Rattle.authenticator.specs.Steps.{Keys}
use Rattle.agreement.specs.World.{after_delete, with_room, words_of}
use Rattle.agreement.specs.World as world
use Rattle.stored_runs.specs.History.{Abandons, Accepts, AreBegun, AreNamed, Begins, Begun, Call, Deletes, Does, Erases, IsHanded, IsKept, IsOwn, Kept, Registers, Retires, RetiresAll, SignsIn, TellsThem, act_of, begun_at, begun_by, second_of, session_in}
use Rattle.stored_runs.proofs.Pieces.{Leads, happens, stays}
use Rattle.stored_runs.proofs.Rows.{removed_rows, tells_ids}
use Rattle.stored_runs.proofs.Standing.{IsGoing, IsOver, Stands, alike, now_over, over_later, same_number, still_over}
use Rattle.stored_runs.proofs.Users.{erases, retires_all}
use Rattle.stored_runs.proofs.Texts.{Laws, only_one, own_session}

-- what a session for sign-in expects, by its text; and one for registration
for_text : (key : List ℕ) (e : Expected) (x : SealedSignIn) → ceremony_of key e ≡ sign_in x → (f : ExpectedSignIn) × (e ≡ ForSignIn f) × (x ≡ sealed_sign_in key f)
for_text key (ForSignIn f) x is = (f, refl, cc)
for_text key (ForRegistration f) x is = absurd cc

for_text_to_register : (key : List ℕ) (e : Expected) (f : ExpectedRegistration) → ceremony_of key e ≡ registration f → e ≡ ForRegistration f
for_text_to_register key (ForSignIn g) f is = absurd cc
for_text_to_register key (ForRegistration g) f is = cc

-- each step is passed
all_passed : (P Q : SignInRefusal → Type 0) (xs : List SignInRefusal) → ((s : SignInRefusal) → P s → Q s) → AllByRecursion P xs → AllByRecursion Q xs
all_passed P Q [] implies h = tt
all_passed P Q (x ∷ xs) implies h = (implies x h.0, all_passed P Q xs implies h.1)

-- ---- a session begins

module _ {S : Type 0} (valid : Validity) (public : Keys) (i : ℕ) (old : Kept S) (kept : IsKept old) (bs : List Begun)
    (begun : AreBegun old.state.key old.state.rp.rp_id old.state.next bs) (second : ℕ) where
  -- in a run whose next number is that of the site, by whatever is kept
  pub begins : (k : Kept S) (s : site.SiteState) (o : Opening) (now : ℕ) → Stands k old.state.next bs second s → second ≤ now → IsBytes (words_of o)
      → Leads valid public i s [] (Stands k (old.state.next + 1) (bs ++ begun_by old.state (Begins o now)) now)
  begins k s o now is le bytes = (
    after_begin s o,
    record {
      rp = is.rp;
      policy = is.policy;
      rows = is.rows;
      next = ap (λ n. n + 1) is.next;
      each = λ b there under. elim (Contains-append_cases bs (begun_by old.state (Begins o now)) b there) [
        | inl before ↦ goes_on b before (is.each b before (begun.given b before))
        | inr last ↦ inl (starts b (only_one (begun_at old.state o now) b last))
      ];
    },
    λ w at. happens valid public w i s (world.Begins o) (after_begin s o) at (bytes, roomy_there, refl),
  ) where
    roomy_there : s.sessions.next < 2 ^ 64 - 1
    roomy_there = let next = is.next in let given = kept.given in let reserved = kept.reserved in omega arith

    kept_there : (n : ℕ) → n < s.sessions.next → finite.get (after_begin s o).sessions.expected n ≡ finite.get s.sessions.expected n
    kept_there n under = grind (arith, gets, common_steps, under)

    new_there : finite.get (after_begin s o).sessions.expected s.sessions.next ≡ Some (expected_of s.sessions.next o)
    new_there = grind (arith, gets, common_steps)

    goes_on : (b : Begun) → Contains bs b → IsGoing s.sessions b ⊎ IsOver k.ended second b → IsGoing (after_begin s o).sessions b ⊎ IsOver k.ended now b
    goes_on b before (inl it) = let given = begun.given b before in let next = is.next in inl (kept_there b.number (omega arith) ∙ it)
    goes_on b before (inr over) = inr (over_later k.ended second now b le over)

    starts : (b : Begun) → begun_at old.state o now ≡ b → IsGoing (after_begin s o).sessions b
    starts b same =
        subst (λ (c : Begun). IsGoing (after_begin s o).sessions c) same
        (subst (λ (n : ℕ). finite.get (after_begin s o).sessions.expected n ≡ Some (expected_of n o)) is.next new_there)

-- ---- each call

module _ {S : Type 0} (valid : Validity) (public : Keys) (laws : Laws valid) (i : ℕ) (old new : Kept S) (kept : IsKept old) (names : AreNamed old.placed) (one : IsOneSite old.state new.state)
    (bs : List Begun) (begun : AreBegun old.state.key old.state.rp.rp_id old.state.next bs) (second : ℕ) (t : site.SiteState)
    (stands : Stands old old.state.next bs second t) where
  are : ArePlaced old.placed
  are = kept.held.holds.credentials.are

  below : old.state.next < 2 ^ 63
  below = let given = kept.given in let reserved = kept.reserved in omega arith

  -- ---- the session of a text

  module _ (now : ℕ) (text : List ℕ) (le : second ≤ now) (handed : IsHanded bs text) where
    abbrev b : Begun
    b = handed.0

    owned : (n : ℕ) (x : Session) → IsOpen old.state old.ended now text n x → (session_in old.state.key b ≡ x) × (b.number ≡ n)
    owned n x is =
        own_session valid laws old.state old.ended now text n x b below (begun.given b handed.1) (begun.each b handed.1) handed.2 is

    -- it is open in the run
    going : (n : ℕ) (x : Session) → IsOpen old.state old.ended now text n x → finite.get t.sessions.expected n ≡ Some (expected_of b.number b.opening)
    going n x is = go (stands.each b handed.1 (begun.given b handed.1))
      where
        mine : (session_in old.state.key b ≡ x) × (b.number ≡ n)
        mine = owned n x is

        go : IsGoing t.sessions b ⊎ IsOver old.ended second b → finite.get t.sessions.expected n ≡ Some (expected_of b.number b.opening)
        go (inl it) = ap (finite.get t.sessions.expected) (sym mine.1) ∙ it
        go (inr (inl over)) = let till = ap (λ (y : Session). y.ends) mine.0 in let within = is.0.within in absurd (omega arith)
        go (inr (inr (e, ended, till))) = let no : Some e ≡ None = sym ended ∙ ap (finite.get old.ended) mine.1 ∙ is.1 in absurd cc

    -- where it ends, its time is over or it has ended, and each other goes on
    ends_it : (how : ℕ) (ends : EndsSession old.state how now text old.ended new.ended) (c : Begun) → Contains bs c
        → IsOver new.ended now c ⊎ ((c.number ≡ ends.0 → ⊥) × (IsOver old.ended second c → IsOver new.ended now c))
    ends_it how ends c there = elim (same_number c.number ends.0) [
      | inl same ↦
          let its = owned ends.0 ends.1 ends.2 in
          let is : c ≡ b = begun.own c b there handed.1 (same ∙ sym its.1) in
          let till : c.ends ≡ ends.1.ends = ap (λ (d : Begun). d.ends) is ∙ ap (λ (y : Session). y.ends) its.0 in
          inl (now_over now ends.0 (record { said = how; until = ends.1.ends }) old.ended new.ended ends.3 c same (omega (arith, till)))
      | inr apart ↦
          inr (
            apart,
            λ over. still_over now ends.0 (record { said = how; until = ends.1.ends }) old.ended new.ended ends.3 c apart (over_later old.ended second now c le over),
          )
    ]

    -- it is closed in the run
    closes : (how : ℕ) (ends : EndsSession old.state how now text old.ended new.ended) (n : ℕ) → ends.0 ≡ n → (c : Begun) → Contains bs c → c.number < new.state.next
        → IsGoing (closed n t.sessions) c ⊎ IsOver new.ended now c
    closes how ends n same c there under = elim (ends_it how ends c there) [
      | inl over ↦ inr over
      | inr other ↦ elim (stands.each c there (begun.given c there)) [
        | inl it ↦ let apart : c.number ≡ n → ⊥ = λ is. other.0 (is ∙ sym same) in inl (left n c.number apart ∙ it)
        | inr over ↦ inr (other.1 over)
      ]
    ] where
      left : (m k : ℕ) → (k ≡ m → ⊥) → finite.get (finite.remove t.sessions.expected m) k ≡ finite.get t.sessions.expected k
      left m k apart = grind (arith, gets, common_steps, apart)

    abandons : (how : ℕ) (ends : EndsSession old.state how now text old.ended new.ended) (c : Begun) → Contains bs c → c.number < new.state.next
        → IsGoing t.sessions c ⊎ IsOver new.ended now c
    abandons how ends c there under = elim (ends_it how ends c there) [
      | inl over ↦ inr over
      | inr other ↦ elim (stands.each c there (begun.given c there)) [
        | inl it ↦ inl it
        | inr over ↦ inr (other.1 over)
      ]
    ]

  -- ---- responses

  module _ (n : ℕ) (text : List ℕ) (r : AuthenticatorAssertionResponse) (now : ℕ) (le : second ≤ now) (own : IsOwn old bs (SignsIn n text r now)) (x : SignedIn)
      (h : calls.SignsIn valid old.placed old.ended old.state now text r x new.placed) (accepts : Accepts old n text now new) where
    abbrev sealed : SealedSignIn
    sealed = h.session.2

    abbrev told : Session
    told = record { ends = h.session.1; ceremony = sign_in sealed }

    abbrev change : Credential → Credential
    change = signed_in h.data_read.sign_count (is_set h.data_read.flags BE)

    number : own.0.0.number ≡ n
    number = (owned now text le own.0 accepts.0.0 accepts.0.1 accepts.0.2).1 ∙ accepts.1

    expected : (f : ExpectedSignIn) × (expected_of own.0.0.number own.0.0.opening ≡ ForSignIn f) × (sealed ≡ sealed_sign_in old.state.key f)
    expected =
        for_text old.state.key (expected_of own.0.0.number own.0.0.opening) sealed
        (ap (λ (y : Session). y.ceremony) (owned now text le own.0 h.session.0 told h.session.3).0)

    session : sign_in_at n t.sessions ≡ Some expected.0
    session =
        ap for_sign_in (ap (finite.get t.sessions.expected) (sym number ∙ (owned now text le own.0 h.session.0 told h.session.3).1)
        ∙ going now text le own.0 h.session.0 told h.session.3 ∙ ap Some expected.1)

    abbrev tried : JudgedSignIn
    tried = calls.judged_sign_in old.state (Some h.expected) (Some h.credential) r

    named : (1 ≤ length h.credential.user) × (1 ≤ length r.credential)
    named =
        let both = names h.place h.credential h.found.there in
        (both.0, subst (λ (id : List ℕ). 1 ≤ length id) h.found.has_id both.1)

    apart : TellsApart old.state.key expected.0 h.credential.user r.credential
    apart =
        subst (λ (e : Expected). TellsThem old.state.key e h.credential.user r.credential) expected.1 (own.1 h.place h.credential h.found)

    passes : PassesSignIn valid (judged_by tried expected.0 h.credential)
    passes =
        all_passed (PassesSignInStep valid (judged_by tried h.expected h.credential)) (PassesSignInStep valid (judged_by tried expected.0 h.credential)) steps
        (λ step. (laws.same_steps old.state.key expected.0 h.expected tried h.credential step named.0 named.1 apart
        (subst (λ (y : SealedSignIn). IsExpectedOf old.state.key y h.credential.user r.credential h.expected) expected.2 h.session.4)).1)
        h.passes

    judged : judged_by tried expected.0 h.credential ≡ site.judged_sign_in t n r
    judged = λ k. record {
      rp = sym stands.rp k;
      session = sym session k;
      credential = sym (ap (row_of r.credential) stands.rows ∙ found_row old.placed r.credential h.place h.credential are h.found) k;
      response = r;
    }

    rows : with_row r.credential change t.rows ≡ rows_of new.placed
    rows =
        ap (with_row r.credential change) stands.rows
        ∙ sym (ap rows_of h.after_is ∙ changed_rows old.placed h.place h.credential change are h.found.there
        ∙ ap (λ (id : List ℕ). with_row id change (rows_of old.placed)) h.found.has_id)

    abbrev signed : site.SiteState
    signed = record t { rows = with_row r.credential change t.rows; sessions = closed n t.sessions }

    signs_in : new.state.next ≡ old.state.next → Leads valid public i t (world.SignsIn n r ∷ []) (Stands new new.state.next bs now)
    signs_in next = (
      signed,
      record {
        rp = stands.rp ∙ sym one.rp;
        policy = stands.policy ∙ sym one.policy;
        rows = rows;
        next = stands.next ∙ sym next;
        each = closes now text le own.0 1 accepts.0 n accepts.1;
      },
      λ w at. happens valid public w i t (world.SignsIn n r) signed at (
        subst (λ (j : JudgedSignIn). PassesSignIn valid j) judged passes,
        (h.data_read, subst (λ (p : RelyingParty). AuthOf p.profile h.data_read r.auth_data) (sym stands.rp) h.read, refl),
      ),
    )

  module _ (n : ℕ) (text : List ℕ) (r : AuthenticatorAttestationResponse) (now : ℕ) (le : second ≤ now) (own : IsHanded bs text) (users : Endings) (x : Registered)
      (h : calls.Registers valid old.placed old.ended users old.state now text r x new.placed) (accepts : Accepts old n text now new) where
    abbrev asked : Session
    asked = record { ends = h.session.1; ceremony = registration h.expected }

    abbrev added : Credential
    added = calls.registered h.expected h.data_read h.credential

    same_session : registration_at n t.sessions ≡ Some h.expected
    same_session =
        let mine = owned now text le own h.session.0 asked h.session.2 in
        let its = owned now text le own accepts.0.0 accepts.0.1 accepts.0.2 in
        let is = for_text_to_register old.state.key (expected_of own.0.number own.0.opening) h.expected (ap (λ (y : Session). y.ceremony) mine.0) in
        ap for_registration (ap (finite.get t.sessions.expected) (sym (its.1 ∙ accepts.1) ∙ mine.1) ∙ going now text le own h.session.0 asked h.session.2 ∙ ap Some is)

    abbrev ids : List ℕ → Bool
    ids = λ id. is_some (row_of id (rows_of old.placed))

    passed : PassesRegistration valid (calls.judged_registration old.state (Some h.expected) ids r)
    passed = h.passes ids (tells_ids old.placed are)

    roomy : calls.is_full old.state ≡ false
    roomy = passed.1.1.1.1.1.1.1.1.1.1.1.1.1.1.1.1.1.1.0

    tried_to_register : calls.judged_registration old.state (Some h.expected) ids r ≡ with_room (site.judged_registration t n r)
    tried_to_register = λ k. record {
      rp = sym stands.rp k;
      policy = sym stands.policy k;
      session = sym same_session k;
      response = r;
      is_registered = ap (λ (rows : List Credential). λ (id : List ℕ). is_some (row_of id rows)) (sym stands.rows) k;
      is_full = roomy k;
    }

    more_rows : t.rows ++ added ∷ [] ≡ rows_of new.placed
    more_rows =
        ap (λ (rows : List Credential). rows ++ added ∷ []) stands.rows
        ∙ sym (ap rows_of h.after_is ∙ added_rows old.placed old.state.last added kept.held.last)

    abbrev registered : site.SiteState
    registered = record t { rows = t.rows ++ added ∷ []; sessions = closed n t.sessions }

    registers : new.state.next ≡ old.state.next → Leads valid public i t (world.Registers n r ∷ []) (Stands new new.state.next bs now)
    registers next = (
      registered,
      record {
        rp = stands.rp ∙ sym one.rp;
        policy = stands.policy ∙ sym one.policy;
        rows = more_rows;
        next = stands.next ∙ sym next;
        each = closes now text le own 1 accepts.0 n accepts.1;
      },
      λ w at. happens valid public w i t (world.Registers n r) registered at (
        subst (λ (j : JudgedRegistration). PassesRegistration valid j) tried_to_register passed,
        (
          h.expected,
          h.object,
          h.data_read,
          h.credential,
          same_session,
          subst (λ (p : RelyingParty). Attests p.profile r h.object h.data_read h.credential) (sym stands.rp) h.attests,
          refl,
        ),
      ),
    )

  -- ---- credentials end

  -- with other rows
  module _ (now : ℕ) (le : second ≤ now) (next : new.state.next ≡ old.state.next) (ended : new.ended ≡ old.ended) where
    with_rows : (other : List Credential) → other ≡ rows_of new.placed → Stands new new.state.next bs now (record t { rows = other })
    with_rows other is = record {
      rp = stands.rp ∙ sym one.rp;
      policy = stands.policy ∙ sym one.policy;
      rows = is;
      next = stands.next ∙ sym next;
      each = λ b there under. still b (stands.each b there (begun.given b there));
    } where
      still : (b : Begun) → IsGoing t.sessions b ⊎ IsOver old.ended second b → IsGoing t.sessions b ⊎ IsOver new.ended now b
      still b (inl it) = inl it
      still b (inr over) = inr (subst (λ (m : Endings). IsOver m now b) (sym ended) (over_later old.ended second now b le over))

    unchanged : new.placed ≡ old.placed → Leads valid public i t [] (Stands new new.state.next bs now)
    unchanged placed = (
      t,
      alike old new old.state.next new.state.next bs bs second now t stands one.rp one.policy placed ended (sym next) le (λ b there under. there),
      λ w at. stays valid public w i t at,
    )

    -- by acts that change rows alone
    by_rows : (acts : List world.SiteEvent) → Leads valid public i t acts (λ u. u ≡ record t { rows = rows_of new.placed })
        → Leads valid public i t acts (Stands new new.state.next bs now)
    by_rows acts (u, is, way) = (u, subst (Stands new new.state.next bs now) (sym is) (with_rows (rows_of new.placed) refl), way)

    retires : (id : List ℕ) (was : Bool) → calls.TellsRetired old.placed id was new.placed
        → Leads valid public i t (act_of (Retires id was now)) (Stands new new.state.next bs now)
    retires id true (place, c, at, fresh, is) =
        let rows : with_row id retired t.rows ≡ rows_of new.placed =
        ap (with_row id retired) stands.rows
        ∙ sym (ap rows_of is ∙ changed_rows old.placed place c retired are at.there ∙ ap (λ (x : List ℕ). with_row x retired (rows_of old.placed)) at.has_id) in (
          after_retire t id,
          with_rows (with_row id retired t.rows) rows,
          λ w here. happens valid public w i t (world.Retires id) (after_retire t id) here refl,
        )
    retires id false h = unchanged h.0

    deletes : (id : List ℕ) (was : Bool) → calls.TellsDeleted old.placed id was new.placed
        → Leads valid public i t (act_of (Deletes id was now)) (Stands new new.state.next bs now)
    deletes id true (place, c, at, is) =
        let rows : filter (λ row. not (bytes_eq id row.id)) t.rows ≡ rows_of new.placed =
        ap (filter (λ row. not (bytes_eq id row.id))) stands.rows ∙ sym (ap rows_of is ∙ removed_rows old.placed id place c are at) in (
          after_delete t id,
          with_rows (filter (λ row. not (bytes_eq id row.id)) t.rows) rows,
          λ w here. happens valid public w i t (world.Deletes id) (after_delete t id) here refl,
        )
    deletes id false h = unchanged h.0

  -- ---- whichever call

  -- no session more
  as_before : (now : ℕ) (acts : List world.SiteEvent) → Leads valid public i t acts (Stands new new.state.next bs now)
      → Leads valid public i t acts (Stands new new.state.next (bs ++ []) now)
  as_before now acts (u, is, way) = (u, subst (λ (cs : List Begun). Stands new new.state.next cs now u) (sym (append-nil bs)) is, way)

  pub leads : (c : Call) → Does valid old c new → IsOwn old bs c → second ≤ second_of c
      → Leads valid public i t (act_of c) (Stands new new.state.next (bs ++ begun_by old.state c) (second_of c))
  leads (Begins o now) h own le =
      let there = begins valid public i old kept bs begun second old t o now stands le h.0 in (
        there.0,
        alike old new (old.state.next + 1) new.state.next (bs ++ begun_by old.state (Begins o now)) (bs ++ begun_by old.state (Begins o now)) now now there.0 there.1 one.rp one.policy
            h.2 h.4 (sym h.3) (omega arith) (λ b is under. is),
        there.2,
      )
  leads (Abandons text now) h own le = as_before now [] (
    t,
    record {
      rp = stands.rp ∙ sym one.rp;
      policy = stands.policy ∙ sym one.policy;
      rows = stands.rows ∙ ap rows_of (sym h.0);
      next = stands.next ∙ sym h.1;
      each = abandons now text le own 2 h.2;
    },
    λ w at. stays valid public w i t at,
  )
  leads (Retires id was now) h own le = as_before now (act_of (Retires id was now)) (retires now le h.1 h.2 id was h.0)
  leads (Deletes id was now) h own le = as_before now (act_of (Deletes id was now)) (deletes now le h.1 h.2 id was h.0)
  leads (RetiresAll user ids now) h own le =
      as_before now (map world.Retires ids)
      (by_rows now le h.2 h.3 (map world.Retires ids) (retires_all valid public i old.placed new.placed user ids (length ids) t are h.0 h.1 stands.rows))
  leads (Erases user ids now) h own le =
      as_before now (map world.Deletes ids)
      (by_rows now le h.2 h.3 (map world.Deletes ids) (erases valid public i old.placed new.placed user ids (length ids) t are h.0 h.1 stands.rows))
  leads (SignsIn n text r now) h own le = as_before now (world.SignsIn n r ∷ []) (signs_in n text r now le own h.0.0 h.0.1 h.2 h.1)
  leads (Registers n text r now) h own le = as_before now (world.Registers n r ∷ []) (registers n text r now le own h.0.0 h.0.1 h.0.2 h.2 h.1)
