-- What meets the premises of the laws.
use Rattle.std.proofs.Common.{◌≡◌, ◌≢◌, ◌∙◌, ℕ, List, [], ◌∷◌, ◌++◌, Bool, true, false, Some, refl, ap, subst, sym, inl, inr, arith}
use Rattle.std.specs.Prelude.{Contains}
use Rattle.std.specs.FinMap as finite
use Rattle.std.specs.List.{All}
use Rattle.std.proofs.lemmas.List.Elements.{All-contains, All-weaker, Contains-append_right}
use Rattle.hidframe.specs.declared.Packet.{Packet}
use Rattle.cose.specs.Schemes.{Validity}
use Rattle.authdata.specs.Responses as responses
use Rattle.authdata.specs.Responses.{AuthenticatorAssertionResponse}
use Rattle.authdata.specs.declared.statement.AttestationType.{AttestationType}
use Rattle.ctap_replies.specs.Replies as replies
use Rattle.ctap_replies.specs.Replies.{ReplyOf, assertion_reply, creation_reply}
use Rattle.verification.specs.Records.{Credential}
use Rattle.site_state.specs.Sessions.{Expected, challenge_in}
use Rattle.site_state.specs.Table.{row_of}
use Rattle.authenticator.specs.State.{new_state}
use Rattle.authenticator.specs.Steps.{Entry, Keys}
use Rattle.client.specs.Responses.{response_of}
use Rattle.ceremony.specs.Registration as registering
use Rattle.ceremony.specs.Verdict.{Delivers}
use Rattle.agreement.specs.Agreement.{Brings, IsAcceptedRegistration, IsDeleted, IsIdeal, NoneDeleted, Tries, message_of}
use Rattle.agreement.specs.Begun.{BeginsFor, IsChosen}
use Rattle.agreement.specs.Premises.{HonestPremises, PagePremises, Premises, RunPremises, SessionPremises}
use Rattle.agreement.specs.Stays.{IsEnd}
use Rattle.agreement.specs.World as world
use Rattle.agreement.specs.World.{AtSite, BeginsAs, Deletes, Done, Event, Happens, Holder, IsStart, Moment, Nothing, Registers, RegistersBy, SignsIn, SignsInBy, SiteEvent, World}

abbrev site_of : Event → ℕ
site_of (AtSite i e) = i
site_of (world.Asks k channel bs consent words) = 0
site_of (world.Reloads k) = 0

abbrev is_at_site : Event → Bool
is_at_site (AtSite i e) = true
is_at_site (world.Asks k channel bs consent words) = false
is_at_site (world.Reloads k) = false

-- a new authenticator, by what it is
new_start : (w : World) → ((i : ℕ) → (w.site i).sessions.expected ≡ finite.empty)
    → ((k : ℕ) → (aaguid : List ℕ) × (uv : Bool) × (attest : AttestationType)
    × (w.holder k ≡ record { state = new_state aaguid uv attest; signed = []; made = [] }))
    → IsStart w
new_start w sites holders = record {
  sites = sites;
  holders = λ k.
      let h = holders k in
      record {
        aaguid = h.0;
        uv = h.1;
        attest = h.2;
        state = ap (λ (x : Holder). x.state) h.3;
        signed = ap (λ (x : Holder). x.signed) h.3;
        made = ap (λ (x : Holder). x.made) h.3;
      };
}

tried : (m : Moment) (i n : ℕ) (r : AuthenticatorAssertionResponse) (row : Credential) → m.event ≡ AtSite i (SignsIn n r)
    → row_of r.credential (m.old.site i).rows ≡ Some row → Tries m i n r row
tried m i n r row is found = record { brings = subst (λ (e : Event). Brings e i n r) (sym is) (refl, (refl, refl)); found = found }

tried_by : (m : Moment) (i n c used : ℕ) (ps : List Packet) (t bs : List ℕ) (a : replies.Assertion) (row : Credential)
    → m.event ≡ AtSite i (SignsInBy n c ps t) → Delivers c ps used bs → ReplyOf (assertion_reply a) bs
    → row_of a.credential (m.old.site i).rows ≡ Some row → Tries m i n (response_of a t) row
tried_by m i n c used ps t bs a row is comes reads found =
    record { brings = subst (λ (e : Event). Brings e i n (response_of a t)) (sym is) (refl, (refl, (used, bs, a, comes, reads, refl))); found = found }

registered : (m : Moment) (i n : ℕ) (r : responses.AuthenticatorAttestationResponse) → m.event ≡ AtSite i (Registers n r) → m.end ≡ Done
    → IsAcceptedRegistration m i n r
registered m i n r is done = record { event = Registers n r; here = is; brings = (refl, refl); done = done }

registered_by : (m : Moment) (i n c used : ℕ) (ps : List Packet) (t bs : List ℕ) (a : replies.Creation)
    → m.event ≡ AtSite i (RegistersBy n c ps t) → Delivers c ps used bs → ReplyOf (creation_reply a) bs → m.end ≡ Done
    → IsAcceptedRegistration m i n (registering.response a t)
registered_by m i n c used ps t bs a is comes reads done =
    record { event = RegistersBy n c ps t; here = is; brings = (refl, (used, bs, a, comes, reads, refl)); done = done }

module _ (valid : Validity) (public : Keys) where
  unchanged : (w : World) (e : Event) → Happens valid public w e Nothing w
  unchanged w e = refl

  unforged : (m : Moment) → ((i n k : ℕ) (r : AuthenticatorAssertionResponse) (row : Credential) → Tries m i n r row
      → valid row.key (message_of r) r.signature → Contains (m.old.holder k).made row.key
      → (j : ℕ) × (e : Entry) × Contains (m.old.holder j).made row.key × Contains (m.old.holder j).signed e × (e.key ≡ row.key) × (e.message ≡ message_of r))
      → IsIdeal valid m
  unforged m each = λ i n r row tried ok made.
      let x = each i n made.0 r row tried ok made.1 in record { holder = x.0; made = x.2; entry = x.1; there = x.3; under = x.4; of = x.5 }

never_deleted : (i : ℕ) (id : List ℕ) (moments : List Moment) → All (λ m. m.event ≡ AtSite i (Deletes id) → ⊥) moments → NoneDeleted i id moments
never_deleted i id moments h = All-weaker (λ (m : Moment). m.event ≡ AtSite i (Deletes id) → ⊥) (λ (m : Moment). IsDeleted i id m → ⊥) (λ m never del. never del.0) moments h

-- a session whose challenge the host chose expects what the host says
choice : (event : SiteEvent) (n : ℕ) (x : Expected) → BeginsFor event n x → IsChosen event → (z : Expected) × (event ≡ BeginsAs z) × (x ≡ z)
choice (BeginsAs z) n x h is = (z, refl, h)
choice _ n x h is = absurd is

among : (run before later : List Moment) (m : Moment) → run ≡ before ++ m ∷ later → Contains run m
among run before later m here =
    subst (λ (ms : List Moment). Contains ms m) (sym here) (Contains-append_right before (m ∷ later) m (0, omega arith, refl))

run_premises : (valid : Validity) (public : Keys) → RunPremises valid public
run_premises valid public = record {
  starts = new_start;
  ends = λ w. tt;
  goes_on = λ w m ms same happens rest. (same, happens, rest);
  refused = unchanged valid public;
  tries = tried;
  tries_by = tried_by;
  accepted = λ m i n r row t done. record { tries = t; done = done };
  registers = registered;
  registers_by = registered_by;
  answers_by_sign_in = λ i n r. (refl, refl);
  answers_by_sign_in_packets = λ i n c ps t. (refl, refl);
  answers_by_registration = λ i n r. (refl, refl);
  answers_by_registration_packets = λ i n c ps t. (refl, refl);
  made = λ w k key there. (k, there);
  ideal = unforged valid public;
  rests = λ m k r row e there purpose key message. record { there = (k, there); purpose = purpose; key = key; message = message };
  rests_once = λ run m l once i j n k r t row low first second party texts own e on_first on_second.
      once i j n k r t row low first second party texts own e on_first on_second;
  numbered = λ run i none n k x y b c chosen same.
      let z = choice b.begins n x b.expects chosen in
      absurd (All-contains (λ m. (x : Expected) → m.event ≡ AtSite i (BeginsAs x) → ⊥) run b.moment none (among run b.before b.later b.moment b.here) z.0
      (b.event ∙ ap (AtSite i) z.1));
  chosen = λ run i own n k x y b c chosen same.
      let z = choice b.begins n x b.expects chosen in
      own n k z.0 y b.moment (among run b.before b.later b.moment b.here) (b.event ∙ ap (AtSite i) z.1) b.done b.number c (ap challenge_in (sym z.2) ∙ same);
  undeleted = never_deleted;
  retired = λ s id row found retired. record { row = row; found = found; retired = retired };
}

honest_premises : (valid : Validity) (public : Keys) → HonestPremises valid public
honest_premises valid public = record {
  decided = λ call uv c waits e f words out packets consent asks present configured verified exchange.
      record { asks = asks; consent = consent; waits = waits; present = present; configured = configured; verified = verified; exchange = exchange };
  registers = λ x alg is_open rp_id challenge user algorithms verified offered origin text accepted not_stored not_registered room site_room not_excluded decided.
      record {
        is_open = is_open;
        rp_id = rp_id;
        challenge = challenge;
        user = user;
        algorithms = algorithms;
        verified = verified;
        offered = (alg, offered);
        origin = origin;
        origin_text = text;
        accepted = accepted;
        not_stored = not_stored;
        not_registered = not_registered;
        room = room;
        site_room = site_room;
        not_excluded = not_excluded;
        decided = decided;
      };
  signs_in = λ x is_open rp_id challenge allow verified origin text decided.
      record {
        is_open = is_open;
        rp_id = rp_id;
        challenge = challenge;
        allow = allow;
        verified = verified;
        origin = origin;
        origin_text = text;
        decided = decided;
      };
  shared = λ s a c stored rp_id registered. record { stored = stored; sign_count = refl; rp_id = rp_id; registered = registered };
  asked_by_id = λ c a e allow user. inl (allow, user);
  asked_as_newest = λ c a e later allow resident ids user. inr (allow, resident, (later, ids), user);
  new_by_id = λ x e allow user. inl (allow, user);
  new_as_newest = λ x e allow resident user. inr (allow, resident, user);
  run = λ x opening idle registration after begins before channel sign_in asks.
      record {
        idle = idle;
        honest_registration = registration;
        registered = after;
        begins = (opening, begins);
        goes_on = before;
        channel = channel;
        honest_sign_in = sign_in;
        asks = asks;
      };
}

-- ---- of sessions that stay, and of pages

module _ (i n : ℕ) (m : Moment) (is : IsEnd i n m) where
  at_no_other : (j : ℕ) (e : SiteEvent) → m.event ≡ AtSite j e → j ≢ i → ⊥
  at_no_other j e event apart = let same : AtSite j e ≡ AtSite i is.0 = sym event ∙ is.1 in apart (ap site_of same)

  at_a_site : (e : Event) → m.event ≡ e → is_at_site e ≡ true
  at_a_site e event = ap is_at_site (sym event ∙ is.1)

session_premises : SessionPremises
session_premises = record {
  begins = λ o n h. h;
  begins_as = λ x n h. h;
  retires = λ id n h. h;
  deletes = λ id n h. h;
  bounds = λ k n h. h;
  reopens = λ n h. h;
  abandons = λ k n apart h. apart h;
  signs_in = λ k n r apart h. apart h;
  signs_in_by = λ k n c ps t apart h. apart h;
  registers = λ k n r apart h. apart h;
  registers_by = λ k n c ps t apart h. apart h;
  refused = λ i n m nothing is. let bad : Nothing ≡ Done = sym nothing ∙ is.2 in absurd cc;
  other_site = λ i j n m e event apart is. at_no_other i n m is j e event apart;
  asks = λ i n k channel bs consent words m event is. let bad : false ≡ true = at_a_site i n m is (world.Asks k channel bs consent words) event in absurd cc;
  reloads = λ i n k m event is. let bad : false ≡ true = at_a_site i n m is (world.Reloads k) event in absurd cc;
}

page_premises : PagePremises
page_premises = record {
  from_page = λ page t seen reads is.
      record { seen = seen; reads = reads; page = subst (λ (p : List ℕ). Contains (p ∷ []) seen.origin) is (0, omega arith, refl) };
  asked = λ texts k moments each before m later here channel consent words q asked.
      each m channel asked.bytes consent words q (subst (λ (ms : List Moment). Contains ms m) (sym here) (Contains-append_right before (m ∷ later) m (0, omega arith, refl))) asked.event asked.done asked.request;
}

pub premises : (valid : Validity) (public : Keys) → Premises valid public
premises valid public = record { of_runs = run_premises valid public; of_sessions = session_premises; of_pages = page_premises; of_an_honest_run = honest_premises valid public }
