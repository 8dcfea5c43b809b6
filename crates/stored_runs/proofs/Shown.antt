-- A history in which an authenticator makes a key and signs: a registration and a sign-in are committed, and what ends a credential and a session.
use Rattle.std.proofs.Common.{◌≡◌, ◌≤◌, ◌<◌, ◌++◌, inl, ℕ, List, [], ◌∷◌, Bool, true, false, refl, sym, ap, ◌∙◌, arith, replicate}
use Rattle.std.proofs.lemmas.Grind.{common_steps}
use Rattle.std.specs.Prelude.{None, Some, Contains}
use Rattle.std.specs.FinMap.{gets, get-empty}
use Rattle.std.specs.FinMap as finite
use Rattle.std.specs.Ordering.{nat_cmp}
use Rattle.cose.specs.Bench.{bench_public, bench_valid}
use Rattle.verification.specs.Records.{Credential}
use Rattle.site_state.specs.Table.{retired}
use Rattle.site_rows.specs.declared.ending.Ending.{Ending}
use Rattle.site_seal.specs.Seal.{IsExpectedOf, sealed_sign_in}
use Rattle.site_stored.specs.Calls as calls
use Rattle.site_stored.specs.Calls.{TellsIds}
use Rattle.site_stored.specs.Sessions.{IsOpen}
use Rattle.agreement.specs.Below.{Below}
use Rattle.agreement.specs.World.{Done, Event, EventEffect, World}
use Rattle.agreement.proofs.OneRun as one
use Rattle.stored_runs.specs.History.{Abandons, AreBegun, Begins, Begun, Call, Calls, Commits, Deletes, Does, IsCalled, IsCommitted, IsKept, IsOwn, Opens, Registers, Retires, SignsIn, Step, Store, Takes, begun_by, second_of, session_in}
use Rattle.stored_runs.specs.Among.{Act, Elsewhere, IsElsewhere, IsHistory, Plays, Scene, Stores, Turn}
use Rattle.stored_runs.specs.Shown.{Shown}
use Rattle.stored_runs.proofs.Responses as response
use Rattle.stored_runs.proofs.Responses.{new_row, stored_new}
use Rattle.stored_runs.proofs.Scenes.{first, for_registration, for_sign_in, last_ended, may_register, may_sign_in, none_ended, one_ended, purged, s0, s1, s2, s3, s4, s5, s6, scene, second, Site, store, texts, third, turn, two_ended, zeros}
use Rattle.stored_runs.proofs.Stages.{none_at, none_kept, none_now, none_placed, one_kept, one_opened, one_site, placed_of, put_again, state_of, there, none_listed, with_none, with_one}
use Rattle.stored_runs.proofs.Texts.{fits}

module _ (b : Below bench_valid bench_public) where
  abbrev counted : Credential
  counted = response.counted_row b

  abbrev s7 : Site
  s7 = with_one counted two_ended 2001 2001 1 true

  -- what the commit that is cut off writes
  abbrev whole : Site
  whole = with_one counted two_ended 2001 3001 2 false

  abbrev s8 : Site
  s8 = with_one counted two_ended 3001 3001 2 false

  abbrev s9 : Site
  s9 = with_one counted last_ended 3001 3001 2 true

  abbrev s10 : Site
  s10 = with_one (retired counted) last_ended 3001 3001 2 true

  abbrev s11 : Site
  s11 = with_one (retired counted) last_ended 3001 4001 3 false

  abbrev s12 : Site
  s12 = with_none last_ended 1 3001 4001 3 true

  abbrev s13 : Site
  s13 = with_one (retired counted) last_ended 4001 4001 3 false

  abbrev s14 : Site
  s14 = with_none last_ended 1 4001 4001 3 true

  abbrev s15 : Site
  s15 = with_none last_ended 1 4001 5001 4 false

  abbrev w0 : World
  w0 = response.first_world b

  abbrev w1 : World
  w1 = response.made b

  abbrev w2 : World
  w2 = response.signed b

  abbrev id : List ℕ
  id = (response.response b).credential

  -- ---- the scenes and the acts

  abbrev c0 : Scene (Unit {0})
  c0 = scene (store s0 s0 [] 0) w0

  abbrev c1 : Scene (Unit {0})
  c1 = scene (store s1 s0 (first ∷ []) 0) w0

  abbrev c2 : Scene (Unit {0})
  c2 = scene (store s2 s0 (first ∷ second ∷ []) 0) w0

  abbrev c3 : Scene (Unit {0})
  c3 = scene (store s2 s0 (first ∷ second ∷ []) 0) w1

  abbrev c4 : Scene (Unit {0})
  c4 = scene (store s3 s0 (first ∷ second ∷ []) 1) w1

  abbrev c5 : Scene (Unit {0})
  c5 = scene (store s4 s4 (first ∷ second ∷ []) 1) w1

  abbrev c6 : Scene (Unit {0})
  c6 = scene (store s5 s4 texts 100) w1

  abbrev c7 : Scene (Unit {0})
  c7 = scene (store s6 s6 texts 100) w1

  abbrev c8 : Scene (Unit {0})
  c8 = scene (store s6 s6 texts 100) w2

  abbrev c9 : Scene (Unit {0})
  c9 = scene (store s7 s6 texts 200) w2

  abbrev c10 : Scene (Unit {0})
  c10 = scene (store s8 s8 texts 200) w2

  abbrev c11 : Scene (Unit {0})
  c11 = scene (store s9 s8 texts 301) w2

  abbrev c12 : Scene (Unit {0})
  c12 = scene (store s10 s8 texts 301) w2

  abbrev c13 : Scene (Unit {0})
  c13 = scene (store s11 s11 texts 301) w2

  abbrev c14 : Scene (Unit {0})
  c14 = scene (store s12 s11 texts 302) w2

  abbrev c15 : Scene (Unit {0})
  c15 = scene (store s13 s13 texts 302) w2

  abbrev c16 : Scene (Unit {0})
  c16 = scene (store s14 s13 texts 303) w2

  abbrev c17 : Scene (Unit {0})
  c17 = scene (store s15 s15 texts 303) w2

  abbrev registers : Call
  registers = Registers 1 first.text (response.created b) 1

  abbrev signs_in : Call
  signs_in = SignsIn 2 second.text (response.response b) 200

  abbrev before : List (Turn (Unit {0}))
  before =
      turn c0 (Stores (Calls (Begins for_registration 0))) c1 ∷ turn c1 (Stores (Calls (Begins for_sign_in 0))) c2 ∷ turn c2 (Elsewhere (response.makes b) Done) c3
      ∷ turn c3 (Stores (Calls registers)) c4 ∷ turn c4 (Stores Commits) c5 ∷ turn c5 (Stores (Calls (Begins for_sign_in 100))) c6 ∷ turn c6 (Stores (Opens false)) c7
      ∷ turn c7 (Elsewhere (response.signs b) Done) c8 ∷ []

  abbrev signing : Turn (Unit {0})
  signing = turn c8 (Stores (Calls signs_in)) c9

  abbrev later : List (Turn (Unit {0}))
  later =
      turn c9 (Stores (Opens true)) c10 ∷ turn c10 (Stores (Calls (Abandons third.text 301))) c11 ∷ turn c11 (Stores (Calls (Retires id true 301))) c12
      ∷ turn c12 (Stores Commits) c13 ∷ turn c13 (Stores (Calls (Deletes id true 302))) c14 ∷ turn c14 (Stores (Opens false)) c15
      ∷ turn c15 (Stores (Calls (Deletes id true 303))) c16 ∷ turn c16 (Stores Commits) c17 ∷ []

  -- ---- the calls

  called : (old new : Store (Unit {0})) (c : Call) → new.now.state ≡ record old.now.state { next = new.now.state.next; reserved = new.now.state.reserved; count = new.now.state.count; last = new.now.state.last; is_pending = new.now.state.is_pending }
      → Does bench_valid old.now c new.now → IsOwn old.now old.begun c → old.second ≤ second_of c → new.second ≡ second_of c → new.begun ≡ old.begun ++ begun_by old.now.state c
      → new.committed ≡ old.committed → IsCalled bench_valid old c new
  called old new c same does own later second begun committed = record {
    one = one_site old.now.state new.now.state same;
    does = does;
    own = own;
    later = later;
    second = second;
    begun = begun;
    committed = committed;
  }

  -- the session of the first text, and that of the second
  is_open_first : IsOpen s2.state none_ended 1 first.text 1 (session_in s2.state.key first)
  is_open_first = (
    record {
      sealed = refl;
      is = fits (state_of 1 1001 0 0 0 false) for_registration 0 may_register;
      number = (replicate 24 0, refl);
      given = omega arith;
      within = omega arith;
      fits = omega arith;
    },
    get-empty {X = Ending} nat_cmp 1,
  )

  is_open_second : IsOpen s6.state one_ended 200 second.text 2 (session_in s6.state.key second)
  is_open_second = (
    record {
      sealed = refl;
      is = fits (state_of 2 1001 0 0 0 false) for_sign_in 0 may_sign_in;
      number = (replicate 24 0, refl);
      given = omega arith;
      within = omega arith;
      fits = omega arith;
    },
    grind (arith, gets, common_steps),
  )

  is_open_third : IsOpen s8.state two_ended 301 third.text 1001 (session_in s8.state.key third)
  is_open_third = (
    record {
      sealed = refl;
      is = fits (state_of 1001 2001 1 1 1 false) for_sign_in 100 may_sign_in;
      number = (replicate 24 0, refl);
      given = omega arith;
      within = omega arith;
      fits = omega arith;
    },
    grind (arith, gets, common_steps),
  )

  none_told : (ids : List ℕ → Bool) → TellsIds none_placed ids → (id : List ℕ) → ids id ≡ false
  none_told ids tells id = go (ids id) refl
    where
      go : (t : Bool) → ids id ≡ t → ids id ≡ false
      go false is = is
      go true is = let it = tells.there id is in absurd (none_at it.0 it.1 it.2.there)

  registered : calls.Registers bench_valid none_placed none_ended none_ended s2.state 1 first.text (response.created b) (response.told_new b) (placed_of new_row)
  registered =
      let reads = response.reads b in
      record {
        expected = response.expected b;
        object = reads.object;
        data_read = reads.auth;
        credential = reads.credential;
        session = (1, 300, is_open_first, λ cut. let no : None ≡ Some cut.0 = sym (get-empty {X = Ending} nat_cmp _) ∙ cut.1 in absurd cc);
        attests = reads.attests;
        passes = λ ids tells. response.passes_new b ids (none_told ids tells);
        fresh = λ place c is same. none_at place c is;
        tells = response.tells_new b;
        tells_data = response.summarises_new b;
        tells_aaguid = refl;
        tells_format = refl;
        after_is = ap (λ (c : Credential). finite.insert none_placed 1 c) (sym reads.row);
      }

  expected_of_second : IsExpectedOf s6.state.key (sealed_sign_in s6.state.key (response.expected_then b)) new_row.user id (response.expected_then b)
  expected_of_second = record {
    user = record { none = λ e. refl; named = λ e. absurd cc; other = λ no. absurd (no (inl refl)) };
    allow = record { none = λ e. refl; listed = λ c. let bad : c.0 < 0 = c.1 in absurd (omega arith); other = λ no. absurd (no (inl refl)) };
    uv = refl;
    challenge = refl;
  }

  signed_in : calls.SignsIn bench_valid (placed_of new_row) one_ended s6.state 200 second.text (response.response b) (response.told_signed b) (placed_of counted)
  signed_in =
      let reads = response.reads_signed b in
      record {
        expected = response.expected_then b;
        place = 1;
        credential = new_row;
        data_read = reads.auth;
        found = record { there = there new_row; has_id = response.has_id b };
        session = (2, 300, sealed_sign_in s6.state.key (response.expected_then b), is_open_second, expected_of_second);
        passes = response.passes_then b;
        read = reads.read;
        tells_user = refl;
        tells_credential = refl;
        tells_data = response.summarises_signed b;
        after_is = put_again new_row counted;
      }

  own_second : IsOwn s6 texts signs_in
  own_second = ((second, (1, omega arith, refl), refl), λ place c is. record { user = tt; ids = tt })

  counted_id : (c : Credential) → c.id ≡ counted.id → c.id ≡ id
  counted_id c same = same ∙ response.has_id b

  -- ---- the history

  abbrev Leads : Scene (Unit {0}) → List (Turn (Unit {0})) → Type 0
  Leads from turns = IsHistory {I = Unit {0}} (λ u. bench_valid) bench_valid bench_public 0 from turns

  plays : (old new : Scene (Unit {0})) (act : Act) (more : List (Turn (Unit {0}))) → Plays bench_valid bench_public 0 old act new → Leads new more
      → Leads old (turn old act new ∷ more)
  plays old new act more play rest = (refl, (tt, λ k m s is. is, play), rest)

  stores : (old new : Store (Unit {0})) (w : World) (step : Step) (more : List (Turn (Unit {0}))) → Takes bench_valid old step new → IsKept new.now
      → Leads (scene new w) more → Leads (scene old w) (turn (scene old w) (Stores step) (scene new w) ∷ more)
  stores old new w step more takes kept rest = plays (scene old w) (scene new w) (Stores step) more (takes, kept, refl) rest

  asks : (s : Store (Unit {0})) (v w : World) (e : Event) (more : List (Turn (Unit {0}))) → IsElsewhere 0 e → EventEffect bench_valid bench_public v e w → Leads (scene s w) more
      → Leads (scene s v) (turn (scene s v) (Elsewhere e Done) (scene s w) ∷ more)
  asks s v w e more apart effect rest = plays (scene s v) (scene s w) (Elsewhere e Done) more (apart, effect, refl) rest

  committed : (old new : Store (Unit {0})) → IsCommitted old.now new.now → new.committed ≡ new.now → new.begun ≡ old.begun → new.second ≡ old.second
      → Takes bench_valid old Commits new
  committed old new is whole begun second = (is, record { committed = whole; begun = begun; second = second })

  deleted : (committed : Site) (second : ℕ) (next : ℕ) (now : ℕ) → second ≤ now → IsCalled bench_valid (store (with_one (retired counted) last_ended next 4001 3 false) committed texts second)
      (Deletes id true now) (store (with_none last_ended 1 next 4001 3 true) committed texts now)
  deleted committed second next now later =
      called (store (with_one (retired counted) last_ended next 4001 3 false) committed texts second) (store (with_none last_ended 1 next 4001 3 true) committed texts now)
      (Deletes id true now) refl
      ((1, retired counted, record { there = there (retired counted); has_id = counted_id (retired counted) refl }, none_now (retired counted)), refl, refl) tt later refl refl refl

  -- from the last
  is_deleted : Leads c15 (turn c15 (Stores (Calls (Deletes id true 303))) c16 ∷ turn c16 (Stores Commits) c17 ∷ [])
  is_deleted =
      stores c15.store c16.store w2 (Calls (Deletes id true 303)) (turn c16 (Stores Commits) c17 ∷ []) (deleted s13 302 4001 303 (omega arith))
      (none_kept last_ended 1 4001 4001 3 true (omega arith) (omega arith))
      (stores c16.store c17.store w2 Commits [] (committed c16.store c17.store (refl, refl, record { quiet = λ idle. absurd cc; moved = λ busy. refl }) refl refl refl)
      (none_kept last_ended 1 4001 5001 4 false (omega arith) (omega arith)) tt)

  abbrev from_deletion : List (Turn (Unit {0}))
  from_deletion =
      turn c13 (Stores (Calls (Deletes id true 302))) c14 ∷ turn c14 (Stores (Opens false)) c15 ∷ turn c15 (Stores (Calls (Deletes id true 303))) c16
      ∷ turn c16 (Stores Commits) c17 ∷ []

  is_cut_off : Leads c13 from_deletion
  is_cut_off =
      stores c13.store c14.store w2 (Calls (Deletes id true 302)) (turn c14 (Stores (Opens false)) c15 ∷ turn c15 (Stores (Calls (Deletes id true 303))) c16 ∷ turn c16 (Stores Commits) c17 ∷ [])
      (deleted s11 301 3001 302 (omega arith)) (none_kept last_ended 1 3001 4001 3 true (omega arith) (omega arith))
      (stores c14.store c15.store w2 (Opens false) (turn c15 (Stores (Calls (Deletes id true 303))) c16 ∷ turn c16 (Stores Commits) c17 ∷ [])
      (one_opened (retired counted) last_ended 3001 4001 3, record { committed = refl; begun = refl; second = refl })
      (one_kept (retired counted) last_ended 4001 4001 3 false (response.stored_retired b) (omega arith) (omega arith)) is_deleted)

  is_retired : Leads c11 (turn c11 (Stores (Calls (Retires id true 301))) c12 ∷ turn c12 (Stores Commits) c13 ∷ from_deletion)
  is_retired =
      stores c11.store c12.store w2 (Calls (Retires id true 301)) (turn c12 (Stores Commits) c13 ∷ from_deletion)
      (called c11.store c12.store (Retires id true 301) refl
      ((1, counted, record { there = there counted; has_id = counted_id counted refl }, refl, put_again counted (retired counted)), refl, refl) tt (omega arith) refl refl refl)
      (one_kept (retired counted) last_ended 3001 3001 2 true (response.stored_retired b) (omega arith) (omega arith))
      (stores c12.store c13.store w2 Commits from_deletion (committed c12.store c13.store (refl, refl, record { quiet = λ idle. absurd cc; moved = λ busy. refl }) refl refl refl)
      (one_kept (retired counted) last_ended 3001 4001 3 false (response.stored_retired b) (omega arith) (omega arith)) is_cut_off)

  abbrev from_retirement : List (Turn (Unit {0}))
  from_retirement = turn c11 (Stores (Calls (Retires id true 301))) c12 ∷ turn c12 (Stores Commits) c13 ∷ from_deletion

  is_abandoned : Leads c9 later
  is_abandoned =
      stores c9.store c10.store w2 (Opens true) (turn c10 (Stores (Calls (Abandons third.text 301))) c11 ∷ from_retirement) (
        (
          whole,
          (refl, refl, record { quiet = λ idle. absurd cc; moved = λ busy. refl }),
          one_kept counted two_ended 2001 3001 2 false (response.stored_counted b) (omega arith) (omega arith),
          one_opened counted two_ended 2001 3001 2,
        ),
        record { committed = refl; begun = refl; second = refl },
      )
      (one_kept counted two_ended 3001 3001 2 false (response.stored_counted b) (omega arith) (omega arith))
      (stores c10.store c11.store w2 (Calls (Abandons third.text 301)) from_retirement
      (called c10.store c11.store (Abandons third.text 301) refl (refl, refl, (1001, session_in s8.state.key third, is_open_third, (none_ended, purged, refl)))
      (third, (2, omega arith, refl), refl) (omega arith) refl refl refl)
      (one_kept counted last_ended 3001 3001 2 true (response.stored_counted b) (omega arith) (omega arith)) is_retired)

  is_signed_in : Leads c7 (turn c7 (Elsewhere (response.signs b) Done) c8 ∷ signing ∷ later)
  is_signed_in =
      asks c7.store w1 w2 (response.signs b) (signing ∷ later) tt (response.is_signed b)
      (stores c8.store c9.store w2 (Calls signs_in) later
      (called c8.store c9.store signs_in refl
      ((response.told_signed b, signed_in), refl, ((2, session_in s6.state.key second, is_open_second, (one_ended, λ n. inl refl, refl)), refl))
      own_second (omega arith) refl refl refl)
      (one_kept counted two_ended 2001 2001 1 true (response.stored_counted b) (omega arith) (omega arith)) is_abandoned)

  abbrev from_signing : List (Turn (Unit {0}))
  from_signing = turn c7 (Elsewhere (response.signs b) Done) c8 ∷ signing ∷ later

  is_opened : Leads c5 (turn c5 (Stores (Calls (Begins for_sign_in 100))) c6 ∷ turn c6 (Stores (Opens false)) c7 ∷ from_signing)
  is_opened =
      stores c5.store c6.store w1 (Calls (Begins for_sign_in 100)) (turn c6 (Stores (Opens false)) c7 ∷ from_signing)
      (called c5.store c6.store (Begins for_sign_in 100) refl (zeros 24, may_sign_in, refl, refl, refl) tt (omega arith) refl refl refl)
      (one_kept new_row one_ended 1002 2001 1 false stored_new (omega arith) (omega arith))
      (stores c6.store c7.store w1 (Opens false) from_signing (one_opened new_row one_ended 1001 2001 1, record { committed = refl; begun = refl; second = refl })
      (one_kept new_row one_ended 2001 2001 1 false stored_new (omega arith) (omega arith)) is_signed_in)

  abbrev from_commit : List (Turn (Unit {0}))
  from_commit = turn c5 (Stores (Calls (Begins for_sign_in 100))) c6 ∷ turn c6 (Stores (Opens false)) c7 ∷ from_signing

  is_registered : Leads c2 (turn c2 (Elsewhere (response.makes b) Done) c3 ∷ turn c3 (Stores (Calls registers)) c4 ∷ turn c4 (Stores Commits) c5 ∷ from_commit)
  is_registered =
      asks c2.store w0 w1 (response.makes b) (turn c3 (Stores (Calls registers)) c4 ∷ turn c4 (Stores Commits) c5 ∷ from_commit) tt (response.is_made b)
      (stores c3.store c4.store w1 (Calls registers) (turn c4 (Stores Commits) c5 ∷ from_commit)
      (called c3.store c4.store registers refl
      ((none_ended, response.told_new b, registered), refl, ((1, session_in s2.state.key first, is_open_first, (none_ended, λ n. inl refl, refl)), refl))
      (first, (0, omega arith, refl), refl) (omega arith) refl refl refl)
      (one_kept new_row one_ended 3 1001 0 true stored_new (omega arith) (omega arith))
      (stores c4.store c5.store w1 Commits from_commit (committed c4.store c5.store (refl, refl, record { quiet = λ idle. absurd cc; moved = λ busy. refl }) refl refl refl)
      (one_kept new_row one_ended 1001 2001 1 false stored_new (omega arith) (omega arith)) is_opened))

  abbrev from_making : List (Turn (Unit {0}))
  from_making = turn c2 (Elsewhere (response.makes b) Done) c3 ∷ turn c3 (Stores (Calls registers)) c4 ∷ turn c4 (Stores Commits) c5 ∷ from_commit

  history : Leads c0 (before ++ signing ∷ later)
  history =
      stores c0.store c1.store w0 (Calls (Begins for_registration 0)) (turn c1 (Stores (Calls (Begins for_sign_in 0))) c2 ∷ from_making)
      (called c0.store c1.store (Begins for_registration 0) refl (zeros 24, may_register, refl, refl, refl) tt (omega arith) refl refl refl)
      (none_kept none_ended 0 2 1001 0 false (omega arith) (omega arith))
      (stores c1.store c2.store w0 (Calls (Begins for_sign_in 0)) from_making
      (called c1.store c2.store (Begins for_sign_in 0) refl (zeros 24, may_sign_in, refl, refl, refl) tt (omega arith) refl refl refl)
      (none_kept none_ended 0 3 1001 0 false (omega arith) (omega arith)) is_registered)

  none_begun : (x : Begun) → Contains [] x → ⊥
  none_begun x there = let bad : there.0 < 0 = there.1 in omega arith

  begun_none : AreBegun s0.state.key s0.state.rp.rp_id s0.state.next []
  begun_none = record {
    each = λ x there. absurd (none_begun x there);
    given = λ x there. absurd (none_begun x there);
    own = λ x y there. absurd (none_begun x there);
  }

  pub shown : Shown bench_valid bench_public
  shown = record {
    first = c0;
    before = before;
    signing = signing;
    later = later;
    starts = (one.takes_place b).start;
    may_start = record {
      kept = none_kept none_ended 0 1 1001 0 false (omega arith) (omega arith);
      committed = refl;
      named = λ place c is. absurd (none_at place c is);
      begun = begun_none;
      known = λ x e there. absurd (none_begun x there);
    };
    stands_for = record {
      rp = refl;
      policy = refl;
      rows = none_listed;
      next = refl;
      open_sessions = λ x there. absurd (none_begun x there);
    };
    history = history;
    registering = for_registration;
    signing_in = for_sign_in;
    makes = response.makes b;
    signs = response.signs b;
    first_text = first.text;
    second_text = second.text;
    third_text = third.text;
    new = response.created b;
    response = response.response b;
    asked = (refl, refl);
    acts = refl;
    acts_then = refl;
    told = refl;
    row = new_row;
    place = 1;
    found = record { there = there new_row; has_id = response.has_id b };
    signed = response.was_signed b;
  }
