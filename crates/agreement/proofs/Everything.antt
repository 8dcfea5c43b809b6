-- A run in which an event of each kind happens: an honest run at site 1 by responses, all else that may happen there, and the
-- honest run at site 0 by packets.
use Rattle.std.proofs.Common.{◌≡◌, inl, ℕ, suc, List, [], ◌∷◌, ◌++◌, length, Option, None, Some, false, refl, sym, ◌∙◌, ap, subst, arith, Contains}
use Rattle.std.specs.Prelude.{IsSome}
use Rattle.std.specs.FinMap as finite
use Rattle.std.specs.FinMap.{gets}
use Rattle.std.proofs.lemmas.Grind.{common_steps}
use Rattle.std.proofs.lemmas.Option.{same_Some}
use Rattle.std.proofs.lemmas.List.Elements.{All-from_recursion, Contains-push}
use Rattle.cose.specs.Schemes.{Validity}
use Rattle.authdata.specs.Responses as responses
use Rattle.ctap_replies.specs.Replies.{Assertion}
use Rattle.verification.specs.Records as registered_row
use Rattle.site_state.specs.Table.{retired, row_of, signed_in as counted_row}
use Rattle.site_state.specs.Sessions.{Expected, expected_of, for_registration}
use Rattle.authdata.specs.Flags.{is_set, BE}
use Rattle.site.proofs.Kept.{row_changed}
use Rattle.site.specs.Saved.{TableOf, version_of}
use Rattle.site.specs.State as site
use Rattle.site.specs.State.{saved_of}
use Rattle.site.specs.Laws.{after_abandon, after_retire}
use Rattle.authenticator.specs.State.{AuthenticatorState, forgotten}
use Rattle.authenticator.specs.Saved.{SavedOf}
use Rattle.authenticator.specs.Steps.{Entry, Keys}
use Rattle.client.specs.Responses.{response_of}
use Rattle.agreement.specs.Ends.{AuthenticatorEnd}
use Rattle.agreement.specs.Honest.{AcceptsBoth, IsHonestRun, Run}
use Rattle.agreement.specs.World.{Abandons, Asks, AtSite, Begins, BeginsAs, Bounds, Deletes, Done, Event, EventEffect, Expires, Holder, IsRun, Moment, Registers, RegistersBy, Reloads}
use Rattle.agreement.specs.World.{Reopens, Restarts, Retires, SignsIn, SignsInBy, SiteActs, SiteEvent, World, after_delete, with_bound}
use Rattle.agreement.specs.Agreement.{Brings, IsIdeal, WasSigned, message_of}
use Rattle.agreement.specs.Lived as live
use Rattle.agreement.specs.Lived.{Place, TakesPlace, with_holder, with_site}
use Rattle.agreement.specs.Below.{Below, KeepsAlg}
use Rattle.agreement.specs.Shown as shown
use Rattle.agreement.specs.Shown.{FullRun, Happened, Kind, SignedIn}
use Rattle.agreement.proofs.Exchanges.{IsStep}
use Rattle.agreement.proofs.Lived.{after_added, changes_holder, changes_site}
use Rattle.agreement.proofs.Registering as registering
use Rattle.agreement.proofs.SigningIn as signing_in
use Rattle.agreement.proofs.Runs.{agrees, asked, here, idle, registered}
use Rattle.agreement.proofs.Sites as sites
use Rattle.agreement.proofs.Sites.{Registered, new_bytes, registered_by, same_assertion, signed_in_by, succeeds_with_room}

module _ (valid : Validity) (public : Keys) (b : Below valid public) (keeps : KeepsAlg public) (x : Run) (h : IsHonestRun valid public x) (p : Place)
    (t : TakesPlace valid public x h p) where
  abbrev pub a : AcceptsBoth valid public x
  a = agrees valid public b keeps x h

  abbrev pub first : site.SiteState
  first = p.world.site p.site

  abbrev new_holder : Holder
  new_holder = p.world.holder p.holder

  abbrev pub made_holder : Holder
  made_holder = live.holder_made valid public x h p a

  abbrev pub signed_holder : Holder
  signed_holder = live.holder_signed valid public x h p a

  -- ---- what happens at an authenticator that is like the one of the honest run

  abbrev pub asks_first : ℕ → Event
  asks_first k = Asks k x.registering.channel h.honest_registration.decided.asks.message h.honest_registration.decided.consent x.registering.words

  abbrev pub asks_then : ℕ → Event
  asks_then k = Asks k x.signing_in.channel h.honest_sign_in.decided.asks.message h.honest_sign_in.decided.consent x.signing_in.words

  pub makes : (k : ℕ) (w : World) → w.holder k ≡ new_holder → EventEffect valid public w (asks_first k) (with_holder k made_holder w)
  makes k w there =
      let s = registering.stepped valid public b keeps x.registering h.idle h.honest_registration in
      let new = t.start.holders p.holder in (
        record { reply = s.reply; state = x.registering.after.authenticator; signed = made_holder.signed; made = made_holder.made },
        t.ids.0,
        subst (λ (e : AuthenticatorState). IsStep valid public e x.registering.channel h.honest_registration.decided.asks.message
            h.honest_registration.decided.consent x.registering.words s.reply
            x.registering.after.authenticator made_holder.signed made_holder.made) (t.authenticator ∙ sym (ap (λ (g : Holder). g.state) there)) s.step,
        changes_holder k made_holder _ w
            (after_added (w.holder k) x.registering.after.authenticator [] made_holder.signed [] made_holder.made s.reply
            (ap (λ (g : Holder). g.signed) there ∙ new.signed) (ap (λ (g : Holder). g.made) there ∙ new.made)),
      )

  pub asserts : (k : ℕ) (w : World) → w.holder k ≡ made_holder → EventEffect valid public w (asks_then k) (with_holder k signed_holder w)
  asserts k w there =
      let s = signing_in.stepped valid public b x.signing_in (registered valid public b keeps x h).credential 0 (idle valid public b keeps x h) h.honest_sign_in
      (here valid public b keeps x h) (omega arith) (asked valid public b keeps x h) in
      let from : x.signing_in.before.authenticator ≡ (w.holder k).state = ap (λ (e : AuthenticatorEnd). e.authenticator) h.goes_on
      ∙ sym (ap (λ (g : Holder). g.state) there) in (
        record { reply = s.reply; state = x.signing_in.after.authenticator; signed = live.asserted valid public x h p a ∷ []; made = [] },
        t.ids.1,
        subst (λ (e : AuthenticatorState). IsStep valid public e x.signing_in.channel h.honest_sign_in.decided.asks.message h.honest_sign_in.decided.consent
            x.signing_in.words s.reply
            x.signing_in.after.authenticator (live.asserted valid public x h p a ∷ []) []) from s.step,
        changes_holder k signed_holder _ w
            (after_added (w.holder k) x.signing_in.after.authenticator made_holder.signed (live.asserted valid public x h p a ∷ []) made_holder.made
            [] s.reply
            (ap (λ (g : Holder). g.signed) there) (ap (λ (g : Holder). g.made) there)),
      )

  -- ---- what happens at a site that is like the one of the honest run

  changed : (i : ℕ) (e : SiteEvent) (s u : site.SiteState) (w : World) → w.site i ≡ s → SiteActs valid s e u
      → EventEffect valid public w (AtSite i e) (with_site i u w)
  changed i e s u w there acts = (u, subst (λ (z : site.SiteState). SiteActs valid z e u) (sym there) acts, changes_site i u w)

  abbrev registers_by : SiteEvent
  registers_by = RegistersBy x.registering.session x.registering.channel x.registering.packets x.registering.out.client_data

  by_packets : SiteActs valid x.registering.site registers_by x.registered
  by_packets = (
    succeeds_with_room valid x.registering.site x.registering.session x.registering.channel (length x.registering.packets) x.registering.packets
        x.registering.out.client_data a.registers.reply a.registers.accepted,
    h.registered,
  )

  pub by_response : (r : responses.AuthenticatorAttestationResponse) × Registered valid public b x.registering.site x.registering.session r x.registered
  by_response =
      registered_by valid public b x.registering.site x.registered x.registering.session x.registering.channel x.registering.packets
      x.registering.out.client_data by_packets

  abbrev signs_in_by : SiteEvent
  signs_in_by = SignsInBy x.signing_in.session x.signing_in.channel x.signing_in.packets x.signing_in.out.client_data

  signs_by_packets : SiteActs valid x.signing_in.site signs_in_by p.signed_in
  signs_by_packets = ((length x.signing_in.packets, a.signs_in.reply, a.signs_in.accepted), t.after)

  abbrev pub response : responses.AuthenticatorAssertionResponse
  response = live.response valid public x h p a

  pub signs_by_response : sites.SignedIn valid public b x.signing_in.site x.signing_in.session response p.signed_in
  signs_by_response =
      signed_in_by valid public b x.signing_in.site p.signed_in x.signing_in.session x.signing_in.channel x.signing_in.packets
      x.signing_in.out.client_data response signs_by_packets
      (length x.signing_in.packets, a.signs_in.accepted.0, a.signs_in.reply, a.signs_in.accepted.1, a.signs_in.accepted.2, refl)

  -- ---- sign-ins

  abbrev pub row : registered_row.Credential
  row = live.row valid public x h p a

  abbrev entry : Entry
  entry = live.asserted valid public x h p a

  pub found : row_of response.credential x.signing_in.site.rows ≡ Some row
  found =
      let id : response.credential ≡ a.registers.credential.id =
      signing_in.credential_is valid public b x.signing_in (registered valid public b keeps x h).credential 0 (idle valid public b keeps x h) h.honest_sign_in
      (here valid public b keeps x h) (omega arith) (asked valid public b keeps x h) in
      ap (λ c. row_of c x.signing_in.site.rows) id ∙ (here valid public b keeps x h).registered

  found_at : (m : Moment) (i : ℕ) → m.old.site i ≡ x.signing_in.site → row_of response.credential (m.old.site i).rows ≡ Some row
  found_at m i there = ap (λ (s : site.SiteState). row_of response.credential s.rows) there ∙ found

  pub was_signed : (m : Moment) (k : ℕ) → m.old.holder k ≡ signed_holder → WasSigned m.old row.key (message_of response)
  was_signed m k there = record {
    holder = k;
    made = subst (λ (g : Holder). Contains g.made row.key) (sym there) (0, omega arith, refl);
    entry = entry;
    there = subst (λ (g : Holder). Contains g.signed entry) (sym there) (Contains-push made_holder.signed entry);
    under = refl;
    of = refl;
  }

  -- it brings this response and no other
  ideal_at : (m : Moment) (i k : ℕ) → m.old.site i ≡ x.signing_in.site → m.old.holder k ≡ signed_holder
      → ((j n : ℕ) (r : responses.AuthenticatorAssertionResponse) → Brings m.event j n r → (i ≡ j) × (r ≡ response)) → IsIdeal valid m
  ideal_at m i k there held one j n r low tried is_valid was_made =
      let is = one j n r tried.brings in
      let found_here : row_of response.credential (m.old.site i).rows ≡ Some low =
      ap (λ (z : responses.AuthenticatorAssertionResponse). row_of z.credential (m.old.site i).rows) (sym is.1)
      ∙ subst (λ (l : ℕ). row_of r.credential (m.old.site l).rows ≡ Some low) (sym is.0) tried.found in
      let row_is : row ≡ low = same_Some row low (sym (found_at m i there) ∙ found_here) in
      subst (λ (z : responses.AuthenticatorAssertionResponse). WasSigned m.old low.key (message_of z)) (sym is.1)
      (subst (λ (z : registered_row.Credential). WasSigned m.old z.key (message_of response)) row_is (was_signed m k held))

  -- what the packets carry is this response
  one_carried : (j n : ℕ) (r : responses.AuthenticatorAssertionResponse) → Brings (AtSite 0 signs_in_by) j n r → (0 ≡ j) × (r ≡ response)
  one_carried j n r brings =
      let c = brings.1.1 in
      let one : c.2 ≡ a.signs_in.reply =
      same_assertion valid public b x.signing_in.site x.signing_in.session x.signing_in.channel c.0 (length x.signing_in.packets) x.signing_in.packets
      x.signing_in.out.client_data c.1 a.signs_in.accepted.0 c.2 a.signs_in.reply c.3 c.4 a.signs_in.accepted.1 a.signs_in.accepted.2 in
      (brings.0, c.5 ∙ ap (λ (z : Assertion). response_of z x.signing_in.out.client_data) one)

  -- ---- sessions that end, and a credential that is retired

  -- no session is left
  abbrev none_left : site.SiteState → site.SiteState
  none_left s = record s { sessions = record s.sessions { expected = finite.empty } }

  open_there : IsSome (finite.get x.registering.site.sessions.expected x.registering.session)
  open_there = some_of (finite.get x.registering.site.sessions.expected x.registering.session) h.honest_registration.is_open where
    some_of : (o : Option Expected) → for_registration o ≡ Some x.registering.expected → IsSome o
    some_of None e = absurd cc
    some_of (Some o) e = refl

  -- the site after the sign-in, with room for one session more
  abbrev bounded : site.SiteState
  bounded = with_bound (suc p.signed_in.sessions.max_open) p.signed_in

  registered_there : (r : registered_row.Credential) × (row_of response.credential bounded.rows ≡ Some r) × (r.retired ≡ false)
  registered_there =
      let after = signs_by_response.after in
      let count = counted_row after.0.sign_count (is_set after.0.flags BE) in (
        count row,
        ap (λ (s : site.SiteState). row_of response.credential s.rows) after.2
            ∙ row_changed response.credential count x.signing_in.site.rows row (λ r. refl) found,
        refl,
      )

  -- and once the credential is retired
  abbrev retired_there : site.SiteState
  retired_there = after_retire bounded response.credential

  still_there : IsSome (row_of response.credential retired_there.rows)
  still_there =
      let row_is = row_changed response.credential retired bounded.rows registered_there.0 (λ r. refl) registered_there.1 in
      subst (λ (o : Option registered_row.Credential). IsSome o) (sym row_is) refl

  none_there : (n : ℕ) → finite.get (none_left x.registering.site).sessions.expected n ≡ None
  none_there n = grind (arith, gets, common_steps)

  -- ---- the worlds and the moments

  module _ (restarts : (bytes : List ℕ) × TableOf (version_of first.rows) (saved_of first) bytes)
      (reloads : (bytes : List ℕ) × SavedOf (forgotten new_holder.state) bytes × SavedOf new_holder.state bytes) where
    abbrev world : World
    world = record { site = λ i. first; holder = λ k. new_holder }

    abbrev done : World → Event → World → Moment
    done old event new = record { old = old; event = event; end = Done; new = new }

    abbrev m1 : Moment
    m1 = done world (AtSite 1 (Begins p.opening)) (with_site 1 x.registering.site world)

    abbrev m2 : Moment
    m2 = done m1.new (asks_first 1) (with_holder 1 made_holder m1.new)

    abbrev m3 : Moment
    m3 = done m2.new (AtSite 1 (Registers x.registering.session by_response.0)) (with_site 1 x.registered m2.new)

    abbrev m4 : Moment
    m4 = done m3.new (AtSite 1 (Begins h.begins.0)) (with_site 1 x.signing_in.site m3.new)

    abbrev m5 : Moment
    m5 = done m4.new (asks_then 1) (with_holder 1 signed_holder m4.new)

    abbrev m6 : Moment
    m6 = done m5.new (AtSite 1 (SignsIn x.signing_in.session response)) (with_site 1 p.signed_in m5.new)

    -- what a host says of a session: just what the opening asks, so that the site is the same
    abbrev chosen : Expected
    chosen = expected_of first.sessions.next p.opening

    -- a session that is abandoned; and one whose challenge a host chose, which ends by its age
    abbrev m7 : Moment
    m7 = done m6.new (AtSite 3 (Begins p.opening)) (with_site 3 x.registering.site m6.new)

    abbrev m8 : Moment
    m8 = done m7.new (AtSite 3 (Abandons x.registering.session)) (with_site 3 (after_abandon x.registering.site x.registering.session) m7.new)

    abbrev m9 : Moment
    m9 = done m8.new (AtSite 4 (BeginsAs chosen)) (with_site 4 x.registering.site m8.new)

    abbrev m10 : Moment
    m10 = done m9.new (AtSite 4 Expires) (with_site 4 (none_left x.registering.site) m9.new)

    abbrev m11 : Moment
    m11 = done m10.new (AtSite 1 (Bounds (suc p.signed_in.sessions.max_open))) (with_site 1 bounded m10.new)

    abbrev m12 : Moment
    m12 = done m11.new (AtSite 1 Reopens) (with_site 1 bounded m11.new)

    abbrev m13 : Moment
    m13 = done m12.new (AtSite 1 (Retires response.credential)) (with_site 1 retired_there m12.new)

    abbrev m14 : Moment
    m14 = done m13.new (AtSite 1 (Deletes response.credential)) (with_site 1 (after_delete retired_there response.credential) m13.new)

    abbrev m15 : Moment
    m15 = done m14.new (AtSite 2 Restarts) (with_site 2 first m14.new)

    abbrev m16 : Moment
    m16 = done m15.new (Reloads 2) (with_holder 2 new_holder m15.new)

    abbrev m17 : Moment
    m17 = done m16.new (AtSite 0 (Begins p.opening)) (with_site 0 x.registering.site m16.new)

    abbrev m18 : Moment
    m18 = done m17.new (asks_first 0) (with_holder 0 made_holder m17.new)

    abbrev m19 : Moment
    m19 = done m18.new (AtSite 0 registers_by) (with_site 0 x.registered m18.new)

    abbrev m20 : Moment
    m20 = done m19.new (AtSite 0 (Begins h.begins.0)) (with_site 0 x.signing_in.site m19.new)

    abbrev m21 : Moment
    m21 = done m20.new (asks_then 0) (with_holder 0 signed_holder m20.new)

    abbrev m22 : Moment
    m22 = done m21.new (AtSite 0 signs_in_by) (with_site 0 p.signed_in m21.new)

    abbrev earlier : List Moment
    earlier =
        m1 ∷ m2 ∷ m3 ∷ m4 ∷ m5 ∷ m6 ∷ m7 ∷ m8 ∷ m9 ∷ m10 ∷ m11 ∷ m12 ∷ m13 ∷ m14 ∷ m15 ∷ m16 ∷ m17 ∷ m18 ∷ m19 ∷ m20 ∷ m21 ∷ []

    -- ---- the effects

    begins_at : (i : ℕ) (w : World) → w.site i ≡ first → EventEffect valid public w (AtSite i (Begins p.opening)) (with_site i x.registering.site w)
    begins_at i w there = changed i (Begins p.opening) first x.registering.site w there (t.words.0, t.numbers.0, t.begins)

    begins_again_at : (i : ℕ) (w : World) → w.site i ≡ x.registered → EventEffect valid public w (AtSite i (Begins h.begins.0)) (with_site i x.signing_in.site w)
    begins_again_at i w there = changed i (Begins h.begins.0) x.registered x.signing_in.site w there (t.words.1, t.numbers.1, h.begins.1)

    none_open_first : first.sessions ≡ site.none_open first.sessions.max_open first.sessions.next
    none_open_first =
        let e = t.start.sites p.site in λ i. record { expected = e i; next = first.sessions.next; max_open = first.sessions.max_open }

    is_run : IsRun valid public world (earlier ++ m22 ∷ [])
    is_run = (
      refl,
      begins_at 1 world refl,
      (
        refl,
        makes 1 m1.new refl,
        (
          refl,
          changed 1 (Registers x.registering.session by_response.0) x.registering.site x.registered m2.new refl (by_response.1.passes, by_response.1.after),
          (
            refl,
            begins_again_at 1 m3.new refl,
            (
              refl,
              asserts 1 m4.new refl,
              (
                refl,
                changed 1 (SignsIn x.signing_in.session response) x.signing_in.site p.signed_in m5.new refl (signs_by_response.passes, signs_by_response.after),
                (
                  refl,
                  begins_at 3 m6.new refl,
                  (
                    refl,
                    changed 3 (Abandons x.registering.session) x.registering.site (after_abandon x.registering.site x.registering.session) m7.new refl refl,
                    (
                      refl,
                      changed 4 (BeginsAs chosen) first x.registering.site m8.new refl (new_bytes first.sessions.next p.opening (omega (arith, t.numbers.0)) t.words.0, t.begins),
                      (
                        refl,
                        changed 4 Expires x.registering.site (none_left x.registering.site) m9.new refl (record { left = λ n. inl (none_there n); same = refl }),
                        (
                          refl,
                          changed 1 (Bounds (suc p.signed_in.sessions.max_open)) p.signed_in bounded m10.new refl refl,
                          (
                            refl,
                            changed 1 Reopens bounded bounded m11.new refl (record { rp_id = refl; rows = refl; sessions = refl }),
                            (
                              refl,
                              changed 1 (Retires response.credential) bounded retired_there m12.new refl refl,
                              (
                                refl,
                                changed 1 (Deletes response.credential) retired_there (after_delete retired_there response.credential) m13.new refl refl,
                                (
                                  refl,
                                  changed 2 Restarts first first m14.new refl (record {
                                    bytes = restarts.0;
                                    saved = restarts.1;
                                    version = version_of first.rows;
                                    loaded = restarts.1;
                                    rp_id = refl;
                                    none_open = none_open_first;
                                  }),
                                  (refl, (new_holder.state, record { bytes = reloads.0; saved = reloads.1; loaded = reloads.2 }, changes_holder 2 new_holder new_holder m15.new refl), (refl, begins_at 0 m16.new refl, (refl, makes 0 m17.new refl, (refl, changed 0 registers_by x.registering.site x.registered m18.new refl by_packets, (refl, begins_again_at 0 m19.new refl, (refl, asserts 0 m20.new refl, (refl, changed 0 signs_in_by x.signing_in.site p.signed_in m21.new refl signs_by_packets, tt))))))),
                                ),
                              ),
                            ),
                          ),
                        ),
                      ),
                    ),
                  ),
                ),
              ),
            ),
          ),
        ),
      ),
    )

    -- ---- no signature is forged

    quiet : (m : Moment) → ((j n : ℕ) (r : responses.AuthenticatorAssertionResponse) → Brings m.event j n r → ⊥) → IsIdeal valid m
    quiet m none j n r low tried v w = absurd (none j n r tried.brings)

    ideal_response : IsIdeal valid m6
    ideal_response = ideal_at m6 1 1 refl refl (λ j n r brings. (brings.0, sym brings.1.1))

    ideal_packets : IsIdeal valid m22
    ideal_packets = ideal_at m22 0 0 refl refl one_carried

    -- ---- all of it

    signed_in_at : (m : Moment) (i k : ℕ) → m.old.site i ≡ x.signing_in.site → m.old.holder k ≡ signed_holder → Brings m.event i x.signing_in.session response
        → m.end ≡ Done → SignedIn i k m
    signed_in_at m i k there held brings ends = record {
      session = x.signing_in.session;
      response = response;
      row = row;
      accepted = record { tries = record { brings = brings; found = found_at m i there }; done = ends };
      made = subst (λ (g : Holder). Contains g.made row.key) (sym held) (0, omega arith, refl);
    }

    happened : (kind : Kind) → Happened (earlier ++ m22 ∷ []) kind
    happened shown.begins_as = (m9, (8, omega arith, refl), refl, refl, tt)
    happened shown.begins = (m1, (0, omega arith, refl), refl, refl, tt)
    happened shown.abandons = (m8, (7, omega arith, refl), refl, refl, open_there)
    happened shown.retires = (m13, (12, omega arith, refl), refl, refl, registered_there)
    happened shown.deletes = (m14, (13, omega arith, refl), refl, refl, still_there)
    happened shown.signs_in = (m6, (5, omega arith, refl), refl, refl, tt)
    happened shown.signs_in_by_packets = (m22, (21, omega arith, refl), refl, refl, tt)
    happened shown.registers = (m3, (2, omega arith, refl), refl, refl, tt)
    happened shown.registers_by_packets = (m19, (18, omega arith, refl), refl, refl, tt)
    happened shown.expires = (m10, (9, omega arith, refl), refl, refl, (x.registering.session, open_there, none_there x.registering.session))
    happened shown.bounds = (m11, (10, omega arith, refl), refl, refl, λ e. absurd (omega (arith, e)))
    happened shown.restarts = (m15, (14, omega arith, refl), refl, refl, tt)
    happened shown.reopens = (m12, (11, omega arith, refl), refl, refl, tt)
    happened shown.asks = (m2, (1, omega arith, refl), refl, refl, tt)
    happened shown.reloads = (m16, (15, omega arith, refl), refl, refl, tt)

    pub full_run : FullRun valid public
    full_run = record {
      world = world;
      start = record { sites = λ i. t.start.sites p.site; holders = λ k. t.start.holders p.holder };
      before = earlier;
      last = m22;
      is_run = is_run;
      ideal = All-from_recursion (IsIdeal valid) (earlier ++ m22 ∷ []) (quiet m1 (λ j n r e. e.1), (quiet m2 (λ j n r e. e), (quiet m3 (λ j n r e. e.1), (quiet m4 (λ j n r e. e.1), (quiet m5 (λ j n r e. e), (ideal_response, (quiet m7 (λ j n r e. e.1), (quiet m8 (λ j n r e. e.1), (quiet m9 (λ j n r e. e.1), (quiet m10 (λ j n r e. e.1), (quiet m11 (λ j n r e. e.1), (quiet m12 (λ j n r e. e.1), (quiet m13 (λ j n r e. e.1), (quiet m14 (λ j n r e. e.1), (quiet m15 (λ j n r e. e.1), (quiet m16 (λ j n r e. e), (quiet m17 (λ j n r e. e.1), (quiet m18 (λ j n r e. e), (quiet m19 (λ j n r e. e.1), (quiet m20 (λ j n r e. e.1), (quiet m21 (λ j n r e. e), (ideal_packets, tt))))))))))))))))))))));
      each_kind = happened;
      elsewhere = (m6, (5, omega arith, refl), refl, signed_in_at m6 1 1 refl refl (refl, (refl, refl)) refl);
      by_packets = refl;
      signed_in =
          signed_in_at m22 0 0 refl refl
          (refl, (refl, (length x.signing_in.packets, a.signs_in.accepted.0, a.signs_in.reply, a.signs_in.accepted.1, a.signs_in.accepted.2, refl))) refl;
    }
