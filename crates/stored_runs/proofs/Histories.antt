-- Whatever a site over a store goes through leads to what is committed at the end.
use Rattle.std.proofs.Common.{◌≡◌, ◌<◌, ◌≤◌, ◌+◌, ◌⊎◌, inl, inr, ℕ, Bool, true, false, List, [], ◌∷◌, ◌++◌, refl, sym, ap, ◌∙◌, subst, append-nil, arith}
use Rattle.std.proofs.lemmas.Grind.{common_steps}
use Rattle.std.proofs.lemmas.List.Elements.{Contains-append_cases}
use Rattle.std.specs.Prelude.{Contains, None, Option, Some, if◌then◌else◌, min, nat_lt}
use Rattle.std.specs.FinMap as finite
use Rattle.cose.specs.Schemes.{Validity}
use Rattle.verification.specs.Records.{RelyingParty}
use Rattle.site.specs.State as site
use Rattle.site_stored.specs.State.{StoredState}
use Rattle.authenticator.specs.Steps.{Keys}
use Rattle.agreement.specs.Begun.{SessionsOfAllRuns}
use Rattle.agreement.specs.Dropped.{DropsOfAllRuns}
use Rattle.agreement.specs.Hosts.{HostsRuns}
use Rattle.agreement.specs.Ledger.{LedgerOfAllRuns, world_after}
use Rattle.agreement.specs.Lived.{with_site}
use Rattle.agreement.specs.World.{Happens, IsRun, Moment, SiteEvent, World}
use Rattle.agreement.proofs.Lived.{site_there}
use Rattle.site_rows.specs.Held.{rows_of}
use Rattle.site_rows.specs.declared.ending.Ending.{Ending}
use Rattle.agreement.specs.Agreement.{OfAllRuns}
use Rattle.stored_runs.specs.History.{Abandons, AreBegun, AreNamed, Begins, Begun, Call, Calls, Commits, Deletes, Does, Erases, IsCalled, IsCommitted, IsKept, Kept, Opens, Registers, Retires, RetiresAll, SignsIn, Step, Store, Takes, act_of, begun_by, handed_out, second_of}
use Rattle.stored_runs.specs.Among.{Act, Elsewhere, IsHistory, Plays, Scene, Stores, Told, Turn, beside, done_at, is_committed, kept, scene_after, told_of}
use Rattle.stored_runs.specs.Among.{commits as turn_commits}
use Rattle.stored_runs.specs.Stored.{StandsFor, StoredRuns, told_in}
use Rattle.stored_runs.proofs.Calls.{begins, leads}
use Rattle.stored_runs.proofs.Names.{named_after}
use Rattle.stored_runs.proofs.Opened.{commits, opens, same_placed, up_to}
use Rattle.stored_runs.proofs.Elsewhere.{happens_too, told_as, told_elsewhere}
use Rattle.stored_runs.proofs.Pieces.{Leads, Reaches, after, beside_it, done_alike, here, last_site, own_site, run_joined, told_joined, world_joined}
use Rattle.stored_runs.proofs.Standing.{IsGoing, IsOver, Stands, alike}
use Rattle.stored_runs.proofs.Texts.{Laws, among, one_more, only_one}
use Rattle.stored_runs.proofs.Wider.{plays}

-- what a history keeps: both are kept, under one key and for one rp id, and each text that was handed out is that of a session of its own
pub record Goes {S : Type 0} (s : Store S) : Type 0 where
  pub now : IsKept s.now
  pub committed : IsKept s.committed
  pub named : AreNamed s.now.placed
  pub named_before : AreNamed s.committed.placed
  pub key : s.committed.state.key ≡ s.now.state.key
  pub rp : s.committed.state.rp ≡ s.now.state.rp
  pub begun : AreBegun s.now.state.key s.now.state.rp.rp_id s.now.state.next s.begun

-- a site of a run that stands for a site as it is; and one that stands for what is committed
abbrev pub StandsNow : {S : Type 0} → Store S → site.SiteState → Type 0
StandsNow s t = Stands s.now s.now.state.next s.begun s.second t

abbrev pub next_of : {S : Type 0} → Store S → ℕ
next_of s = min s.now.state.next s.committed.state.reserved

abbrev pub StandsCommitted : {S : Type 0} → Store S → site.SiteState → Type 0
StandsCommitted s t = Stands s.committed (next_of s) s.begun s.second t

less_or_not : (a b : ℕ) → (a < b) ⊎ (b ≤ a)
less_or_not a b = go (nat_lt a b) refl
  where
    go : (t : Bool) → nat_lt a b ≡ t → (a < b) ⊎ (b ≤ a)
    go true is = inl (grind (arith, common_steps, is))
    go false is = inr (grind (arith, common_steps, is))

kept_done : (i : ℕ) (b : Bool) (w : World) (es : List SiteEvent) → (if b then done_at i w es else []) ≡ done_at i w (if b then es else [])
kept_done i true w es = refl
kept_done i false w es = refl

module _ {S : Type 0} (valid : Validity) (public : Keys) (laws : Laws valid) (i : ℕ) where
  -- where all is committed, it is what is now
  whole : (s : Store S) → Goes s → s.committed ≡ s.now → (t : site.SiteState) → StandsNow s t → StandsCommitted s t
  whole s goes same t is =
      alike s.now s.committed s.now.state.next (next_of s) s.begun s.begun s.second s.second t is (ap (λ (k : Kept S). k.state.rp) same)
      (ap (λ (k : Kept S). k.state.policy) same) (ap (λ (k : Kept S). k.placed) same) (ap (λ (k : Kept S). k.ended) same)
      (let e = ap (λ (k : Kept S). k.state.reserved) same in let given = goes.now.given in grind (arith, common_steps)) (omega arith) (λ b there under. there)

  pub stands_for : (s : Store S) → Goes s → (t : site.SiteState) → StandsCommitted s t → StandsFor s t
  stands_for s goes t is = record {
    rp = is.rp;
    policy = is.policy;
    rows = is.rows;
    next = is.next;
    open_sessions = λ b there under fresh within. go b fresh within (is.each b there (let given = goes.begun.given b there in grind (arith, common_steps)));
  } where
    go : (b : Begun) → finite.get s.committed.ended b.number ≡ None → s.second < b.ends → IsGoing t.sessions b ⊎ IsOver s.committed.ended s.second b → IsGoing t.sessions b
    go b fresh within (inl going) = going
    go b fresh within (inr (inl over)) = absurd (omega arith)
    go b fresh within (inr (inr (e, ended, till))) = let no : Some e ≡ None = sym ended ∙ fresh in absurd cc

  -- ---- a call

  module _ (old new : Store S) (c : Call) (goes : Goes old) (called : IsCalled valid old c new) (kept : IsKept new.now) where
    same_begun : begun_by old.now.state c ≡ [] → new.now.state.next ≡ old.now.state.next → AreBegun old.now.state.key old.now.state.rp.rp_id new.now.state.next new.begun
    same_begun none same =
        subst (λ (bs : List Begun). AreBegun old.now.state.key old.now.state.rp.rp_id new.now.state.next bs)
        (sym (called.begun ∙ ap (λ (bs : List Begun). old.begun ++ bs) none ∙ append-nil old.begun))
        (subst (λ (n : ℕ). AreBegun old.now.state.key old.now.state.rp.rp_id n old.begun) (sym same) goes.begun)

    begun_now : (d : Call) → d ≡ c → Does valid old.now d new.now → AreBegun old.now.state.key old.now.state.rp.rp_id new.now.state.next new.begun
    begun_now (Begins o now) is does =
        subst (λ (bs : List Begun). AreBegun old.now.state.key old.now.state.rp.rp_id new.now.state.next bs)
        (sym (called.begun ∙ ap (λ (e : Call). old.begun ++ begun_by old.now.state e) (sym is)))
        (subst (λ (n : ℕ). AreBegun old.now.state.key old.now.state.rp.rp_id n (old.begun ++ begun_by old.now.state (Begins o now))) (sym does.3)
        (one_more old.now.state o now old.begun does.1 goes.begun))
    begun_now (Abandons text now) is does = same_begun (ap (begun_by old.now.state) (sym is)) does.1
    begun_now (Retires id was now) is does = same_begun (ap (begun_by old.now.state) (sym is)) does.1
    begun_now (Deletes id was now) is does = same_begun (ap (begun_by old.now.state) (sym is)) does.1
    begun_now (RetiresAll user ids now) is does = same_begun (ap (begun_by old.now.state) (sym is)) does.2
    begun_now (Erases user ids now) is does = same_begun (ap (begun_by old.now.state) (sym is)) does.2
    begun_now (SignsIn n text r now) is does = same_begun (ap (begun_by old.now.state) (sym is)) does.1
    begun_now (Registers n text r now) is does = same_begun (ap (begun_by old.now.state) (sym is)) does.1

    goes_after : Goes new
    goes_after = record {
      now = kept;
      committed = subst IsKept (sym called.committed) goes.committed;
      named = named_after valid old.now new.now c called.does goes.named;
      named_before = subst (λ (k : Kept S). AreNamed k.placed) (sym called.committed) goes.named_before;
      key = ap (λ (k : Kept S). k.state.key) called.committed ∙ goes.key ∙ sym called.one.key;
      rp = ap (λ (k : Kept S). k.state.rp) called.committed ∙ goes.rp ∙ sym called.one.rp;
      begun = subst (λ (p : RelyingParty). AreBegun new.now.state.key p.rp_id new.now.state.next new.begun) (sym called.one.rp)
          (subst (λ (k : List ℕ). AreBegun k old.now.state.rp.rp_id new.now.state.next new.begun) (sym called.one.key) (begun_now c refl called.does));
    }

    now_after : (t : site.SiteState) → StandsNow old t → Leads valid public i t (act_of c) (StandsNow new)
    now_after t is =
        let there = leads valid public laws i old.now new.now goes.now goes.named called.one old.begun goes.begun old.second t is c called.does called.own called.later in (
          there.0,
          subst (λ (n : ℕ). Stands new.now new.now.state.next new.begun n there.0) (sym called.second)
              (subst (λ (bs : List Begun). Stands new.now new.now.state.next bs (second_of c) there.0) (sym called.begun) there.1),
          there.2,
        )

    -- what is committed stays, and later
    stays_committed : (t : site.SiteState) → StandsCommitted old t → next_of old ≡ next_of new
        → ((b : Begun) → Contains new.begun b → b.number < next_of new → Contains old.begun b) → Leads valid public i t [] (StandsCommitted new)
    stays_committed t is same few =
        here valid public i t (StandsCommitted new)
        (alike old.committed new.committed (next_of old) (next_of new) old.begun new.begun old.second new.second t is (ap (λ (k : Kept S). k.state.rp) called.committed)
        (ap (λ (k : Kept S). k.state.policy) called.committed) (ap (λ (k : Kept S). k.placed) called.committed) (ap (λ (k : Kept S). k.ended) called.committed)
        same (let e = called.second in let le = called.later in omega arith) few)

    none_begins : (t : site.SiteState) → StandsCommitted old t → begun_by old.now.state c ≡ [] → new.now.state.next ≡ old.now.state.next
        → Leads valid public i t [] (StandsCommitted new)
    none_begins t is none same =
        let r = ap (λ (k : Kept S). k.state.reserved) called.committed in
        stays_committed t is (λ k. min (sym same k) (sym r k)) (λ b there under. subst (λ (bs : List Begun). Contains bs b)
        (called.begun ∙ ap (λ (bs : List Begun). old.begun ++ bs) none ∙ append-nil old.begun) there)

    committed_after : (d : Call) → d ≡ c → Does valid old.now d new.now → (t : site.SiteState) → StandsCommitted old t → Leads valid public i t [] (StandsCommitted new)
    committed_after (Abandons text now) is does t at = none_begins t at (ap (begun_by old.now.state) (sym is)) does.1
    committed_after (Retires id was now) is does t at = none_begins t at (ap (begun_by old.now.state) (sym is)) does.1
    committed_after (Deletes id was now) is does t at = none_begins t at (ap (begun_by old.now.state) (sym is)) does.1
    committed_after (RetiresAll user ids now) is does t at = none_begins t at (ap (begun_by old.now.state) (sym is)) does.2
    committed_after (Erases user ids now) is does t at = none_begins t at (ap (begun_by old.now.state) (sym is)) does.2
    committed_after (SignsIn n text r now) is does t at = none_begins t at (ap (begun_by old.now.state) (sym is)) does.1
    committed_after (Registers n text r now) is does t at = none_begins t at (ap (begun_by old.now.state) (sym is)) does.1
    committed_after (Begins o now) is does t at = go (less_or_not old.now.state.next old.committed.state.reserved)
      where
        r : new.committed.state.reserved ≡ old.committed.state.reserved
        r = ap (λ (k : Kept S). k.state.reserved) called.committed

        more : new.begun ≡ old.begun ++ begun_by old.now.state (Begins o now)
        more = called.begun ∙ ap (λ (e : Call). old.begun ++ begun_by old.now.state e) (sym is)

        second : new.second ≡ now
        second = called.second ∙ ap second_of (sym is)

        later : old.second ≤ now
        later = let le = called.later in let e = called.second in let f = second in omega arith

        go : (old.now.state.next < old.committed.state.reserved) ⊎ (old.committed.state.reserved ≤ old.now.state.next) → Leads valid public i t [] (StandsCommitted new)
        go (inl below) =
            let here_too = alike old.committed old.committed (next_of old) old.now.state.next old.begun old.begun old.second old.second t at refl refl refl refl
            (grind (arith, common_steps, below)) (omega arith) (λ b there under. there) in
            let there = begins valid public i old.now goes.now old.begun goes.begun old.second old.committed t o now here_too later does.0 in (
              there.0,
              alike old.committed new.committed (old.now.state.next + 1) (next_of new) (old.begun ++ begun_by old.now.state (Begins o now)) new.begun now new.second there.0 there.1
                  (ap (λ (k : Kept S). k.state.rp) called.committed) (ap (λ (k : Kept S). k.state.policy) called.committed) (ap (λ (k : Kept S). k.placed) called.committed)
                  (ap (λ (k : Kept S). k.ended) called.committed) (let e = r in let n = does.3 in grind (arith, common_steps, below)) (let e = second in omega arith)
                  (λ b here under. subst (λ (bs : List Begun). Contains bs b) more here),
              there.2,
            )
        go (inr above) =
            let e = r in let n = does.3 in
            stays_committed t at (grind (arith, common_steps, above))
            (λ b here under. elim (Contains-append_cases old.begun (begun_by old.now.state (Begins o now)) b (subst (λ (bs : List Begun). Contains bs b) more here)) [
              | inl before ↦ before
              | inr last ↦ let number : old.now.state.next ≡ b.number = ap (λ (d : Begun). d.number) (only_one _ b last) in absurd (grind (arith, common_steps, under, number, above))
            ])

  -- ---- a commit, and an open

  -- all is committed
  goes_on : (old new : Store S) (cs : List Begun) → Goes old → IsKept new.now → AreNamed new.now.placed → new.committed ≡ new.now → new.begun ≡ cs → new.now.state.key ≡ old.now.state.key
      → new.now.state.rp.rp_id ≡ old.now.state.rp.rp_id → ((b : Begun) → Contains cs b → Contains old.begun b × (b.number < new.now.state.next)) → Goes new
  goes_on old new cs goes kept named committed begun key rp_id few = record {
    now = kept;
    committed = subst IsKept (sym committed) kept;
    named = named;
    named_before = subst (λ (k : Kept S). AreNamed k.placed) (sym committed) named;
    key = ap (λ (k : Kept S). k.state.key) committed;
    rp = ap (λ (k : Kept S). k.state.rp) committed;
    begun = subst (λ (bs : List Begun). AreBegun new.now.state.key new.now.state.rp.rp_id new.now.state.next bs) (sym begun)
        (subst (λ (p : List ℕ). AreBegun new.now.state.key p new.now.state.next cs) (sym rp_id)
        (subst (λ (k : List ℕ). AreBegun k old.now.state.rp.rp_id new.now.state.next cs) (sym key) (record {
          each = λ b there. goes.begun.each b (few b there).0;
          given = λ b there. (few b there).1;
          own = λ b c there here_too. goes.begun.own b c (few b there).0 (few c here_too).0;
        })));
  }

  commit_key : (old new : Kept S) → IsCommitted old new → new.state.key ≡ old.state.key
  commit_key old new is = go old.state.is_pending refl
    where
      go : (b : Bool) → old.state.is_pending ≡ b → new.state.key ≡ old.state.key
      go false idle = ap (λ (s : StoredState S). s.key) (is.2.quiet idle)
      go true busy = ap (λ (s : StoredState S). s.key) (is.2.moved busy)

  commit_rp_id : (old new : Kept S) → IsCommitted old new → new.state.rp.rp_id ≡ old.state.rp.rp_id
  commit_rp_id old new is = go old.state.is_pending refl
    where
      go : (b : Bool) → old.state.is_pending ≡ b → new.state.rp.rp_id ≡ old.state.rp.rp_id
      go false idle = ap (λ (s : StoredState S). s.rp.rp_id) (is.2.quiet idle)
      go true busy = ap (λ (s : StoredState S). s.rp.rp_id) (is.2.moved busy)

  commit_next : (old new : Kept S) → IsCommitted old new → old.state.next ≤ new.state.next
  commit_next old new is = go old.state.is_pending refl
    where
      go : (b : Bool) → old.state.is_pending ≡ b → old.state.next ≤ new.state.next
      go false idle = let e = ap (λ (s : StoredState S). s.next) (is.2.quiet idle) in omega arith
      go true busy = let e = ap (λ (s : StoredState S). s.next) (is.2.moved busy) in grind (arith, common_steps, e)

  handed : (old : Store S) (b : Begun) → Contains (handed_out old.committed old.begun) b → Contains old.begun b × (b.number < old.committed.state.reserved)
  handed old b there =
      let is = among (λ c. nat_lt c.number old.committed.state.reserved) old.begun b there in
      (is.0, let t = is.1 in grind (arith, common_steps, t))

  -- ---- steps of the store

  abbrev Stood : Bool → Store S → site.SiteState → Type 0
  Stood true s t = StandsNow s t
  Stood false s t = StandsCommitted s t

  both_stand : (b : Bool) (s : Store S) → Goes s → s.committed ≡ s.now → (t : site.SiteState) → StandsNow s t → Stood b s t
  both_stand true s goes same t is = is
  both_stand false s goes same t is = whole s goes same t is

  calls : (b : Bool) (old next : Store S) (c : Call) (s : site.SiteState) (goes : Goes old) → Stood b old s → (called : IsCalled valid old c next) → IsKept next.now
      → Leads valid public i s (if b then act_of c else []) (Stood b next)
  calls true old next c s goes at called kept = now_after old next c goes called kept s at
  calls false old next c s goes at called kept = committed_after old next c goes called kept c refl called.does s at

  -- all is committed then
  record IsLedOn (s : site.SiteState) (next : Store S) : Type 0 where
    pub goes : Goes next
    pub committed : next.committed ≡ next.now
    pub leads : Leads valid public i s [] (StandsNow next)

  commit : (old next : Store S) (s : site.SiteState) → Goes old → StandsNow old s → Takes valid old Commits next → IsKept next.now → IsLedOn s next
  commit old next s goes at h kept =
      let is = h.1 in
      let up = commit_next old.now next.now h.0 in
      record {
        goes = goes_on old next old.begun goes kept (subst AreNamed (sym h.0.0) goes.named) is.committed is.begun (commit_key old.now next.now h.0) (commit_rp_id old.now next.now h.0)
            (λ b there. (there, let below = goes.begun.given b there in omega arith));
        committed = is.committed;
        leads = commits valid public i old.now next.now goes.now kept h.0 old.begun next.begun old.second next.second s at is.second
            (λ b there. let before = subst (λ (bs : List Begun). Contains bs b) is.begun there in (before, goes.begun.given b before));
      }

  find_all : (old next : Store S) (s : site.SiteState) → Goes old → StandsNow old s → Takes valid old (Opens true) next → IsKept next.now → IsLedOn s next
  find_all old next s goes at h kept =
      let is = h.1 in
      let mid = h.0.0 in
      let up = commit_next old.now mid h.0.1 in
      let reserved = up_to valid public laws.stored i mid next.now h.0.2 kept h.0.3 in
      let under = h.0.2.given in
      record {
        goes = goes_on old next old.begun goes kept
            (subst AreNamed (same_placed valid public laws.stored i mid next.now h.0.2 kept h.0.3) (subst AreNamed (sym h.0.1.0) goes.named)) is.committed is.begun
            (h.0.3.key ∙ commit_key old.now mid h.0.1) (h.0.3.rp_id ∙ commit_rp_id old.now mid h.0.1)
            (λ b there. (there, let below = goes.begun.given b there in omega arith));
        committed = is.committed;
        leads = after valid public i s [] [] (Stands mid mid.state.next old.begun old.second) (StandsNow next)
            (commits valid public i old.now mid goes.now h.0.2 h.0.1 old.begun old.begun old.second old.second s at refl (λ b there. (there, goes.begun.given b there)))
            (λ u here_too. opens valid public laws.stored i mid next.now h.0.2 kept h.0.3 mid.state.next old.begun next.begun old.second next.second u here_too under is.second
            (λ b there. let before = subst (λ (bs : List Begun). Contains bs b) is.begun there in (before, let below = goes.begun.given b before in omega arith)));
      }

  find_committed : (old next : Store S) (s : site.SiteState) → Goes old → StandsCommitted old s → Takes valid old (Opens false) next → IsKept next.now → IsLedOn s next
  find_committed old next s goes at h kept =
      let is = h.1 in
      let reserved = up_to valid public laws.stored i old.committed next.now goes.committed kept h.0 in
      record {
        goes = goes_on old next (handed_out old.committed old.begun) goes kept
            (subst AreNamed (same_placed valid public laws.stored i old.committed next.now goes.committed kept h.0) goes.named_before) is.committed is.begun (h.0.key ∙ goes.key) (h.0.rp_id ∙ ap (λ (p : RelyingParty). p.rp_id) goes.rp)
            (λ b there. let is_among = handed old b there in (is_among.0, let below = is_among.1 in omega arith));
        committed = is.committed;
        leads = opens valid public laws.stored i old.committed next.now goes.committed kept h.0 (next_of old) old.begun next.begun old.second next.second s at (grind (arith, common_steps)) is.second
            (λ b there. let is_among = handed old b (subst (λ (bs : List Begun). Contains bs b) is.begun there) in
            (is_among.0, let given = goes.begun.given b is_among.0 in let below = is_among.1 in grind (arith, common_steps)));
      }

  -- ---- a history

  -- by an act: whatever is to be committed stands as it is, and else as it was committed
  record Stepped (rest : Bool) (old : Scene S) (act : Act) (new : Scene S) (s : site.SiteState) : Type 0 where
    pub goes : Goes new.store
    pub acts : List SiteEvent
    pub leads : Leads valid public i s acts (Stood rest new.store)
    pub same : new.world ≡ old.world
    pub told : (w : World) → told_of i w rest act ≡ done_at i w acts

  whole_step : (rest : Bool) (old new : Scene S) (act : Act) (s : site.SiteState) → ((w : World) → told_of i w rest act ≡ []) → new.world ≡ old.world → IsLedOn s new.store
      → Stepped rest old act new s
  whole_step rest old new act s none same all = record {
    goes = all.goes;
    acts = [];
    leads = (all.leads.0, both_stand rest new.store all.goes all.committed all.leads.0 all.leads.1, all.leads.2);
    same = same;
    told = none;
  }

  step : (rest : Bool) (old new : Scene S) (it : Step) (s : site.SiteState) → Goes old.store → Stood (turn_commits (Stores it) rest) old.store s
      → Plays valid public i old (Stores it) new → Stepped rest old (Stores it) new s
  step rest old new (Calls c) s goes at h = record {
    goes = goes_after old.store new.store c goes h.0 h.1;
    acts = if rest then act_of c else [];
    leads = calls rest old.store new.store c s goes at h.0 h.1;
    same = h.2;
    told = λ w. kept_done i rest w (act_of c);
  }
  step rest old new Commits s goes at h = whole_step rest old new (Stores Commits) s (λ w. refl) h.2 (commit old.store new.store s goes at h.0 h.1)
  step rest old new (Opens true) s goes at h = whole_step rest old new (Stores (Opens true)) s (λ w. refl) h.2 (find_all old.store new.store s goes at h.0 h.1)
  step rest old new (Opens false) s goes at h = whole_step rest old new (Stores (Opens false)) s (λ w. refl) h.2 (find_committed old.store new.store s goes at h.0 h.1)

  -- from a world in which site i stands for the store
  record RunsOn (w : World) (last : Scene S) (list : List Told) : Type 0 where
    pub run : List Moment
    pub is_run : IsRun valid public w run
    pub site : site.SiteState
    pub stands_for : StandsFor last.store site
    pub end : world_after w run ≡ with_site i site last.world
    pub told : told_in i run ≡ list

  -- by one act, and then by the rest
  then_on : (w v : World) (s u : site.SiteState) (acts : List SiteEvent) (end : Scene S) (before more : List Told) → w ≡ with_site i s v → before ≡ done_at i v acts
      → Reaches valid public w i u acts → RunsOn (with_site i u v) end more → RunsOn w end (before ++ more)
  then_on w v s u acts end before more is told first rest = record {
    run = first.run ++ rest.run;
    is_run = run_joined valid public w first.run rest.run first.is_run (subst (λ (x : World). IsRun valid public x rest.run) (sym there) rest.is_run);
    site = rest.site;
    stands_for = rest.stands_for;
    end = world_joined w first.run rest.run ∙ ap (λ (x : World). world_after x rest.run) there ∙ rest.end;
    told =
        told_joined i first.run rest.run ∙ ap (λ ts. ts ++ told_in i rest.run) (first.told ∙ same_done ∙ sym told)
        ∙ ap (λ ts. before ++ ts) rest.told;
  } where
    there : world_after w first.run ≡ with_site i u v
    there = first.end ∙ ap (with_site i u) is ∙ last_site i s u v

    same_done : done_at i w acts ≡ done_at i v acts
    same_done = done_alike i acts w v (ap (beside i) is ∙ beside_it i s v)

  -- from whatever world in which site i stands for the store of a scene
  abbrev RunsFrom : Scene S → List (Turn S) → Type 0
  RunsFrom first turns =
      (w : World) (s : site.SiteState) → w ≡ with_site i s first.world → Goes first.store → Stood (is_committed turns) first.store s
      → RunsOn w (scene_after first turns) (kept i turns)

  by_one : (old new : Scene S) (act : Act) (turns : List (Turn S)) → Plays valid public i old act new → RunsFrom new turns → (w : World) (s : site.SiteState)
      → w ≡ with_site i s old.world → Goes old.store → Stood (turn_commits act (is_committed turns)) old.store s
      → RunsOn w (scene_after new turns) (told_of i old.world (is_committed turns) act ++ kept i turns)
  by_one old new (Stores it) turns h more w s is goes at =
      let stepped = step (is_committed turns) old new it s goes at h in
      let u = stepped.leads.0 in
      then_on w new.world s u stepped.acts (scene_after new turns) (told_of i old.world (is_committed turns) (Stores it)) (kept i turns)
      (is ∙ ap (with_site i s) (sym stepped.same))
      (ap (λ (x : World). told_of i x (is_committed turns) (Stores it)) (sym stepped.same) ∙ stepped.told new.world)
      (stepped.leads.2 w (ap (λ (x : World). x.site i) is ∙ site_there i s old.world))
      (more (with_site i u new.world) u refl stepped.goes stepped.leads.1)
  by_one old new (Elsewhere e end) turns h more w s is goes at =
      let on = more (with_site i s new.world) s refl (subst Goes (sym h.2) goes) (subst (λ (x : Store S). Stood (is_committed turns) x s) (sym h.2) at) in
      record {
        run = record { old = w; event = e; end = end; new = with_site i s new.world } ∷ on.run;
        is_run = (
          refl,
          subst (λ (x : World). Happens valid public x e end (with_site i s new.world)) (sym is)
              (happens_too i s valid public old.world new.world e end h.0 h.1),
          on.is_run,
        );
        site = on.site;
        stands_for = on.stands_for;
        end = on.end;
        told =
            ap (λ (ts : List Told). ts ++ told_in i on.run)
            (told_elsewhere i e end w h.0 ∙ ap (told_as e end) (ap (beside i) is ∙ beside_it i s old.world))
            ∙ ap (λ (ts : List Told). told_as e end (beside i old.world) ++ ts) on.told;
      }

  follows : {I : Type 0} (narrow : I → Validity) → HostsRuns narrow valid public → (turns : List (Turn S)) (first : Scene S) → IsHistory narrow valid public i first turns
      → RunsFrom first turns
  follows narrow hosts [] first h = λ w s is goes at. record { run = []; is_run = tt; site = s; stands_for = stands_for first.store goes s at; end = is; told = refl }
  follows narrow hosts (turn ∷ turns) first h =
      subst (λ (x : Scene S). RunsFrom x (turn ∷ turns)) h.0
      (by_one turn.old turn.new turn.act turns (plays narrow valid public hosts h.1.0 h.1.1 i turn.old turn.new turn.act h.1.2)
      (follows narrow hosts turns turn.new h.2))

pub stored : {I : Type 0} (S : Type 0) (narrow : I → Validity) (valid : Validity) (public : Keys) → Laws valid → HostsRuns narrow valid public → OfAllRuns valid public
    → LedgerOfAllRuns valid public → DropsOfAllRuns valid public → SessionsOfAllRuns valid public → StoredRuns S narrow valid public
stored {I} S narrow valid public laws hosts all ledger drops sessions i first turns starts is h = (
  record { run = there.run; is_run = there.is_run; site = there.site; stands_for = there.stands_for; end = there.end; told = there.told },
  λ w before begins_so is_before same.
      let run = run_joined valid public w before there.run is_before (subst (λ (x : World). IsRun valid public x there.run) (sym same) there.is_run) in
      record {
        agreement = all w (before ++ there.run) begins_so run;
        ledger = λ past later parts. ledger w past later begins_so (subst (IsRun valid public w) parts run);
        sessions = λ past later parts j n e. sessions w past later begins_so (subst (IsRun valid public w) parts run) j n e;
        dropped = drops w (before ++ there.run) run;
      },
)
  where
    goes : Goes first.store
    goes = record {
      now = starts.kept;
      committed = subst IsKept (sym starts.committed) starts.kept;
      named = starts.named;
      named_before = subst (λ (k : Kept S). AreNamed k.placed) (sym starts.committed) starts.named;
      key = ap (λ (k : Kept S). k.state.key) starts.committed;
      rp = ap (λ (k : Kept S). k.state.rp) starts.committed;
      begun = starts.begun;
    }

    reserved : first.store.now.state.next ≤ first.store.committed.state.reserved
    reserved = let given = starts.kept.given in let e = ap (λ (k : Kept S). k.state.reserved) starts.committed in omega arith

    going_or_over : (b : Begun) → Contains first.store.begun b → (o : Option Ending) → finite.get first.store.now.ended b.number ≡ o → (late : Bool) → nat_lt first.store.second b.ends ≡ late
        → IsGoing (first.world.site i).sessions b ⊎ IsOver first.store.now.ended first.store.second b
    going_or_over b there (Some e) ended late time = inr (inr (e, ended, starts.known b e there ended))
    going_or_over b there None ended false time = inr (inl (grind (arith, common_steps, time)))
    going_or_over b there None ended true time =
        let given = starts.begun.given b there in
        let under = reserved in
        inl (is.open_sessions b there (omega arith) (ap (λ (k : Kept S). finite.get k.ended b.number) starts.committed ∙ ended) (grind (arith, common_steps, time)))

    stands : StandsNow first.store (first.world.site i)
    stands = record {
      rp = is.rp ∙ ap (λ (k : Kept S). k.state.rp) starts.committed;
      policy = is.policy ∙ ap (λ (k : Kept S). k.state.policy) starts.committed;
      rows = is.rows ∙ ap (λ (k : Kept S). rows_of k.placed) starts.committed;
      next = is.next ∙ (let under = reserved in grind (arith, common_steps, under));
      each = λ b there below. going_or_over b there (finite.get first.store.now.ended b.number) refl (nat_lt first.store.second b.ends) refl;
    }

    there : RunsOn valid public laws i first.world (scene_after first turns) (kept i turns)
    there = follows valid public laws i narrow hosts turns first h first.world (first.world.site i) (sym (own_site i first.world)) goes
        (both_stand valid public laws i (is_committed turns) first.store goes starts.committed (first.world.site i) stands)
