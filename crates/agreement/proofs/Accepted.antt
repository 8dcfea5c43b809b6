-- An accepted sign-in of a run, and the entries on which it rests.
use Rattle.std.proofs.Common.{◌≡◌, ◌≢◌, ◌<◌, ◌≤◌, ◌⊎◌, ◌^◌, ℕ, List, true, false, Option, Some, None, is_some, IsSome, refl, sym, ◌∙◌, ap, subst}
use Rattle.std.proofs.Common.{arith, inl, inr}
use Rattle.std.specs.Prelude.{Contains}
use Rattle.std.proofs.lemmas.List.Elements.{All-contains, recursion_from_All}
use Rattle.std.proofs.lemmas.Option.{same_Some}
use Rattle.std.specs.FinMap as finite
use Rattle.sha2.specs.Sha256.{sha256}
use Rattle.clientdata.specs.Reading.{seen_of}
use Rattle.clientdata.specs.Serialised.{challenge_text_of}
use Rattle.clientdata.specs.declared.seen.Seen.{Seen}
use Rattle.base64.specs.GeneralPurpose.{IsBytes}
use Rattle.cose.specs.Schemes.{Validity}
use Rattle.authdata.specs.Flags.{is_set, UP, UV}
use Rattle.authdata.specs.declared.profile.Profile.{Profile}
use Rattle.authdata.specs.declared.profile.Profile.TheVariants.{Strict}
use Rattle.authdata.specs.Layout.{AttestedCredential, AuthenticatorData, AuthOf}
use Rattle.authdata.specs.Responses.{AuthenticatorAssertionResponse}
use Rattle.verification.specs.SignIn.{AreUser, PassesSignIn}
use Rattle.verification.specs.Records.{Credential, ExpectedSignIn}
use Rattle.site_state.specs.Table.{row_of}
use Rattle.site_state.proofs.RowLemmas.{found_id}
use Rattle.site_state.specs.Sessions.{ForSignIn, OpensSignIn, challenge_of, sign_in_at}
use Rattle.site.specs.State.{SiteState, judged_sign_in}
use Rattle.site.specs.Laws as site
use Rattle.site.specs.Laws.{Takes}
use Rattle.site.proofs.Goings.{none_there}
use Rattle.authenticator.specs.Laws.{IsSound}
use Rattle.authenticator.specs.Steps.{Entry, Keys, assertion}
use Rattle.agreement.specs.World.{Abandons, Asks, AtSite, Begins, BeginsAs, Bounds, Deletes, Done, Event, EventEffect, EventEnd, Expires, Happens}
use Rattle.agreement.specs.World.{Moment, Registers, RegistersBy, Reloads, Reopens, Restarts, Retires, SignsIn, SignsInBy, SiteEvent, World}
use Rattle.agreement.specs.Agreement.{Agrees, AnswersSession, Brings, BringsTo, DifferInSession, Fits, IsAccepted, IsDeleted, IsFresh, IsIdeal, IsKnown, RestsOnce}
use Rattle.agreement.specs.Agreement.{Consented, RestsOn, Says, ShareNone, WasSigned, message_of, session_in}
use Rattle.agreement.specs.Begun.{BeginsFor, HasOwnChallenges, IsBegun, IsChosen}
use Rattle.agreement.specs.Below.{Below}
use Rattle.agreement.specs.Forgeries.{IsBacked, ShowsForgery}
use Rattle.agreement.proofs.Began.{BegunIn}
use Rattle.agreement.proofs.Sites.{SignedIn, signs_in, takes}
use Rattle.agreement.proofs.Spans.{Spans}
use Rattle.agreement.proofs.Worlds.{Lived, Since}

none_if : (o : Option AttestedCredential) → is_some o ≡ false → o ≡ None
none_if None e = refl
none_if (Some c) e = let bad : true ≡ false = e in absurd cc

pub the_one : {X : Type 0} (o : Option X) → IsSome o → (x : X) × (o ≡ Some x)
the_one None h = let bad : false ≡ true = h in absurd cc
the_one (Some x) h = (x, refl)

clash : (a b after now low : ℕ) → 1 ≤ a → a ≡ b → after ≡ a → after ≤ now → now ≡ low → ((low ≡ 0) × (b ≡ 0)) ⊎ (low < b) → ⊥
clash a b after now low one ab fa le nl = elim [ inl (x, y) ↦ omega arith | inr lt ↦ omega arith ]

-- who is named, by the session or by the response
record Users (by_session by_response : Option (List ℕ)) (user : List ℕ) : Type 0 where
  pub named : (u : List ℕ) → by_session ≡ Some u → u ≡ user
  pub shown : (u : List ℕ) → by_response ≡ Some u → u ≡ user
  pub someone : by_session ≡ None → by_response ≢ None

-- the challenge is the session's number and then words
record ByNumber (n : ℕ) (x : ExpectedSignIn) : Type 0 where
  pub fits : n < 2 ^ 64
  pub words : List ℕ
  pub is : x.challenge ≡ challenge_of n words

-- a session for sign-in is begun so, or as its host says
by_number : (event : SiteEvent) (n : ℕ) (x : ExpectedSignIn) → BeginsFor event n (ForSignIn x) → IsChosen event ⊎ ByNumber n x
by_number (BeginsAs y) n x h = inl tt
by_number (Begins (OpensSignIn user allow uv words)) n x h = inr (record { fits = h.3.0; words = words; is = h.3.1 })
by_number _ n x h = absurd h

not_named : (u : List ℕ) → None ≡ Some u → ⊥
not_named u e = absurd cc

users : (a b : Option (List ℕ)) (user : List ℕ) → AreUser a b user → Users a b user
users None None user h = absurd h
users (Some x) None user h = record {
  named = λ u e. sym (same_Some x u e) ∙ h;
  shown = λ u e. absurd (not_named u e);
  someone = λ e. absurd (not_named x (sym e));
}
users None (Some y) user h = record { named = λ u e. absurd (not_named u e); shown = λ u e. sym (same_Some y u e) ∙ h; someone = λ e f. not_named y (sym f) }
users (Some x) (Some y) user h =
    record { named = λ u e. sym (same_Some x u e) ∙ h.0; shown = λ u e. sym (same_Some y u e) ∙ h.1; someone = λ e. absurd (not_named x (sym e)) }

module _ (valid : Validity) (public : Keys) (b : Below valid public) where
  -- what happened at it
  pub record Accepted (m : Moment) (i n : ℕ) (r : AuthenticatorAssertionResponse) (row : Credential) : Type 0 where
    pub passes : PassesSignIn valid (judged_sign_in (m.old.site i) n r)
    pub auth : AuthenticatorData
    pub spelled : AuthOf (m.old.site i).rp.profile auth r.auth_data
    pub bare : auth.attested ≡ None
    pub after : Credential
    pub id : after.id ≡ r.credential
    pub stored : row_of r.credential (m.new.site i).rows ≡ Some after
    pub count : after.sign_count ≡ auth.sign_count

  record At (m : Moment) (i n : ℕ) (r : AuthenticatorAssertionResponse) : Type 0 where
    pub site : SiteState
    pub signed_in : SignedIn valid public b (m.old.site i) n r site
    pub now : m.new.site i ≡ site

  done_by : (old new : World) (e : Event) (i n : ℕ) (r : AuthenticatorAssertionResponse) → EventEffect valid public old e new → Brings e i n r
      → (s : SiteState) × SignedIn valid public b (old.site i) n r s × (new.site i ≡ s)
  done_by old new (AtSite j e) i n r effect brings =
      subst (λ (l : ℕ). (s : SiteState) × SignedIn valid public b (old.site l) n r s × (new.site l ≡ s)) brings.0
      (effect.0, signs_in valid public b (old.site j) effect.0 e n r effect.1 brings.1, effect.2.now)
  done_by old new (Asks k channel bs consent words) i n r effect brings = absurd brings
  done_by old new (Reloads k) i n r effect brings = absurd brings

  pub accepted : (m : Moment) (i n : ℕ) (r : AuthenticatorAssertionResponse) (row : Credential) → Lived valid public b m → IsAccepted m i n r row
      → Accepted m i n r row
  accepted m i n r row l acc =
      let x = done_by m.old m.new m.event i n r (subst (λ (e : EventEnd). Happens valid public m.old m.event e m.new) acc.done l.happens) acc.tries.brings in
      let passes = x.1.passes in
      let a = passes.1.1.1.1.1.1.1.1.1.1.1.0 in
      let stores = b.sites.stores (m.old.site i) n r x.0 row x.1.after acc.tries.found in
      let same = b.readings.one_value (m.old.site i).rp.profile (m.old.site i).rp.profile stores.0 a.0 r.auth_data stores.1 a.1 in
      record {
        passes = passes;
        auth = a.0;
        spelled = a.1;
        bare = none_if a.0.attested (sym a.1.0.attested_flag ∙ a.2);
        after = _;
        id = found_id r.credential (m.old.site i).rows row acc.tries.found;
        stored = ap (λ s. row_of r.credential s.rows) x.2 ∙ stores.2;
        count = ap (λ (d : AuthenticatorData). d.sign_count) same;
      }

  pub known : (m : Moment) → Lived valid public b m → IsKnown m
  known m l i n r brings end =
      let x = done_by m.old m.new m.event i n r (subst (λ (e : EventEnd). Happens valid public m.old m.event e m.new) end l.happens) brings in
      let step = x.1.passes.1.1.0 in
      let row = the_one (row_of r.credential (m.old.site i).rows) step.0 in
      (row.0, record { tries = record { brings = brings; found = row.1 }; done = end }, (step.1 row.0 row.1).1)

  -- what an entry of its message is
  pub record Matches (a : AuthenticatorData) (r : AuthenticatorAssertionResponse) (e : Entry) : Type 0 where
    pub purpose : e.purpose ≡ assertion
    pub counts : 1 ≤ a.sign_count
    pub present : is_set a.flags UP ≡ true → e.consent.present ≡ true
    pub verified : is_set a.flags UV ≡ true → e.consent.verified ≡ true

  matches : (p : Profile) (a : AuthenticatorData) (r : AuthenticatorAssertionResponse) (e : Entry) → AuthOf p a r.auth_data → a.attested ≡ None
      → e.message ≡ message_of r
      → IsSound e → Matches a r e
  matches p a r e is bare message (inl x) =
      let s = b.readings.one_front Strict p x.auth a x.bytes r.auth_data x.client_data_hash (sha256 r.client_data) x.spelled is (sym x.message ∙ message) in
      record {
        purpose = x.purpose;
        counts = subst (λ (d : AuthenticatorData). 1 ≤ d.sign_count) s.0 x.counts;
        present = λ f. x.present (ap (λ (d : AuthenticatorData). is_set d.flags UP) s.0 ∙ f);
        verified = λ f. x.verified (ap (λ (d : AuthenticatorData). is_set d.flags UV) s.0 ∙ f);
      }
  matches p a r e is bare message (inr x) =
      let s = b.readings.one_front Strict p x.auth a x.bytes r.auth_data x.client_data_hash (sha256 r.client_data) x.spelled is (sym x.message ∙ message) in
      let bad : Some x.attested ≡ None = sym x.full ∙ ap (λ (d : AuthenticatorData). d.attested) s.0 ∙ bare in
      absurd cc

  fresh : (m : Moment) (i n : ℕ) (r : AuthenticatorAssertionResponse) → PassesSignIn valid (judged_sign_in (m.old.site i) n r) → IsFresh m i n r.client_data
  fresh m i n r passes =
      let e = the_one (sign_in_at n (m.old.site i).sessions) passes.0 in
      let x = the_one (seen_of r.client_data) passes.1.1.1.1.0 in
      record {
        expected = e.0;
        session = e.1;
        says = record {
          seen = x.0;
          reads = x.1;
          kind_is = passes.1.1.1.1.1.0 x.0 x.1;
          challenge_is = passes.1.1.1.1.1.1.0 e.0 e.1 x.0 x.1;
          origin = passes.1.1.1.1.1.1.1.0 x.0 x.1;
          framed = passes.1.1.1.1.1.1.1.1.1.0 x.0 x.1;
        };
      }

  pub fits : (m : Moment) → Lived valid public b m → Fits m
  fits m l i n r row acc =
      let a = accepted m i n r row l acc in
      let e = the_one (sign_in_at n (m.old.site i).sessions) a.passes.0 in
      let u = users e.0.user r.user row.user (a.passes.1.1.1.0 e.0 e.1 row acc.tries.found) in
      record {
        fresh = fresh m i n r a.passes;
        expected = e.0;
        session = e.1;
        listed = a.passes.1.0 e.0 e.1;
        named = u.named;
        shown = u.shown;
        someone = u.someone;
      }

  sound_at : (m : Moment) (k : ℕ) (e : Entry) → Lived valid public b m → Contains (m.old.holder k).signed e → IsSound e
  sound_at m k e l there = All-contains IsSound (m.old.holder k).signed e (l.sound.holders k).signed there

  -- where the message was signed by one that made the key
  pub agrees_if_signed : (m : Moment) → Lived valid public b m → (i n : ℕ) (r : AuthenticatorAssertionResponse) (row : Credential) → IsAccepted m i n r row
      → WasSigned m.old row.key (message_of r) → ((e : Entry) × RestsOn m r row e) × ((e : Entry) → RestsOn m r row e → Says m i n r e × Consented m i n e)
  agrees_if_signed m l i n r row acc found =
      let a = accepted m i n r row l acc in
      let matched = matches (m.old.site i).rp.profile a.auth r found.entry a.spelled a.bare found.of (sound_at m found.holder found.entry l found.there) in (
        (found.entry, record { there = (found.holder, found.there); purpose = matched.purpose; key = found.under; message = found.of }),
        λ e rests.
            let x = matches (m.old.site i).rp.profile a.auth r e a.spelled a.bare rests.message (sound_at m rests.there.0 e l rests.there.1) in (
              record {
                auth = a.auth;
                bytes = r.auth_data;
                spelled = a.spelled;
                bare = a.bare;
                message = rests.message;
                rp_id = a.passes.1.1.1.1.1.1.1.1.1.1.1.1.0 a.auth a.spelled;
                after = a.after;
                stored = a.stored;
                sign_count = a.count;
                fresh = fresh m i n r a.passes;
              },
              record {
                present = x.present (a.passes.1.1.1.1.1.1.1.1.1.1.1.1.1.0 a.auth a.spelled);
                verified = λ y is uv. x.verified (a.passes.1.1.1.1.1.1.1.1.1.1.1.1.1.1.0 y is a.auth a.spelled uv);
              },
            ),
      )

  signature_valid : (m : Moment) → Lived valid public b m → (i n : ℕ) (r : AuthenticatorAssertionResponse) (row : Credential) → IsAccepted m i n r row
      → valid row.key (message_of r) r.signature
  signature_valid m l i n r row acc = (accepted m i n r row l acc).passes.1.1.1.1.1.1.1.1.1.1.1.1.1.1.1.0 row acc.tries.found

  pub agrees : (m : Moment) → Lived valid public b m → IsIdeal valid m → Agrees m
  agrees m l ideal i n r row acc made = agrees_if_signed m l i n r row acc (ideal i n r row acc.tries (signature_valid m l i n r row acc) made)

  pub shows_forgery : (m : Moment) → Lived valid public b m → ShowsForgery valid m
  shows_forgery m l =
      let backed : (i n : ℕ) (r : AuthenticatorAssertionResponse) (row : Credential) → IsAccepted m i n r row → WasSigned m.old row.key (message_of r)
      → IsBacked m i n r row = λ i n r row acc signed.
      let x = agrees_if_signed m l i n r row acc signed in
      let says = x.1 x.0.0 x.0.1 in
      (x.0.0, x.0.1, says.0, says.1) in
      record {
        backed = backed;
        shows = λ i n r row acc made not_backed. record {
          made = made;
          is_valid = signature_valid m l i n r row acc;
          unsigned = λ signed. not_backed (backed i n r row acc signed);
        };
      }

  pub share_none : (m : Moment) (between : List Moment) (l : Moment) → Lived valid public b m → Spans valid public b between m.new l → ShareNone m between l
  share_none m between l lm s i n k r t row low am al same kept e rm rl =
      let a = accepted m i n r row lm am in
      let c = accepted l i k t low s.lived al in
      let x = matches (m.old.site i).rp.profile a.auth r e a.spelled a.bare rm.message (sound_at m rm.there.0 e lm rm.there.1) in
      let one = b.readings.one_front (m.old.site i).rp.profile (l.old.site i).rp.profile a.auth c.auth r.auth_data t.auth_data (sha256 r.client_data)
      (sha256 t.client_data) a.spelled c.spelled (sym rm.message
      ∙ rl.message) in
      let later = s.rows i r.credential a.after (recursion_from_All (λ x. IsDeleted i r.credential x → ⊥) between kept) a.stored in
      let is : Some later.now ≡ Some low = sym later.found ∙ ap (λ id. row_of id (l.old.site i).rows) (a.id ∙ same) ∙ al.tries.found in
      let now : later.now.sign_count ≡ low.sign_count = ap (λ (z : Credential). z.sign_count) (same_Some later.now low is) in
      clash a.auth.sign_count c.auth.sign_count a.after.sign_count later.now.sign_count low.sign_count x.counts
      (ap (λ (d : AuthenticatorData). d.sign_count) one.0) a.count later.sign_count now
      (c.passes.1.1.1.1.1.1.1.1.1.1.1.1.1.1.1.1.0 low al.tries.found c.auth c.spelled)

  -- ---- sessions

  takes_by : (old new : World) (e : Event) (i n : ℕ) → EventEffect valid public old e new → AnswersSession e i n → ((j : ℕ) → site.IsFresh (old.site j))
      → Takes (old.site i) (new.site i) n
  takes_by old new (AtSite j e) i n effect answers fresh =
      subst (λ (l : ℕ). Takes (old.site l) (new.site l) n) answers.0
      (subst (λ (z : SiteState). Takes (old.site j) z n) (sym effect.2.now) (takes valid public b (old.site j) effect.0 e n (fresh j) effect.1 answers.1))
  takes_by old new (Asks k channel bs consent words) i n effect answers fresh = absurd answers
  takes_by old new (Reloads k) i n effect answers fresh = absurd answers

  takes_at : (m : Moment) (i n : ℕ) → Lived valid public b m → AnswersSession m.event i n → m.end ≡ Done → Takes (m.old.site i) (m.new.site i) n
  takes_at m i n l answers done =
      takes_by m.old m.new m.event i n (subst (λ (e : EventEnd). Happens valid public m.old m.event e m.new) done l.happens) answers
      (λ j. (l.sound.sites j).fresh)

  pub differ : (m l : Moment) → Lived valid public b m → Since valid public b m.new l → DifferInSession m l
  differ m l lm s i n em el am al =
      let gone = s.goes_on i n (takes_at m i n lm em am).gone in
      let open_now = (takes_at l i n s.lived el al).was_open in
      none_there (finite.get (l.old.site i).sessions.expected n) open_now gone.1

  session_to : (e : SiteEvent) (n : ℕ) (r : AuthenticatorAssertionResponse) → BringsTo e n r → session_in e ≡ Some n
  session_to (SignsIn k q) n r brings = ap Some brings.0
  session_to (SignsInBy k c ps t) n r brings = ap Some brings.0
  session_to (Begins o) n r brings = absurd brings
  session_to (BeginsAs x) n r brings = absurd brings
  session_to (Abandons k) n r brings = absurd brings
  session_to (Retires id) n r brings = absurd brings
  session_to (Deletes id) n r brings = absurd brings
  session_to (Registers k q) n r brings = absurd brings
  session_to (RegistersBy k c ps t) n r brings = absurd brings
  session_to Expires n r brings = absurd brings
  session_to (Bounds k) n r brings = absurd brings
  session_to Restarts n r brings = absurd brings
  session_to Reopens n r brings = absurd brings

  answers_at : (e : Event) (i n : ℕ) (r : AuthenticatorAssertionResponse) → Brings e i n r → AnswersSession e i n
  answers_at (AtSite j e) i n r brings = (brings.0, session_to e n r brings.1)
  answers_at (Asks k channel bs consent words) i n r brings = absurd brings
  answers_at (Reloads k) i n r brings = absurd brings

  -- two sessions of a site that have one challenge are one: where the challenges begin with their numbers, and where a host chose one that is no other's
  one_session : (run : List Moment) (i n k : ℕ) (x y : ExpectedSignIn) → HasOwnChallenges run i → IsBegun i n run (ForSignIn x)
      → IsBegun i k run (ForSignIn y) → x.challenge ≡ y.challenge → n ≡ k
  one_session run i n k x y own first second same = elim (by_number first.begins n x first.expects) [
    | inl chosen ↦ own n k (ForSignIn x) (ForSignIn y) first second chosen same
    | inr number ↦ elim (by_number second.begins k y second.expects) [
      | inl chosen ↦ sym (own k n (ForSignIn y) (ForSignIn x) second first chosen (sym same))
      | inr other ↦ (b.sites.one_number n k number.words other.words number.fits other.fits (sym number.is ∙ same ∙ other.is)).0
    ]
  ]

  -- the session whose challenge the client data have
  pub record Challenged (s : SiteState) (n : ℕ) (r : AuthenticatorAssertionResponse) : Type 0 where
    pub seen : Seen
    pub reads : seen_of r.client_data ≡ Some seen
    pub expected : ExpectedSignIn
    pub there : finite.get s.sessions.expected n ≡ Some (ForSignIn expected)
    pub is : seen.challenge ≡ challenge_text_of expected.challenge
    pub bytes : IsBytes expected.challenge

  challenged : (m : Moment) (i n : ℕ) (r : AuthenticatorAssertionResponse) → Lived valid public b m → PassesSignIn valid (judged_sign_in (m.old.site i) n r)
      → Challenged (m.old.site i) n r
  challenged m i n r l passes =
      let s = l.sound.sites i in
      let e = the_one (sign_in_at n (m.old.site i).sessions) passes.0 in
      let x = the_one (seen_of r.client_data) passes.1.1.1.1.0 in
      let there = b.sites.is_open (m.old.site i) n e.0 e.1 in
      record {
        seen = x.0;
        reads = x.1;
        expected = e.0;
        there = there;
        is = passes.1.1.1.1.1.1.0 e.0 e.1 x.0 x.1;
        bytes = s.bytes n (ForSignIn e.0) there;
      }

  pub rests_once : (run : List Moment) (m l : Moment) → Lived valid public b m → Since valid public b m.new l → BegunIn valid public b run m
      → BegunIn valid public b run l → RestsOnce run m l
  rests_once run m l lm s begun_first begun_second i j n k r t row low am al apart clear own e rm rl =
      let a = accepted m i n r row lm am in
      let c = accepted l j k t low s.lived al in
      let one = b.readings.one_front (m.old.site i).rp.profile (l.old.site j).rp.profile a.auth c.auth r.auth_data t.auth_data (sha256 r.client_data)
      (sha256 t.client_data) a.spelled c.spelled (sym rm.message
      ∙ rl.message) in
      let parties = sym (a.passes.1.1.1.1.1.1.1.1.1.1.1.1.0 a.auth a.spelled) ∙ ap (λ (d : AuthenticatorData). d.rp_id_hash) one.0
      ∙ c.passes.1.1.1.1.1.1.1.1.1.1.1.1.0 c.auth c.spelled in
      let site : i ≡ j = apart parties in
      let same : r.client_data ≡ t.client_data = clear one.2 in
      let x = challenged m i n r lm a.passes in
      let y = challenged l j k t s.lived c.passes in
      let seen : x.seen ≡ y.seen = same_Some x.seen y.seen (sym x.reads ∙ ap seen_of same ∙ y.reads) in
      let challenges : x.expected.challenge ≡ y.expected.challenge =
      b.challenge_texts x.expected.challenge y.expected.challenge x.bytes y.bytes (sym x.is ∙ ap (λ (z : Seen). z.challenge) seen ∙ y.is) in
      let began_first = begun_first i n (ForSignIn x.expected) x.there in
      let began_second = subst (λ (z : ℕ). IsBegun z k run (ForSignIn y.expected)) (sym site) (begun_second j k (ForSignIn y.expected) y.there) in
      let number : n ≡ k =
      one_session run i n k x.expected y.expected (own site) began_first began_second challenges in
      let em = answers_at m.event i n r am.tries.brings in
      let el = answers_at l.event j k t al.tries.brings in
      let el_here : AnswersSession l.event i n =
      subst (λ (z : ℕ). AnswersSession l.event z n) (sym site) (subst (λ (z : ℕ). AnswersSession l.event j z) (sym number) el) in
      differ m l lm s i n em el_here am.done al.done
