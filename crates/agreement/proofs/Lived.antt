-- An honest run is a run of a world.
use Rattle.std.proofs.Common.{◌≡◌, ◌≢◌, inl, inr, ℕ, List, [], ◌∷◌, ◌++◌, length, Some, refl, sym, ◌∙◌, ap, subst, arith, Contains}
use Rattle.std.specs.Prelude.{if◌then◌else◌}
use Rattle.std.proofs.lemmas.Bool.{eq-eqb}
use Rattle.std.proofs.lemmas.Bool.Decides.{eqb_tells}
use Rattle.std.proofs.lemmas.Option.{same_Some}
use Rattle.std.proofs.lemmas.List.Elements.{All-from_recursion, Contains-push}
use Rattle.cose.specs.Schemes.{Validity}
use Rattle.cose.specs.declared.key.CoseKey.{CoseKey}
use Rattle.authdata.specs.Responses as responses
use Rattle.ctap_replies.specs.Replies.{Assertion}
use Rattle.verification.specs.Records as registered_row
use Rattle.site_state.specs.Table.{row_of}
use Rattle.site.specs.State as site
use Rattle.authenticator.specs.State.{AuthenticatorState}
use Rattle.authenticator.specs.Steps.{Entry, Keys}
use Rattle.client.specs.Responses.{response_of}
use Rattle.agreement.specs.Ends.{AuthenticatorEnd}
use Rattle.agreement.specs.Honest.{AcceptsBoth, IsHonestRun, Run}
use Rattle.agreement.specs.World.{SiteActs, Begins, ChangesHolder, ChangesSite, EventEffect, Holder, Moment, RegistersBy, SignsInBy, World, after_call}
use Rattle.agreement.specs.Agreement.{IsIdeal, Tries, WasSigned, message_of}
use Rattle.agreement.specs.Lived as live
use Rattle.agreement.specs.Lived.{Lives, Place, TakesPlace, with_holder, with_site}
use Rattle.agreement.specs.Below.{Below, KeepsAlg}
use Rattle.agreement.proofs.Exchanges.{IsStep}
use Rattle.agreement.proofs.Registering as registering
use Rattle.agreement.proofs.SigningIn as signing_in
use Rattle.agreement.proofs.Runs.{agrees, asked, here, idle, registered}
use Rattle.agreement.proofs.Sites.{same_assertion, succeeds_with_room}

-- ---- a world in which one is changed

pub site_there : (i : ℕ) (s : site.SiteState) (w : World) → (with_site i s w).site i ≡ s
site_there i s w = ap (λ b. if b then s else w.site i) (eq-eqb i i refl)

pub changes_site : (i : ℕ) (s : site.SiteState) (w : World) → ChangesSite w (with_site i s w) i s
changes_site i s w = record { now = site_there i s w; others = λ j apart. other j apart; holders = λ k. refl } where
  other : (j : ℕ) → j ≢ i → (with_site i s w).site j ≡ w.site j
  other j apart = elim (eqb_tells j i) [
    | inl same ↦ absurd (apart same.1)
    | inr x ↦ ap (λ b. if b then s else w.site j) x.0
  ]

pub holder_there : (k : ℕ) (h : Holder) (w : World) → (with_holder k h w).holder k ≡ h
holder_there k h w = ap (λ b. if b then h else w.holder k) (eq-eqb k k refl)

pub changes_holder : (k : ℕ) (h g : Holder) (w : World) → h ≡ g → ChangesHolder w (with_holder k h w) k g
changes_holder k h g w same = record { now = holder_there k h w ∙ same; others = λ j apart. other j apart; sites = λ i. refl } where
  other : (j : ℕ) → j ≢ k → (with_holder k h w).holder j ≡ w.holder j
  other j apart = elim (eqb_tells j k) [
    | inl same ↦ absurd (apart same.1)
    | inr x ↦ ap (λ b. if b then h else w.holder j) x.0
  ]

-- a call adds to what an authenticator has signed and made
pub after_added : (h : Holder) (new : AuthenticatorState) (before signed : List Entry) (made more : List CoseKey) (reply : List ℕ) → h.signed ≡ before
    → h.made ≡ made
    → record { state = new; signed = before ++ signed; made = made ++ more } ≡ after_call h
    (record { reply = reply; state = new; signed = signed; made = more })
after_added h new before signed made more reply s m = λ i. record { state = new; signed = sym s i ++ signed; made = sym m i ++ more }

module _ (valid : Validity) (public : Keys) (b : Below valid public) (keeps : KeepsAlg public) (x : Run) (h : IsHonestRun valid public x) (p : Place)
    (t : TakesPlace valid public x h p) where
  abbrev a : AcceptsBoth valid public x
  a = agrees valid public b keeps x h

  abbrev i : ℕ
  i = p.site

  abbrev k : ℕ
  k = p.holder

  abbrev first : Moment
  first = live.moment_begins valid public x h p a

  abbrev second : Moment
  second = live.moment_makes valid public x h p a

  abbrev third : Moment
  third = live.moment_registers valid public x h p a

  abbrev fourth : Moment
  fourth = live.moment_begins_again valid public x h p a

  abbrev fifth : Moment
  fifth = live.moment_asserts valid public x h p a

  abbrev sixth : Moment
  sixth = live.moment_signs_in valid public x h p a

  abbrev made_holder : Holder
  made_holder = live.holder_made valid public x h p a

  abbrev signed_holder : Holder
  signed_holder = live.holder_signed valid public x h p a

  -- ---- the effects

  begun : EventEffect valid public first.old first.event first.new
  begun = (x.registering.site, (t.words.0, t.numbers.0, t.begins), changes_site i x.registering.site p.world)

  made : EventEffect valid public second.old second.event second.new
  made =
      let s = registering.stepped valid public b keeps x.registering h.idle h.honest_registration in
      let new = t.start.holders k in (
        record { reply = s.reply; state = x.registering.after.authenticator; signed = made_holder.signed; made = made_holder.made },
        t.ids.0,
        subst (λ (e : AuthenticatorState). IsStep valid public e x.registering.channel h.honest_registration.decided.asks.message
            h.honest_registration.decided.consent x.registering.words s.reply
            x.registering.after.authenticator made_holder.signed made_holder.made) t.authenticator s.step,
        changes_holder k made_holder _ first.new
            (after_added (p.world.holder k) x.registering.after.authenticator [] made_holder.signed [] made_holder.made s.reply new.signed new.made),
      )

  registration_taken : EventEffect valid public third.old third.event third.new
  registration_taken =
      let there : third.old.site i ≡ x.registering.site = site_there i x.registering.site p.world in (
        x.registered,
        subst (λ (s : site.SiteState). SiteActs valid s
            (RegistersBy x.registering.session x.registering.channel x.registering.packets x.registering.out.client_data) x.registered) (sym there) (
              succeeds_with_room valid x.registering.site x.registering.session x.registering.channel (length x.registering.packets) x.registering.packets
                  x.registering.out.client_data a.registers.reply a.registers.accepted,
              h.registered,
            ),
        changes_site i x.registered third.old,
      )

  begun_again : EventEffect valid public fourth.old fourth.event fourth.new
  begun_again =
      let there : fourth.old.site i ≡ x.registered = site_there i x.registered third.old in (
        x.signing_in.site,
        subst (λ (s : site.SiteState). SiteActs valid s (Begins h.begins.0) x.signing_in.site) (sym there) (t.words.1, t.numbers.1, h.begins.1),
        changes_site i x.signing_in.site fourth.old,
      )

  asserted : EventEffect valid public fifth.old fifth.event fifth.new
  asserted =
      let s = signing_in.stepped valid public b x.signing_in (registered valid public b keeps x h).credential 0 (idle valid public b keeps x h) h.honest_sign_in
      (here valid public b keeps x h) (omega arith) (asked valid public b keeps x h) in
      let there : fifth.old.holder k ≡ made_holder = holder_there k made_holder first.new in
      let from : x.signing_in.before.authenticator ≡ (fifth.old.holder k).state = ap (λ (e : AuthenticatorEnd). e.authenticator) h.goes_on
      ∙ sym (ap (λ (g : Holder). g.state) there) in (
        record { reply = s.reply; state = x.signing_in.after.authenticator; signed = live.asserted valid public x h p a ∷ []; made = [] },
        t.ids.1,
        subst (λ (e : AuthenticatorState). IsStep valid public e x.signing_in.channel h.honest_sign_in.decided.asks.message h.honest_sign_in.decided.consent
            x.signing_in.words s.reply
            x.signing_in.after.authenticator (live.asserted valid public x h p a ∷ []) []) from s.step,
        changes_holder k signed_holder _ fifth.old
            (after_added (fifth.old.holder k) x.signing_in.after.authenticator made_holder.signed (live.asserted valid public x h p a ∷ []) made_holder.made
            [] s.reply
            (ap (λ (g : Holder). g.signed) there) (ap (λ (g : Holder). g.made) there)),
      )

  at_site : sixth.old.site i ≡ x.signing_in.site
  at_site = site_there i x.signing_in.site fourth.old

  signed : EventEffect valid public sixth.old sixth.event sixth.new
  signed = (
    p.signed_in,
    subst (λ (s : site.SiteState). SiteActs valid s
        (SignsInBy x.signing_in.session x.signing_in.channel x.signing_in.packets x.signing_in.out.client_data) p.signed_in) (sym at_site)
        ((length x.signing_in.packets, a.signs_in.reply, a.signs_in.accepted), t.after),
    changes_site i p.signed_in sixth.old,
  )

  -- ---- the sign-in

  abbrev response : responses.AuthenticatorAssertionResponse
  response = live.response valid public x h p a

  abbrev row : registered_row.Credential
  row = live.row valid public x h p a

  abbrev entry : Entry
  entry = live.asserted valid public x h p a

  found : row_of response.credential (sixth.old.site i).rows ≡ Some row
  found =
      let id : response.credential ≡ a.registers.credential.id =
      signing_in.credential_is valid public b x.signing_in (registered valid public b keeps x h).credential 0 (idle valid public b keeps x h) h.honest_sign_in
      (here valid public b keeps x h) (omega arith) (asked valid public b keeps x h) in
      ap (λ c. row_of c (sixth.old.site i).rows) id ∙ ap (λ (s : site.SiteState). row_of a.registers.credential.id s.rows) at_site
      ∙ (here valid public b keeps x h).registered

  tries : Tries sixth i x.signing_in.session response row
  tries = record {
    brings = (refl, (refl, (length x.signing_in.packets, a.signs_in.accepted.0, a.signs_in.reply, a.signs_in.accepted.1, a.signs_in.accepted.2, refl)));
    found = found;
  }

  there : sixth.old.holder k ≡ signed_holder
  there = holder_there k signed_holder fifth.old

  has_key : Contains (sixth.old.holder k).made row.key
  has_key = subst (λ (g : Holder). Contains g.made row.key) (sym there) (0, omega arith, refl)

  has_entry : Contains (sixth.old.holder k).signed entry
  has_entry = subst (λ (g : Holder). Contains g.signed entry) (sym there) (Contains-push made_holder.signed entry)

  was_signed : WasSigned sixth.old row.key (message_of response)
  was_signed = record { holder = k; made = has_key; entry = entry; there = has_entry; under = refl; of = refl }

  ideal : IsIdeal valid sixth
  ideal j n r low tried is_valid was_made =
      let c = tried.brings.1.1 in
      let one : c.2 ≡ a.signs_in.reply =
      same_assertion valid public b x.signing_in.site x.signing_in.session x.signing_in.channel c.0 (length x.signing_in.packets) x.signing_in.packets
      x.signing_in.out.client_data c.1 a.signs_in.accepted.0 c.2 a.signs_in.reply c.3 c.4 a.signs_in.accepted.1 a.signs_in.accepted.2 in
      let response_is : r ≡ response = c.5 ∙ ap (λ (z : Assertion). response_of z x.signing_in.out.client_data) one in
      let found_here : row_of response.credential (sixth.old.site i).rows ≡ Some low =
      ap (λ (z : responses.AuthenticatorAssertionResponse). row_of z.credential (sixth.old.site i).rows) (sym response_is)
      ∙ subst (λ (l : ℕ). row_of r.credential (sixth.old.site l).rows ≡ Some low) (sym tried.brings.0) tried.found in
      let row_is : row ≡ low = same_Some row low (sym found ∙ found_here) in
      subst (λ (z : responses.AuthenticatorAssertionResponse). WasSigned sixth.old low.key (message_of z)) (sym response_is)
      (subst (λ (z : registered_row.Credential). WasSigned sixth.old z.key (message_of response)) row_is was_signed)

  -- the others bring no response to a sign-in
  begins_ideal : IsIdeal valid first
  begins_ideal j n r low tried v w = absurd tried.brings.1

  makes_ideal : IsIdeal valid second
  makes_ideal j n r low tried v w = absurd tried.brings

  registers_ideal : IsIdeal valid third
  registers_ideal j n r low tried v w = absurd tried.brings.1

  begins_again_ideal : IsIdeal valid fourth
  begins_again_ideal j n r low tried v w = absurd tried.brings.1

  asserts_ideal : IsIdeal valid fifth
  asserts_ideal j n r low tried v w = absurd tried.brings

  -- ---- all of it

  pub lives : Lives valid public x h p
  lives = record {
    accepts = a;
    run = (refl, begun, (refl, made, (refl, registration_taken, (refl, begun_again, (refl, asserted, (refl, signed, tt))))));
    ideal =
        All-from_recursion (IsIdeal valid) (live.moments valid public x h p a)
        (begins_ideal, (makes_ideal, (registers_ideal, (begins_again_ideal, (asserts_ideal, (ideal, tt))))));
    accepted = record { tries = tries; done = refl };
    was_made = (k, has_key);
    rests = record { there = (k, has_entry); purpose = refl; key = refl; message = refl };
  }
