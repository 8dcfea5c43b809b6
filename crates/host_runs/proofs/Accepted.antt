-- What a history's sign-ins and registrations are in its run.
use Rattle.std.proofs.Common.{◌≡◌, ℕ, List, [], ◌∷◌, ◌++◌, refl, sym, ◌∙◌, ap, subst, arith}
use Rattle.std.proofs.lemmas.List.Elements.{Contains-append_right}
use Rattle.std.specs.Prelude.{Contains}
use Rattle.cose.specs.Schemes.{Validity}
use Rattle.authdata.specs.Responses.{AuthenticatorAssertionResponse, AuthenticatorAttestationResponse}
use Rattle.verification.specs.Records.{Credential, ExpectedRegistration, ExpectedSignIn}
use Rattle.site_state.specs.Sessions.{ForRegistration, ForSignIn, for_registration, for_sign_in, registration_at, sign_in_at}
use Rattle.site_state.specs.Table.{row_of}
use Rattle.site.specs.State.{SiteState}
use Rattle.authenticator.specs.Steps.{Keys}
use Rattle.agreement.specs.Agreement.{Brings}
use Rattle.agreement.specs.World as world
use Rattle.agreement.specs.World.{AtSite, Event, Moment, World}
use Rattle.agreement.proofs.Lived.{site_there}
use Rattle.host_runs.specs.Rows.{Registered, Registers, SignedIn, SignsIn}
use Rattle.host_runs.specs.Histories.{Act, Follow, IsHistory, IsMomentOf, Plays, RegistersThere, Scene, SignsInThere, Stores, Turn, end_of, event_of}

module _ {I : Type 0} (narrow : I → Validity) (wide : Validity) (public : Keys) (i : ℕ) (turn : Turn) (later : List Turn) where
  -- the turn, as it was played, and its moment
  record Found (run : List Moment) : Type 0 where
    pub by : I
    pub plays : Plays (narrow by) public i turn.old turn.act turn.new
    pub moment : Moment
    pub there : Contains run moment
    pub is : IsMomentOf i turn moment

  found : (before : List Turn) (first : Scene) (run : List Moment) → IsHistory narrow wide public i first (before ++ turn ∷ later)
      → Follow i (before ++ turn ∷ later) run → Found run
  found [] first [] h follows = absurd follows
  found [] first (m ∷ ms) h follows =
      record { by = h.1.0; plays = h.1.2; moment = m; there = (0, omega arith, refl); is = follows.0 }
  found (t ∷ ts) first [] h follows = absurd follows
  found (t ∷ ts) first (m ∷ ms) h follows =
      let x = found ts t.new ms h.2 follows.1 in
      record { by = x.by; plays = x.plays; moment = x.moment; there = Contains-append_right (m ∷ []) ms x.moment x.there; is = x.is }

  -- the site of the moment
  here : (m : Moment) (x : IsMomentOf i turn m) → m.old.site i ≡ x.site
  here m x = ap (λ (w : World). w.site i) x.old ∙ site_there i x.site turn.old.world

  module _ (before : List Turn) (first : Scene) (turns : List Turn) (run : List Moment) (h : IsHistory narrow wide public i first turns)
      (follows : Follow i turns run) (among : turns ≡ before ++ turn ∷ later) where
    its : Found run
    its =
        found before first run (subst (λ (ts : List Turn). IsHistory narrow wide public i first ts) among h)
        (subst (λ (ts : List Turn). Follow i ts run) among follows)

    pub signs_in : (key : List ℕ) (e : ExpectedSignIn) (c : Credential) (r : AuthenticatorAssertionResponse) → turn.act ≡ Stores (SignsIn key e c r)
        → SignsInThere i run e c r
    signs_in key e c r act =
        let played = subst (λ (a : Act). Plays (narrow its.by) public i turn.old a turn.new) act its.plays in
        let x : SignedIn (narrow its.by) turn.old.store key e c r turn.new.store = played.0 in
        let m = its.moment in
        let n = its.is.numbers key in
        let event : m.event ≡ AtSite i (world.SignsIn n r) = its.is.event ∙ ap (event_of i its.is.numbers) act in
        let site = here m its.is in
        record {
          moment = m;
          there = its.there;
          session = n;
          expected = ap (λ (s : SiteState). sign_in_at n s.sessions) site ∙ ap for_sign_in (its.is.stands_for.sessions key (ForSignIn e) x.session);
          accepted = record {
            tries = record {
              brings = subst (λ (z : Event). Brings z i n r) (sym event) (refl, (refl, refl));
              found = ap (λ (s : SiteState). row_of r.credential s.rows) site ∙ its.is.stands_for.credentials r.credential ∙ x.credential;
            };
            done = its.is.end ∙ ap end_of act;
          };
        }

    pub registers : (key : List ℕ) (e : ExpectedRegistration) (r : AuthenticatorAttestationResponse) → turn.act ≡ Stores (Registers key e r)
        → RegistersThere i run e r
    registers key e r act =
        let played = subst (λ (a : Act). Plays (narrow its.by) public i turn.old a turn.new) act its.plays in
        let x : Registered (narrow its.by) turn.old.store key e r turn.new.store = played.0 in
        let m = its.moment in
        let n = its.is.numbers key in
        record {
          moment = m;
          there = its.there;
          session = n;
          expected = ap (λ (s : SiteState). registration_at n s.sessions) (here m its.is)
              ∙ ap for_registration (its.is.stands_for.sessions key (ForRegistration e) x.session);
          accepted = record {
            event = world.Registers n r;
            here = its.is.event ∙ ap (event_of i its.is.numbers) act;
            brings = (refl, refl);
            done = its.is.end ∙ ap end_of act;
          };
        }
