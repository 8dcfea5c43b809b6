-- A run in which a signature is forged: by the scheme for tests anybody can make one.
use Rattle.std.proofs.Common.{◌≡◌, ℕ, List, [], ◌∷◌, ◌++◌, Bool, true, false, refl, subst, arith, inl}
use Rattle.std.specs.Prelude.{Contains, if◌then◌else◌, ◌==◌}
use Rattle.cose.specs.Bench.{bench_public, bench_valid}
use Rattle.ctap_replies.proofs.Texts.{plain}
use Rattle.authdata.specs.Responses.{AuthenticatorAssertionResponse}
use Rattle.site.specs.State.{SiteState}
use Rattle.site.specs.Laws.{after_begin}
use Rattle.authenticator.specs.Steps.{Entry}
use Rattle.agreement.specs.Agreement.{IsAccepted, IsIdeal, WasMade}
use Rattle.agreement.specs.Below.{Below}
use Rattle.agreement.specs.Forgeries.{ForgeriesOfAllRuns, IsBacked}
use Rattle.agreement.specs.Lived.{with_site}
use Rattle.agreement.specs.World.{AtSite, Begins, IsRun, Moment, SignsIn, SiteActs}
use Rattle.shown_runs.specs.Forged.{ForgedRun}
use Rattle.shown_runs.proofs.Accepting.{after_sign_in, got, signs_in}
use Rattle.shown_runs.proofs.Effects.{at_site, begins, is_registered, now_open, random_bytes, start}
use Rattle.shown_runs.proofs.Moments.{a2, done, expects_any, for_any, h0, h1, k0, m1, m2, m3, world}
use Rattle.shown_runs.proofs.Texts.{get_text}
use Rattle.shown_runs.proofs.Values.{com_id, com_page, row}

-- after the registration of credential 1 a session begins, and a response comes that no authenticator has signed
abbrev s1 : SiteState
s1 = after_begin a2 for_any

abbrev forged : AuthenticatorAssertionResponse
forged = got com_id 1 1 false (get_text com_page 2)

abbrev s2 : SiteState
s2 = after_sign_in s1 2 1 1 false

abbrev begins_again : Moment
begins_again = done m3.new (AtSite 0 (Begins for_any)) (with_site 0 s1 m3.new)

abbrev last : Moment
last = done begins_again.new (AtSite 0 (SignsIn 2 forged)) (with_site 0 s2 begins_again.new)

abbrev before : List Moment
before = m1 ∷ m2 ∷ m3 ∷ begins_again ∷ []

none_there : (zero one : Bool) → (if zero then h1 else if one then k0 else h0).signed ≡ []
none_there true one = refl
none_there false true = refl
none_there false false = refl

none_signed : (k : ℕ) (e : Entry) → Contains (last.old.holder k).signed e → ⊥
none_signed k e there =
    let none : Contains [] e = subst (λ (l : List Entry). Contains l e) (none_there (k == 0) (k == 1)) there in
    let lt = none.1 in
    omega (arith, lt)

made : WasMade last.old (row 1 0).key
made = (0, (0, omega arith, refl))

accepted : IsAccepted last 0 2 forged (row 1 0)
accepted = record { tries = record { brings = (refl, (refl, refl)); found = refl }; done = refl }

alone : IsBacked last 0 2 forged (row 1 0) → ⊥
alone backed = none_signed backed.1.there.0 backed.0 backed.1.there.1

not_ideal : IsIdeal bench_valid last → ⊥
not_ideal is = let signed = is 0 2 forged (row 1 0) accepted.tries refl made in none_signed signed.holder signed.entry signed.there

module _ (b : Below bench_valid bench_public) (forgeries : ForgeriesOfAllRuns bench_valid bench_public) where
  signs : SiteActs bench_valid s1 (SignsIn 2 forged) s2
  signs =
      signs_in b s1 2 com_page (0, omega arith, refl) (plain com_page refl) (expects_any 2) 1 0 1 false (now_open a2.sessions for_any) refl (inl refl) refl
      (λ e. absurd cc) (omega arith) (omega arith)

  is_run : IsRun bench_valid bench_public world (before ++ last ∷ [])
  is_run =
      let first = is_registered b in (
        refl,
        first.0,
        (
          refl,
          first.1,
          (
            refl,
            first.2,
            (
              refl,
              begins 0 for_any a2 s1 begins_again.old refl (random_bytes, omega arith, refl),
              (refl, at_site 0 (SignsIn 2 forged) s1 s2 last.old refl signs, tt),
            ),
          ),
        ),
      )

  pub forged_run : ForgedRun bench_valid bench_public
  forged_run = record {
    world = world;
    start = start;
    before = before;
    last = last;
    is_run = is_run;
    session = 2;
    response = forged;
    row = row 1 0;
    accepted = accepted;
    made = made;
    alone = alone;
    not_ideal = not_ideal;
    told = (forgeries world (before ++ last ∷ []) start is_run 4 last (omega arith)).shows 0 2 forged (row 1 0) accepted made alone;
  }
