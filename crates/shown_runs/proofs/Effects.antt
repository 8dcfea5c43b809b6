-- Each moment of the run has its effect, or none that it could have; and no signature is forged.
use Rattle.std.proofs.Common.{◌≡◌, ◌+◌, ℕ, List, [], ◌∷◌, Bool, true, false, Option, None, Some, length, refl, sym, ◌∙◌, ap, subst, arith, inl, inr, Contains, IsUtf8}
use Rattle.std.specs.Int.{w64, to_be_bytes}
use Rattle.std.specs.Prelude.{IsSome, if◌then◌else◌, slice_index, ◌==◌}
use Rattle.std.specs.FinMap as finite
use Rattle.std.specs.FinMap.{gets}
use Rattle.std.specs.List.{All}
use Rattle.std.proofs.lemmas.Grind.{common_steps}
use Rattle.std.proofs.lemmas.List.Elements.{All-from_recursion}
use Rattle.std.proofs.lemmas.Option.{same_Some}
use Rattle.base64.specs.GeneralPurpose.{IsBytes}
use Rattle.hidframe.proofs.Bytes.{bytes-append, bytes_zeros}
use Rattle.sha2.specs.Sha256.{sha256}
use Rattle.sha2.proofs.Facts256.{length-sha256}
use Rattle.clientdata.specs.Serialised.{challenge_text_of}
use Rattle.clientdata.specs.declared.record.CeremonyType.TheVariants.{Get}
use Rattle.clientdata.proofs.ReadBack.{seen_of-text}
use Rattle.cose.specs.Bench.{bench_public, bench_valid}
use Rattle.cose.specs.declared.key.CoseKey.{CoseKey}
use Rattle.authdata.specs.declared.statement.AttestationType.TheVariants as types
use Rattle.authdata.specs.Responses.{AuthenticatorAssertionResponse}
use Rattle.ctap_replies.proofs.Texts.{plain}
use Rattle.verification.specs.Records.{Credential, ExpectedSignIn}
use Rattle.verification.specs.SignIn.{PassesSignIn}
use Rattle.site_state.specs.Sessions.{OpenSessions, Opening, begun, challenge_of, closed, expected_of, for_registration, for_sign_in, registration_at, sign_in_at}
use Rattle.site_state.specs.Table.{row_of}
use Rattle.site.specs.State.{SiteState, judged_sign_in}
use Rattle.authenticator.specs.Steps.{Entry, Outcome, Step}
use Rattle.agreement.specs.Agreement.{Brings, IsIdeal, WasSigned, message_of}
use Rattle.agreement.specs.Below.{Below}
use Rattle.agreement.specs.Lived.{with_holder, with_site}
use Rattle.agreement.specs.World.{AtSite, Begins, Deletes, EventEffect, EventEnd, Holder, IsNew, IsRun, IsStart, Moment, Registers, Retires, SignsIn, SiteActs, SiteEvent, World, after_call}
use Rattle.agreement.proofs.Lived.{changes_holder, changes_site}
use Rattle.agreement.proofs.Sites.{bytes_of_64}
use Rattle.shown_runs.proofs.Accepting.{created, passes, registers, signs_in}
use Rattle.shown_runs.proofs.Answering.{emptied, entry, first_step, next_step, reset_step}
use Rattle.shown_runs.proofs.Making.{makes}
use Rattle.shown_runs.proofs.Moments.{a0, a1, a10, a2, a3, a4, a5, a6, a7, a8, a9, answers_next, answers_one, answers_three, answers_two, asks, both_counted, by_one}
use Rattle.shown_runs.proofs.Moments.{by_one_again, by_three, by_two, c0, c1, c2, c3, c4, com_is_text, expects_any, expects_one, expects_user, for_any, for_one, for_user}
use Rattle.shown_runs.proofs.Moments.{h0, h1, h2, h3, h4, h5, k0, k1, m1, m10, m11, m12, m13, m14, m15, m16, m17, m18, m19, m2, m20, m21, m22, m23, m24, m25, m26, m3, m4, m5, m6, m7, m8, m9}
use Rattle.shown_runs.proofs.Moments.{makes_one, makes_three, makes_two, new_text, one_counted, one_more, one_stored, org_is_text, run, two_stored, world, wrong}
use Rattle.shown_runs.proofs.Requests.{any_request, asking_any, asking_one, creating, one_request}
use Rattle.shown_runs.proofs.Texts.{get_text, random}
use Rattle.shown_runs.proofs.Values.{com_id, com_page, filled, key, org_id, org_page, row, source, words}
use Rattle.shown_runs.proofs.Values as given

com_page_is_text : IsUtf8 com_page
com_page_is_text = plain com_page refl

org_page_is_text : IsUtf8 org_page
org_page_is_text = plain org_page refl

pub random_bytes : IsBytes random
random_bytes = bytes_zeros 24

-- ---- the start

start_site : (one : Bool) → (if one then c0 else a0).sessions.expected ≡ finite.empty
start_site true = refl
start_site false = refl

start_holder : (one : Bool) → IsNew (if one then k0 else h0)
start_holder true = record { aaguid = given.aaguid; uv = true; attest = types.SelfSigned; state = refl; signed = refl; made = refl }
start_holder false = record { aaguid = given.aaguid; uv = true; attest = types.None; state = refl; signed = refl; made = refl }

pub start : IsStart world
start = record { sites = λ i. start_site (i == 1); holders = λ k. start_holder (k == 1) }

-- ---- what is open

begun_now : (s : OpenSessions) (o : Opening) → finite.get (begun s o).expected s.next ≡ Some (expected_of s.next o)
begun_now s o = grind (arith, gets, common_steps)

begun_before : (s : OpenSessions) (o p : Opening) → finite.get (begun (begun s o) p).expected s.next ≡ Some (expected_of s.next o)
begun_before s o p = grind (arith, gets, common_steps)

still_begun : (s : OpenSessions) (o p : Opening) → finite.get (closed s.next (begun (begun s o) p)).expected (s.next + 1) ≡ Some (expected_of (s.next + 1) p)
still_begun s o p = grind (arith, gets, common_steps)

gone : (s : OpenSessions) (n : ℕ) → finite.get (closed n s).expected n ≡ None
gone s n = grind (arith, gets, common_steps)

-- a session for sign-in that has just begun
pub now_open : (s : OpenSessions) (o : Opening) → sign_in_at s.next (begun s o) ≡ for_sign_in (Some (expected_of s.next o))
now_open s o = ap for_sign_in (begun_now s o)

pub first_open : sign_in_at 3 a7.sessions ≡ Some (expects_any 3)
first_open = ap for_sign_in (begun_before a4.sessions for_any for_one)

pub first_waits : finite.get a5.sessions.expected 3 ≡ Some (expected_of 3 for_any)
first_waits = begun_now a4.sessions for_any

pub second_open : sign_in_at 4 a9.sessions ≡ Some (expects_one 4)
second_open = ap for_sign_in (still_begun a4.sessions for_any for_one)

pub third_open : sign_in_at 2 c3.sessions ≡ Some (expects_any 2)
third_open = ap for_sign_in (begun_now c2.sessions for_any)

first_gone : sign_in_at 3 a8.sessions ≡ None
first_gone = ap for_sign_in (gone a7.sessions 3)

-- ---- effects

pub at_site : (i : ℕ) (e : SiteEvent) (s t : SiteState) (w : World) → w.site i ≡ s → SiteActs bench_valid s e t
    → EventEffect bench_valid bench_public w (AtSite i e) (with_site i t w)
at_site i e s t w there acts = (t, subst (λ (z : SiteState). SiteActs bench_valid z e t) (sym there) acts, changes_site i t w)

pub begins : (i : ℕ) (o : Opening) (s t : SiteState) (w : World) → w.site i ≡ s → SiteActs bench_valid s (Begins o) t
    → EventEffect bench_valid bench_public w (AtSite i (Begins o)) (with_site i t w)
begins i o s t w there acts = at_site i (Begins o) s t w there acts

pub at_holder : (k : ℕ) (bs : List ℕ) (n : ℕ) (out : Outcome) (h : Holder) (w : World) → w.holder k ≡ h
    → Step bench_valid bench_public h.state 1 bs given.consent (words n) out
    → EventEffect bench_valid bench_public w (asks k bs n) (with_holder k (after_call h out) w)
at_holder k bs n out h w there step = (
  out,
  refl,
  subst (λ (g : Holder). Step bench_valid bench_public g.state 1 bs given.consent (words n) out) (sym there) step,
  changes_holder k (after_call h out) (after_call (w.holder k) out) w (ap (λ (g : Holder). after_call g out) (sym there)),
)

-- ---- what is signed

-- authenticator k has made this key, and signed this entry under it
pub was_signed : (w : World) (k : ℕ) (of : CoseKey) (e : Entry) → Contains (w.holder k).made of → Contains (w.holder k).signed e → e.key ≡ of
    → WasSigned w of e.message
was_signed w k of e made there under = record { holder = k; made = made; entry = e; there = there; under = under; of = refl }

-- a try that brings one response, for this row
pub of_one : (old new : World) (end : EventEnd) (i n : ℕ) (r : AuthenticatorAssertionResponse) (c : Credential) → row_of r.credential (old.site i).rows ≡ Some c
    → (bench_valid c.key (message_of r) r.signature → WasSigned old c.key (message_of r))
    → IsIdeal bench_valid (record { old = old; event = AtSite i (SignsIn n r); end = end; new = new })
of_one old new end i n r c found signed j k t low tried is_valid made =
    let is = tried.brings in
    let there : row_of r.credential (old.site i).rows ≡ Some low =
    ap (λ (z : AuthenticatorAssertionResponse). row_of z.credential (old.site i).rows) is.1.1
    ∙ subst (λ (l : ℕ). row_of t.credential (old.site l).rows ≡ Some low) (sym is.0) tried.found in
    let same : c ≡ low = same_Some c low (sym found ∙ there) in
    let here : bench_valid c.key (message_of r) r.signature =
    subst (λ (z : AuthenticatorAssertionResponse). bench_valid c.key (message_of z) z.signature) (sym is.1.1)
    (subst (λ (d : Credential). bench_valid d.key (message_of t) t.signature) (sym same) is_valid) in
    subst (λ (z : AuthenticatorAssertionResponse). WasSigned old low.key (message_of z)) is.1.1
    (subst (λ (d : Credential). WasSigned old d.key (message_of r)) same (signed here))

-- what brings no response
pub quiet : (m : Moment) → ((i n : ℕ) (r : AuthenticatorAssertionResponse) → Brings m.event i n r → ⊥) → IsIdeal bench_valid m
quiet m none i n r c tried is_valid made = absurd (none i n r tried.brings)

-- one byte is no signature
pub no_signature : (message : List ℕ) → 0 ∷ [] ≡ sha256 message → ⊥
no_signature message e =
    let size = length-sha256 message in
    let one : 1 ≡ length (sha256 message) = ap length e in
    omega (arith, size, one)

two_was_signed : WasSigned m12.old (key 2) (message_of by_two)
two_was_signed = was_signed m12.old 0 (key 2) (entry com_id 2 1 false (get_text com_page 3)) (1, omega arith, refl) (0, omega arith, refl) refl

pub one_was_signed : WasSigned m14.old (key 1) (message_of by_one)
one_was_signed = was_signed m14.old 0 (key 1) (entry com_id 1 1 false (get_text com_page 3)) (0, omega arith, refl) (1, omega arith, refl) refl

one_was_signed_still : WasSigned m15.old (key 1) (message_of by_one)
one_was_signed_still = was_signed m15.old 0 (key 1) (entry com_id 1 1 false (get_text com_page 3)) (0, omega arith, refl) (1, omega arith, refl) refl

pub again_was_signed : WasSigned m19.old (key 1) (message_of by_one_again)
again_was_signed = was_signed m19.old 0 (key 1) (entry com_id 1 2 true (get_text com_page 4)) (0, omega arith, refl) (2, omega arith, refl) refl

pub three_was_signed : WasSigned m25.old (key 3) (message_of by_three)
three_was_signed = was_signed m25.old 1 (key 3) (entry org_id 3 1 false (get_text org_page 2)) (0, omega arith, refl) (1, omega arith, refl) refl

pub ideal_first : IsIdeal bench_valid m14
ideal_first = of_one m14.old m14.new m14.end 0 3 by_one (row 1 0) refl (λ v. one_was_signed)

pub ideal_second : IsIdeal bench_valid m19
ideal_second = of_one m19.old m19.new m19.end 0 4 by_one_again (row 1 1) refl (λ v. again_was_signed)

pub ideal_third : IsIdeal bench_valid m25
ideal_third = of_one m25.old m25.new m25.end 1 2 by_three (row 3 0) refl (λ v. three_was_signed)

abbrev pub retired_row : Credential
retired_row = record (row 2 0) { retired = true }

pub ideal : All (IsIdeal bench_valid) run
ideal = All-from_recursion (IsIdeal bench_valid) run (
  quiet m1 (λ i n r e. e.1),
  (quiet m2 (λ i n r e. e), (quiet m3 (λ i n r e. e.1), (quiet m4 (λ i n r e. e.1), (quiet m5 (λ i n r e. e), (quiet m6 (λ i n r e. e.1), (quiet m7 (λ i n r e. e.1), (quiet m8 (λ i n r e. e), (quiet m9 (λ i n r e. e), (quiet m10 (λ i n r e. e.1), (quiet m11 (λ i n r e. e.1), (of_one m12.old m12.new m12.end 0 3 by_two retired_row refl (λ v. two_was_signed), (of_one m13.old m13.new m13.end 0 3 wrong (row 1 0) refl (λ v. absurd (no_signature _ v)), (ideal_first, (of_one m15.old m15.new m15.end 0 3 by_one (row 1 1) refl (λ v. one_was_signed_still), (of_one m16.old m16.new m16.end 0 4 by_one (row 1 1) refl (λ v. one_was_signed_still), (quiet m17 (λ i n r e. e.1), (quiet m18 (λ i n r e. e), (ideal_second, (quiet m20 (λ i n r e. e.1), (quiet m21 (λ i n r e. e), (quiet m22 (λ i n r e. e.1), (quiet m23 (λ i n r e. e.1), (quiet m24 (λ i n r e. e), (ideal_third, (quiet m26 (λ i n r e. e), tt))))))))))))))))))))))))),
)

-- ---- what an authenticator does

step_two : Step bench_valid bench_public h2.state 1 (asking_any com_id (get_text com_page 3)) given.consent (words 0) answers_two
step_two =
    first_step types.None two_stored None com_id 2 0 false (get_text com_page 3) (omega arith) refl (given.by_any com_id []) (asking_any com_id (get_text com_page 3)) (words 0)
    (filled 1 ∷ []) (omega arith, omega arith) (any_request com_id refl com_is_text (get_text com_page 3)) refl refl refl

step_next : Step bench_valid bench_public h3.state 1 (8 ∷ []) given.consent (words 0) answers_next
step_next = next_step types.None one_counted com_id 1 0 false (get_text com_page 3) (omega arith) refl (words 0)

step_one : Step bench_valid bench_public h4.state 1 (asking_one com_id 1 (get_text com_page 4)) given.consent (words 0) answers_one
step_one =
    first_step types.None both_counted None com_id 1 1 true (get_text com_page 4) (omega arith) refl (given.by_one com_id 1 []) (asking_one com_id 1 (get_text com_page 4)) (words 0)
    [] tt (one_request com_id refl com_is_text (get_text com_page 4) 1) refl refl refl

step_three : Step bench_valid bench_public k1.state 1 (asking_any org_id (get_text org_page 2)) given.consent (words 0) answers_three
step_three =
    first_step types.SelfSigned (source org_id 3 0 ∷ []) None org_id 3 0 false (get_text org_page 2) (omega arith) refl (given.by_any org_id []) (asking_any org_id (get_text org_page 2)) (words 0)
    [] tt (any_request org_id refl org_is_text (get_text org_page 2)) refl refl refl

-- ---- the run

module _ (b : Below bench_valid bench_public) where
  registers_one : SiteActs bench_valid a1 (Registers 1 (created types.None com_id 1 (new_text com_page 1))) a2
  registers_one =
      registers b a1 1 com_page (0, omega arith, refl) com_page_is_text (expects_user 1 1) types.None 1 (ap for_registration (begun_now a0.sessions (for_user 1)))
      (0, omega arith, refl) refl refl refl

  registers_two : SiteActs bench_valid a3 (Registers 2 (created types.None com_id 2 (new_text com_page 2))) a4
  registers_two =
      registers b a3 2 com_page (0, omega arith, refl) com_page_is_text (expects_user 2 2) types.None 2 (ap for_registration (begun_now a2.sessions (for_user 2)))
      (0, omega arith, refl) refl refl refl

  pub third_expects : registration_at 1 c1.sessions ≡ Some (expects_user 1 3)
  third_expects = ap for_registration (begun_now c0.sessions (for_user 3))

  registers_three : SiteActs bench_valid c1 (Registers 1 (created types.SelfSigned org_id 3 (new_text org_page 1))) c2
  registers_three =
      registers b c1 1 org_page (0, omega arith, refl) org_page_is_text (expects_user 1 3) types.SelfSigned 3 third_expects (0, omega arith, refl) refl refl refl

  signs_first : SiteActs bench_valid a7 (SignsIn 3 by_one) a8
  signs_first =
      signs_in b a7 3 com_page (0, omega arith, refl) com_page_is_text (expects_any 3) 1 0 1 false first_open refl (inl refl) refl (λ e. absurd cc) (omega arith)
      (omega arith)

  signs_second : SiteActs bench_valid a9 (SignsIn 4 by_one_again) a10
  signs_second =
      signs_in b a9 4 com_page (0, omega arith, refl) com_page_is_text (expects_one 4) 1 1 2 true second_open refl (inr (0, omega arith, refl)) (refl, refl)
      (λ e. refl) (omega arith) (omega arith)

  signs_third : SiteActs bench_valid c3 (SignsIn 2 by_three) c4
  signs_third =
      signs_in b c3 2 org_page (0, omega arith, refl) org_page_is_text (expects_any 2) 3 0 1 false third_open refl (inl refl) refl (λ e. absurd cc) (omega arith)
      (omega arith)

  -- the first session would accept it before, too
  pub passes_before : PassesSignIn bench_valid (judged_sign_in a5 3 by_one)
  passes_before =
      passes b a5 3 com_page (0, omega arith, refl) com_page_is_text (expects_any 3) 1 0 1 false (ap for_sign_in first_waits) refl (inl refl) refl (λ e. absurd cc)
      (omega arith) (omega arith)

  -- the first three
  pub is_registered : EventEffect bench_valid bench_public m1.old m1.event m1.new × EventEffect bench_valid bench_public m2.old m2.event m2.new
      × EventEffect bench_valid bench_public m3.old m3.event m3.new
  is_registered = (
    begins 0 (for_user 1) a0 a1 m1.old refl (random_bytes, omega arith, refl),
    at_holder 0 (creating com_id 1 (new_text com_page 1)) 1 makes_one h0 m2.old refl (makes types.None com_id 1 (new_text com_page 1) [] refl com_is_text refl (omega arith)),
    at_site 0 (Registers 1 (created types.None com_id 1 (new_text com_page 1))) a1 a2 m3.old refl registers_one,
  )

  pub is_run : IsRun bench_valid bench_public world run
  is_run = (
    refl,
    is_registered.0,
    (
      refl,
      is_registered.1,
      (
        refl,
        is_registered.2,
        (
          refl,
          begins 0 (for_user 2) a2 a3 m4.old refl (random_bytes, omega arith, refl),
          (
            refl,
            at_holder 0 (creating com_id 2 (new_text com_page 2)) 2 makes_two h1 m5.old refl (makes types.None com_id 2 (new_text com_page 2) one_stored refl com_is_text refl (omega arith)),
            (
              refl,
              at_site 0 (Registers 2 (created types.None com_id 2 (new_text com_page 2))) a3 a4 m6.old refl registers_two,
              (
                refl,
                begins 0 for_any a4 a5 m7.old refl (random_bytes, omega arith, refl),
                (
                  refl,
                  at_holder 0 (asking_any com_id (get_text com_page 3)) 0 answers_two h2 m8.old refl step_two,
                  (
                    refl,
                    at_holder 0 (8 ∷ []) 0 answers_next h3 m9.old refl step_next,
                    (
                      refl,
                      begins 0 for_one a5 a6 m10.old refl (random_bytes, omega arith, refl),
                      (
                        refl,
                        at_site 0 (Retires (filled 2)) a6 a7 m11.old refl refl,
                        (
                          refl,
                          refl,
                          (
                            refl,
                            refl,
                            (
                              refl,
                              at_site 0 (SignsIn 3 by_one) a7 a8 m14.old refl signs_first,
                              (
                                refl,
                                refl,
                                (
                                  refl,
                                  refl,
                                  (
                                    refl,
                                    at_site 0 (Deletes (filled 2)) a8 a9 m17.old refl refl,
                                    (
                                      refl,
                                      at_holder 0 (asking_one com_id 1 (get_text com_page 4)) 0 answers_one h4 m18.old refl step_one,
                                      (
                                        refl,
                                        at_site 0 (SignsIn 4 by_one_again) a9 a10 m19.old refl signs_second,
                                        (
                                          refl,
                                          begins 1 (for_user 3) c0 c1 m20.old refl (random_bytes, omega arith, refl),
                                          (
                                            refl,
                                            at_holder 1 (creating org_id 3 (new_text org_page 1)) 3 makes_three k0 m21.old refl (makes types.SelfSigned org_id 3 (new_text org_page 1) [] refl org_is_text refl (omega arith)),
                                            (
                                              refl,
                                              at_site 1 (Registers 1 (created types.SelfSigned org_id 3 (new_text org_page 1))) c1 c2 m22.old refl registers_three,
                                              (
                                                refl,
                                                begins 1 for_any c2 c3 m23.old refl (random_bytes, omega arith, refl),
                                                (
                                                  refl,
                                                  at_holder 1 (asking_any org_id (get_text org_page 2)) 0 answers_three k1 m24.old refl step_three,
                                                  (
                                                    refl,
                                                    at_site 1 (SignsIn 2 by_three) c3 c4 m25.old refl signs_third,
                                                    (refl, at_holder 0 (7 ∷ []) 0 (emptied types.None) h5 m26.old refl (reset_step types.None one_more None (words 0)), tt),
                                                  ),
                                                ),
                                              ),
                                            ),
                                          ),
                                        ),
                                      ),
                                    ),
                                  ),
                                ),
                              ),
                            ),
                          ),
                        ),
                      ),
                    ),
                  ),
                ),
              ),
            ),
          ),
        ),
      ),
    ),
  )

  -- ---- what is refused, whatever would come of it

  pub retired_refused : (w : World) → EventEffect bench_valid bench_public m12.old m12.event w → ⊥
  retired_refused w e = let bad : true ≡ false = (e.1.0.1.1.0.1 retired_row refl).1 in absurd cc

  pub wrong_refused : (w : World) → EventEffect bench_valid bench_public m13.old m13.event w → ⊥
  wrong_refused w e = no_signature _ (e.1.0.1.1.1.1.1.1.1.1.1.1.1.1.1.1.1.0 (row 1 0) refl)

  pub again_refused : (w : World) → EventEffect bench_valid bench_public m15.old m15.event w → ⊥
  again_refused w e = let bad : IsSome {T = ExpectedSignIn} None = subst (λ (o : Option ExpectedSignIn). IsSome o) first_gone e.1.0.0 in absurd cc

  -- its challenge is that of session 3
  pub replayed_refused : (w : World) → EventEffect bench_valid bench_public m16.old m16.event w → ⊥
  replayed_refused w e =
      let reads = seen_of-text Get (challenge_of 3 random) com_page false com_page_is_text in
      let texts : challenge_text_of (challenge_of 3 random) ≡ challenge_text_of (challenge_of 4 random) = e.1.0.1.1.1.1.1.1.0 (expects_one 4) second_open _ reads in
      let same = b.challenge_texts (challenge_of 3 random) (challenge_of 4 random) (bytes-append (to_be_bytes w64 3) random (bytes_of_64 3 (omega arith)) random_bytes)
      (bytes-append (to_be_bytes w64 4) random (bytes_of_64 4 (omega arith)) random_bytes) texts in
      let bad : 3 ≡ 4 = ap (λ (l : List ℕ). slice_index l 7) same in
      omega (arith, bad)
