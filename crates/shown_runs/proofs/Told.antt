-- What the run has of what the laws ask for, and what they say of it.
use Rattle.std.proofs.Common.{◌≡◌, ◌≢◌, ℕ, List, [], ◌∷◌, ◌++◌, true, false, refl, sym, ap, subst, arith, inr}
use Rattle.std.specs.Prelude.{Contains, slice_index}
use Rattle.std.specs.List.{All}
use Rattle.std.proofs.lemmas.List.Elements.{All-contains, All-from_recursion, Contains-append_right}
use Rattle.sha2.specs.Sha256.{sha256}
use Rattle.clientdata.specs.declared.record.CeremonyType.TheVariants.{Get}
use Rattle.clientdata.proofs.ReadBack.{seen_of-text}
use Rattle.cose.specs.Bench.{bench_public, bench_valid}
use Rattle.authdata.specs.declared.statement.AttestationType.TheVariants as types
use Rattle.ctap_requests.specs.Requests.{AssertionRequest, RequestMessage, RequestOf, get_assertion, get_next_assertion, make_credential, reset}
use Rattle.ctap_requests.specs.Status.{IsRequest}
use Rattle.verification.specs.Records.{Credential}
use Rattle.site_state.specs.Sessions.{ForSignIn, challenge_of}
use Rattle.authenticator.specs.Steps.{Entry}
use Rattle.authenticator.specs.declared.consent.Consent.{Consent}
use Rattle.authenticator.specs.declared.consent.Words.{Words}
use Rattle.client.specs.Responses.{object_of}
use Rattle.agreement.specs.Agreement.{Adds, Agreement, IsAccepted, IsAcceptedRegistration, IsDeleted, IsRetired, NoneDeleted, OfAllRuns, RestsOn, RestsOnce, ShareNone}
use Rattle.agreement.specs.Begun.{SessionsOfAllRuns}
use Rattle.agreement.specs.Below.{Below}
use Rattle.agreement.specs.Dropped.{DropsOfAllRuns}
use Rattle.agreement.specs.Forgeries.{ForgeriesOfAllRuns}
use Rattle.agreement.specs.Ledger.{IsAsked, IsLedger, LedgerOfAllRuns, world_after}
use Rattle.agreement.specs.Pages.{AskedOver, IsFromPage, PagesOfAllRuns}
use Rattle.agreement.specs.Stays.{IsEnd, MayEnd, Stays, StaysOfAllRuns}
use Rattle.agreement.specs.World.{AtSite, Begins, Event, Moment, Registers, Retires, SiteEvent, World}
use Rattle.shown_runs.specs.Telling.{Apart, Attested, ByNext, FromPages, Refusals, Reset, Rests, Retirement, SignIns, TellingRun, Waits}
use Rattle.shown_runs.proofs.Accepting.{attests, created}
use Rattle.shown_runs.proofs.Answering.{entry}
use Rattle.shown_runs.proofs.Effects.{again_refused, first_open, first_waits, ideal, ideal_first, ideal_second, ideal_third, is_run, passes_before, replayed_refused, retired_refused}
use Rattle.shown_runs.proofs.Effects.{again_was_signed, no_signature, one_was_signed, second_open, three_was_signed, start, third_expects, third_open, wrong_refused, retired_row}
use Rattle.shown_runs.proofs.Making.{attested, attesting, creation, self_signature}
use Rattle.shown_runs.proofs.Moments.{asks, by_one, by_one_again, by_three, by_two, c1, com_is_text, done, expects_any, expects_one, expects_user, for_one, meanwhile, new_text}
use Rattle.shown_runs.proofs.Moments.{m1, m10, m11, m12, m13, m14, m15, m16, m17, m18, m19, m2, m20, m21, m22, m23, m24, m25, m26, m3, m4, m5, m6, m7, m8, m9, run, then_on, up_to_response}
use Rattle.shown_runs.proofs.Moments.{refused, world}
use Rattle.shown_runs.proofs.Requests.{any_request, asking_any, asking_one, creating, creation_request, next_request, one_request, reset_request}
use Rattle.shown_runs.proofs.Texts.{get_text, random, texts_elsewhere, two_parties, two_secrets, two_texts}
use Rattle.shown_runs.proofs.Values.{com_id, com_page, credential, filled, key, org_id, org_page, row, source, words}
use Rattle.shown_runs.proofs.Values as given
use Rattle.cose.specs.Keys.{x_of}
use Rattle.client.specs.Asked.{assertion_of, creation_of}
use Rattle.ctap_replies.proofs.Texts.{plain}

-- ---- where the moments stand

abbrev between_two : List Moment
between_two = m15 ∷ m16 ∷ m17 ∷ m18 ∷ []

abbrev after_second : List Moment
after_second = m20 ∷ m21 ∷ m22 ∷ m23 ∷ m24 ∷ m25 ∷ m26 ∷ []

abbrev again : Apart run m14 m19
again = record { before = up_to_response ++ meanwhile; between = between_two; later = after_second; here = refl }

abbrev up_to_second : List Moment
up_to_second =
    m1 ∷ m2 ∷ m3 ∷ m4 ∷ m5 ∷ m6 ∷ m7 ∷ m8 ∷ m9 ∷ m10 ∷ m11 ∷ m12 ∷ m13 ∷ m14 ∷ m15 ∷ m16 ∷ m17 ∷ m18 ∷ []

abbrev first_of_id : List ℕ → ℕ
first_of_id id = slice_index id 0

-- ---- each request to authenticator 0 but two getAssertions asks for something else

abbrev texts : List (List ℕ)
texts = get_text com_page 3 ∷ get_text com_page 4 ∷ []

abbrev Over : List ℕ → Type 0
Over hash = (t : List ℕ) × Contains texts t × (hash ≡ sha256 t)

abbrev AsksOver : Moment → Type 0
AsksOver m = (channel : ℕ) (consent : Consent) (w : Words) (q : AssertionRequest) → IsAsked 0 channel consent w (get_assertion q) m → Over q.client_data_hash

at_site : (old new : World) (i : ℕ) (e : SiteEvent) → AsksOver (done old (AtSite i e) new)
at_site old new i e channel consent w q asked = let event = asked.event in absurd cc

-- what is refused is not asked either
nothing : (old : World) (e : Event) → AsksOver (refused old e)
nothing old e channel consent w q asked = let end = asked.done in absurd cc

asked_for : (old new : World) (bs : List ℕ) (n : ℕ) (p : RequestMessage) → IsRequest p bs
    → ((q : AssertionRequest) → get_assertion q ≡ p → Over q.client_data_hash) → AsksOver (done old (asks 0 bs n) new)
asked_for old new bs n p is over channel consent w q asked =
    let event = asked.event in
    let same : bs ≡ asked.bytes = cc in
    let x = asked.request.spelled in
    over q (is.only (get_assertion q) x.0 (subst (λ (l : List ℕ). RequestOf (get_assertion q) x.0 l) (sym same) x.1))

makes : (old new : World) (n : ℕ) (text : List ℕ) → AsksOver (done old (asks 0 (creating com_id n text) n) new)
makes old new n text =
    asked_for old new (creating com_id n text) n (make_credential (creation_of (given.registering com_id n []) text)) (creation_request com_id refl com_is_text text n)
    (λ q e. absurd cc)

hash_in : (q p : AssertionRequest) → get_assertion q ≡ get_assertion p → q.client_data_hash ≡ p.client_data_hash
hash_in q p e = let same : q ≡ p = cc in ap (λ (z : AssertionRequest). z.client_data_hash) same

asked_over : All AsksOver up_to_second
asked_over = All-from_recursion AsksOver up_to_second (
  at_site m1.old m1.new 0 _,
  (
    makes m2.old m2.new 1 (new_text com_page 1),
    (
      at_site m3.old m3.new 0 _,
      (
        at_site m4.old m4.new 0 _,
        (
          makes m5.old m5.new 2 (new_text com_page 2),
          (
            at_site m6.old m6.new 0 _,
            (
              at_site m7.old m7.new 0 _,
              (
                asked_for m8.old m8.new (asking_any com_id (get_text com_page 3)) 0 (get_assertion (assertion_of (given.by_any com_id []) (get_text com_page 3))) (any_request com_id refl com_is_text (get_text com_page 3))
                    (λ q e. (get_text com_page 3, (0, omega arith, refl), hash_in q (assertion_of (given.by_any com_id []) (get_text com_page 3)) e)),
                (
                  asked_for m9.old m9.new (8 ∷ []) 0 get_next_assertion next_request (λ q e. absurd cc),
                  (
                    at_site m10.old m10.new 0 _,
                    (
                      at_site m11.old m11.new 0 _,
                      (
                        nothing m12.old _,
                        (
                          nothing m13.old _,
                          (
                            at_site m14.old m14.new 0 _,
                            (
                              nothing m15.old _,
                              (
                                nothing m16.old _,
                                (
                                  at_site m17.old m17.new 0 _,
                                  (
                                    asked_for m18.old m18.new (asking_one com_id 1 (get_text com_page 4)) 0 (get_assertion (assertion_of (given.by_one com_id 1 []) (get_text com_page 4))) (one_request com_id refl com_is_text (get_text com_page 4) 1)
                                        (λ q e. (get_text com_page 4, (1, omega arith, refl), hash_in q (assertion_of (given.by_one com_id 1 []) (get_text com_page 4)) e)),
                                    tt,
                                  ),
                                ),
                              ),
                            ),
                          ),
                        ),
                      ),
                    ),
                  ),
                ),
              ),
            ),
          ),
        ),
      ),
    ),
  ),
)

-- ---- sign-ins

accepted_first : IsAccepted m14 0 3 by_one (row 1 0)
accepted_first = record { tries = record { brings = (refl, (refl, refl)); found = refl }; done = refl }

accepted_second : IsAccepted m19 0 4 by_one_again (row 1 1)
accepted_second = record { tries = record { brings = (refl, (refl, refl)); found = refl }; done = refl }

accepted_third : IsAccepted m25 1 2 by_three (row 3 0)
accepted_third = record { tries = record { brings = (refl, (refl, refl)); found = refl }; done = refl }

abbrev first_entry : Entry
first_entry = entry com_id 1 1 false (get_text com_page 3)

abbrev second_entry : Entry
second_entry = entry com_id 1 2 true (get_text com_page 4)

abbrev third_entry : Entry
third_entry = entry org_id 3 1 false (get_text org_page 2)

rests_first : RestsOn m14 by_one (row 1 0) first_entry
rests_first = record { there = (0, (1, omega arith, refl)); purpose = refl; key = refl; message = refl }

rests_second : RestsOn m19 by_one_again (row 1 1) second_entry
rests_second = record { there = (0, (2, omega arith, refl)); purpose = refl; key = refl; message = refl }

rests_third : RestsOn m25 by_three (row 3 0) third_entry
rests_third = record { there = (1, (1, omega arith, refl)); purpose = refl; key = refl; message = refl }

-- ---- what ends no session, and what deletes nothing

none_deleted : NoneDeleted 0 (filled 1) between_two
none_deleted = All-from_recursion (λ (m : Moment). IsDeleted 0 (filled 1) m → ⊥) between_two (
  λ d. (let e = d.0 in absurd cc),
  (λ d. (let e = d.0 in absurd cc), (λ d. (let e = d.0 in absurd cc), (λ d. (let e = d.0 in absurd cc), tt))),
)

not_its_end : (old new : World) (e : SiteEvent) → (MayEnd e 3 → ⊥) → IsEnd 0 3 (done old (AtSite 0 e) new) → ⊥
not_its_end old new e none is =
    let event = is.1 in
    let same : e ≡ is.0 = cc in
    none (subst (λ (f : SiteEvent). MayEnd f 3) (sym same) is.3)

ends_nothing : (old : World) (e : Event) → IsEnd 0 3 (refused old e) → ⊥
ends_nothing old e is = let end = is.2 in absurd cc

-- ---- the laws

module _ (b : Below bench_valid bench_public) (laws : OfAllRuns bench_valid bench_public) (ledger : LedgerOfAllRuns bench_valid bench_public)
    (drops : DropsOfAllRuns bench_valid bench_public) (sessions : SessionsOfAllRuns bench_valid bench_public) (stays : StaysOfAllRuns bench_valid bench_public)
    (pages : PagesOfAllRuns bench_valid bench_public) (forgeries : ForgeriesOfAllRuns bench_valid bench_public) where
  agreement : Agreement bench_valid run
  agreement = laws world run start (is_run b)

  -- ---- sign-ins

  abbrev on_first : Rests 0 0 m14
  on_first =
      let agrees = agreement.agrees 13 m14 (omega arith) ideal_first 0 3 by_one (row 1 0) accepted_first (0, (0, omega arith, refl)) in
      let says = agrees.1 first_entry rests_first in
      record {
        session = 3;
        expected = expects_any 3;
        is_open = first_open;
        response = by_one;
        row = row 1 0;
        accepted = accepted_first;
        fits = agreement.fits 13 m14 (omega arith) 0 3 by_one (row 1 0) accepted_first;
        made = (0, omega arith, refl);
        entry = first_entry;
        signed = (1, omega arith, refl);
        rests = rests_first;
        says = says.0;
        consented = says.1;
        backed = (forgeries world run start (is_run b) 13 m14 (omega arith)).backed 0 3 by_one (row 1 0) accepted_first one_was_signed;
      }

  abbrev on_second : Rests 0 0 m19
  on_second =
      let agrees = agreement.agrees 18 m14 (omega arith) ideal_second 0 4 by_one_again (row 1 1) accepted_second (0, (0, omega arith, refl)) in
      let says = agrees.1 second_entry rests_second in
      record {
        session = 4;
        expected = expects_one 4;
        is_open = second_open;
        response = by_one_again;
        row = row 1 1;
        accepted = accepted_second;
        fits = agreement.fits 18 m14 (omega arith) 0 4 by_one_again (row 1 1) accepted_second;
        made = (0, omega arith, refl);
        entry = second_entry;
        signed = (2, omega arith, refl);
        rests = rests_second;
        says = says.0;
        consented = says.1;
        backed = (forgeries world run start (is_run b) 18 m14 (omega arith)).backed 0 4 by_one_again (row 1 1) accepted_second again_was_signed;
      }

  abbrev on_third : Rests 1 1 m25
  on_third =
      let agrees = agreement.agrees 24 m14 (omega arith) ideal_third 1 2 by_three (row 3 0) accepted_third (1, (0, omega arith, refl)) in
      let says = agrees.1 third_entry rests_third in
      record {
        session = 2;
        expected = expects_any 2;
        is_open = third_open;
        response = by_three;
        row = row 3 0;
        accepted = accepted_third;
        fits = agreement.fits 24 m14 (omega arith) 1 2 by_three (row 3 0) accepted_third;
        made = (0, omega arith, refl);
        entry = third_entry;
        signed = (1, omega arith, refl);
        rests = rests_third;
        says = says.0;
        consented = says.1;
        backed = (forgeries world run start (is_run b) 24 m14 (omega arith)).backed 1 2 by_three (row 3 0) accepted_third three_was_signed;
      }

  two_entries : first_entry ≢ second_entry
  two_entries same =
      let none : ShareNone m14 between_two m19 = agreement.share_none (up_to_response ++ meanwhile) between_two after_second m14 m19 refl in
      none 0 3 4 by_one by_one_again (row 1 0) (row 1 1) accepted_first accepted_second refl none_deleted first_entry rests_first
      (subst (λ (x : Entry). RestsOn m19 by_one_again (row 1 1) x) (sym same) rests_second)

  entries_elsewhere : second_entry ≢ third_entry
  entries_elsewhere same =
      let once : RestsOnce run m19 m25 = agreement.rests_once 18 24 m14 (omega arith) (omega arith) in
      once 0 1 4 2 by_one_again by_three (row 1 1) (row 3 0) accepted_second accepted_third (λ e. absurd (two_parties e)) (λ e. absurd (texts_elsewhere e))
      (λ e. let bad : 0 ≡ 1 = e in omega (arith, bad))
      second_entry rests_second (subst (λ (x : Entry). RestsOn m25 by_three (row 3 0) x) (sym same) rests_third)

  abbrev sign_ins : SignIns run
  sign_ins = record {
    first = m14;
    second = m19;
    third = m25;
    again = again;
    elsewhere = record { before = up_to_second; between = m20 ∷ m21 ∷ m22 ∷ m23 ∷ m24 ∷ []; later = m26 ∷ []; here = refl };
    on_first = on_first;
    on_second = on_second;
    on_third = on_third;
    one_credential = refl;
    counters = (refl, refl);
    kept = none_deleted;
    texts = two_texts;
    entries = two_entries;
    parties = two_parties;
    keys = λ e. two_secrets (ap x_of e);
    texts_elsewhere = texts_elsewhere;
    entries_elsewhere = entries_elsewhere;
    for_any = (refl, refl);
    for_one = (refl, refl, refl);
  }

  -- ---- the rest

  by_next : ByNext bench_valid bench_public world run sign_ins
  by_next =
      let book : IsLedger bench_public (up_to_response ++ meanwhile) (world_after world (up_to_response ++ meanwhile)) =
      ledger world (up_to_response ++ meanwhile) (m14 ∷ then_on) start (is_run b) in
      record {
        moment = m9;
        apart = record { before = m1 ∷ m2 ∷ m3 ∷ m4 ∷ m5 ∷ m6 ∷ m7 ∷ m8 ∷ []; between = meanwhile; later = then_on; here = refl };
        channel = 1;
        consent = given.consent;
        words = words 0;
        asked = record { bytes = 8 ∷ []; event = refl; done = refl; request = next_request };
        signs = refl;
        told = book.signed 0 1 first_entry (omega arith);
      }

  registered_third : IsAcceptedRegistration m22 1 1 (created types.SelfSigned org_id 3 (new_text org_page 1))
  registered_third = record { event = Registers 1 (created types.SelfSigned org_id 3 (new_text org_page 1)); here = refl; brings = (refl, refl); done = refl }

  attested_third : Attested bench_valid bench_public world run sign_ins
  attested_third = record {
    moment = m22;
    apart = record { before = up_to_second ++ m19 ∷ m20 ∷ m21 ∷ []; between = m23 ∷ m24 ∷ []; later = m26 ∷ []; here = refl };
    session = 1;
    response = created types.SelfSigned org_id 3 (new_text org_page 1);
    accepted = registered_third;
    profile = refl;
    object = object_of (creation types.SelfSigned org_id 3 (new_text org_page 1));
    auth = attested org_id 3;
    credential = credential 3;
    attests = attests b c1 1 org_page (0, omega arith, refl) (plain org_page refl) (expects_user 1 3) types.SelfSigned 3 (third_expects b) (0, omega arith, refl) refl refl refl;
    key = refl;
    self_signed = (refl, (self_signature org_id 3 (new_text org_page 1), refl, refl));
    entry = attesting org_id 3 (new_text org_page 1);
    signed = (0, omega arith, refl);
    purpose = refl;
    told = agreement.registered 21 m14 (omega arith) 1 1 (created types.SelfSigned org_id 3 (new_text org_page 1)) registered_third;
  }

  refusals : Refusals bench_valid bench_public world run sign_ins
  refusals = record {
    wrong = m13;
    wrong_before = record { before = up_to_response ++ m10 ∷ m11 ∷ m12 ∷ []; between = []; later = then_on; here = refl };
    signature = 0 ∷ [];
    another = not_signed;
    wrong_tries = record { brings = (refl, (refl, refl)); found = refl };
    wrong_refused = record { nothing = refl; never = wrong_refused b };
    again = m15;
    again_later = record { before = up_to_response ++ meanwhile; between = []; later = m16 ∷ m17 ∷ m18 ∷ m19 ∷ after_second; here = refl };
    again_brings = (refl, (refl, refl));
    again_answers = ((refl, refl), (refl, refl));
    again_refused = record { nothing = refl; never = again_refused b };
    told = λ done. agreement.sessions 13 14 m14 (omega arith) (omega arith) 0 3 (refl, refl) (refl, refl) refl done;
    replayed = m16;
    replayed_later = record { before = up_to_response ++ meanwhile; between = m15 ∷ []; later = m17 ∷ m18 ∷ m19 ∷ after_second; here = refl };
    replayed_before = record { before = up_to_response ++ (meanwhile ++ m14 ∷ m15 ∷ []); between = m17 ∷ m18 ∷ []; later = after_second; here = refl };
    replayed_brings = (refl, (refl, refl));
    replayed_open = second_open;
    replayed_refused = record { nothing = refl; never = replayed_refused b };
  } where
    not_signed : 0 ∷ [] ≢ by_one.signature
    not_signed e = no_signature _ e

  is_retired : IsRetired (m12.old.site 0) (filled 2)
  is_retired =
      let now : IsRetired (m11.new.site 0) (filled 2) = (agreement.retiring 10 m14 (omega arith)).retires 0 (filled 2) (row 2 0) refl refl refl in
      let none : All (λ (m : Moment). IsDeleted 0 (filled 2) m → ⊥) (m11 ∷ []) =
      All-from_recursion (λ (m : Moment). IsDeleted 0 (filled 2) m → ⊥) (m11 ∷ []) (λ d. (let e = d.0 in absurd cc), tt) in
      (agreement.retired (up_to_response ++ m10 ∷ []) [] (m13 ∷ m14 ∷ then_on) m11 m12 refl 0 (filled 2) (inr now) none).0

  retirement : Retirement bench_valid bench_public world run sign_ins
  retirement = record {
    id = filled 2;
    other = λ e. (let bad : 2 ≡ 1 = ap first_of_id e in absurd cc);
    retires = m11;
    is_retirement = (refl, refl);
    was_registered = refl;
    tried = m12;
    then_tried = record { before = up_to_response ++ m10 ∷ []; between = []; later = m13 ∷ m14 ∷ then_on; here = refl };
    session = 3;
    response = by_two;
    row = retired_row;
    tries = record { brings = (refl, (refl, refl)); found = refl };
    by_it = refl;
    refused = record { nothing = refl; never = retired_refused b };
    is_retired = is_retired;
    deletes = m17;
    then_deleted = record { before = up_to_response ++ (meanwhile ++ m14 ∷ m15 ∷ m16 ∷ []); between = m18 ∷ []; later = after_second; here = refl };
    is_deletion = (refl, refl);
    was_there = refl;
    is_gone =
        agreement.deleted (up_to_response ++ (meanwhile ++ m14 ∷ m15 ∷ m16 ∷ [])) (m18 ∷ []) (after_second) m17 m19 refl 0 (filled 2)
        ((agreement.deleting 16 m14 (omega arith)).deletes 0 (filled 2) (refl, refl))
        (All-from_recursion (λ (m : Moment). (c : Credential) → Adds m 0 c → c.id ≢ filled 2) (m18 ∷ []) (λ c adds. (let e = adds.here in absurd cc), tt));
  }

  waits : Waits bench_valid bench_public world run sign_ins
  waits =
      let none : All (λ (m : Moment). IsEnd 0 3 m → ⊥) meanwhile =
      All-from_recursion (λ (m : Moment). IsEnd 0 3 m → ⊥) meanwhile (
        not_its_end m10.old m10.new (Begins for_one) (λ h. h),
        (not_its_end m11.old m11.new (Retires (filled 2)) (λ h. h), (ends_nothing m12.old m12.event, (ends_nothing m13.old m13.event, tt))),
      ) in
      let stay : Stays bench_valid world up_to_response meanwhile = stays.sessions world up_to_response meanwhile (m14 ∷ then_on) start (is_run b) in
      record {
        before = up_to_response;
        between = meanwhile;
        later = then_on;
        here = refl;
        begins = (m10, (0, omega arith, refl), (for_one, refl), refl);
        no_end = none;
        is_open = first_waits;
        passes = passes_before b;
        told = sessions world up_to_response (meanwhile ++ m14 ∷ then_on) start (is_run b) 0 3 (ForSignIn (expects_any 3)) first_waits;
        still_open = stay.still_open 0 3 (ForSignIn (expects_any 3)) first_waits none;
        still_passes = stay.accepted 0 3 (ForSignIn (expects_any 3)) by_one first_waits none refl refl (passes_before b);
      }

  from_page : (session : ℕ) → IsFromPage (com_page ∷ []) (get_text com_page session)
  from_page session = record { seen = _; reads = seen_of-text Get (challenge_of session random) com_page false (plain com_page refl); page = (0, omega arith, refl) }

  from_pages : FromPages bench_valid bench_public world run sign_ins
  from_pages =
      let from : All (IsFromPage (com_page ∷ [])) texts = All-from_recursion (IsFromPage (com_page ∷ [])) texts (from_page 3, (from_page 4, tt)) in
      let apart : All (λ (t : List ℕ). sha256 t ≡ sha256 (get_text com_page 4) → t ≡ get_text com_page 4) texts =
      All-from_recursion (λ (t : List ℕ). sha256 t ≡ sha256 (get_text com_page 4) → t ≡ get_text com_page 4) texts (λ e. absurd (two_texts e), (λ e. refl, tt)) in
      let over : AskedOver texts 0 up_to_second = λ before m later here channel consent w q asked.
      All-contains AsksOver up_to_second m asked_over
      (subst (λ (ms : List Moment). Contains ms m) (sym here) (Contains-append_right before (m ∷ later) m (0, omega arith, refl))) channel consent w q asked in
      record {
        pages = com_page ∷ [];
        texts = texts;
        from = from;
        asked = over;
        own = (1, omega arith, refl);
        told_apart = apart;
        told =
            pages world up_to_second m19 (after_second) start (is_run b) 0 4 0 by_one_again (row 1 1) accepted_second second_entry
            (2, omega arith, refl) rests_second (com_page ∷ []) texts from over apart;
      }

  abbrev up_to_reset : List Moment
  up_to_reset = up_to_second ++ m19 ∷ m20 ∷ m21 ∷ m22 ∷ m23 ∷ m24 ∷ m25 ∷ []

  is_reset : Reset bench_valid bench_public world run sign_ins
  is_reset =
      let asked : IsAsked 0 1 given.consent (words 0) reset m26 = record { bytes = 7 ∷ []; event = refl; done = refl; request = reset_request } in
      let book : IsLedger bench_public up_to_reset (world_after world up_to_reset) = ledger world up_to_reset (m26 ∷ []) start (is_run b) in
      record {
        moment = m26;
        later = record { before = up_to_second; between = m20 ∷ m21 ∷ m22 ∷ m23 ∷ m24 ∷ m25 ∷ []; later = []; here = refl };
        channel = 1;
        consent = given.consent;
        words = words 0;
        asked = asked;
        present = refl;
        credential = source com_id 1 2;
        stored = refl;
        own = (refl, refl);
        told = book.for_party 0 0 (source com_id 1 2) (omega arith);
        gone = stays.credentials world run start (is_run b) 25 m14 (omega arith) 0 1 given.consent (words 0) asked refl;
        dropped = drops world run (is_run b) m26 (25, omega arith, refl) 0 (source com_id 1 2) refl refl;
      }

  pub telling : TellingRun bench_valid bench_public
  telling = record {
    world = world;
    start = start;
    run = run;
    is_run = is_run b;
    ideal = ideal;
    sign_ins = sign_ins;
    by_next = by_next;
    attested = attested_third;
    refusals = refusals;
    retirement = retirement;
    waits = waits;
    from_pages = from_pages;
    reset = is_reset;
  }
