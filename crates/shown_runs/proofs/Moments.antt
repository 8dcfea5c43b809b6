-- The run: its sites and authenticators, as they are one after another, and its moments.
use Rattle.std.proofs.Common.{ℕ, List, [], ◌∷◌, ◌++◌, true, false, None, Some, refl, arith, IsUtf8}
use Rattle.std.specs.Prelude.{if◌then◌else◌, ◌==◌}
use Rattle.authdata.specs.declared.profile.Profile.TheVariants.{Level3, Strict}
use Rattle.authdata.specs.declared.statement.AttestationType.TheVariants as types
use Rattle.authdata.specs.Responses.{AuthenticatorAssertionResponse}
use Rattle.ctap_replies.proofs.Texts.{plain}
use Rattle.verification.specs.Records.{ExpectedRegistration, ExpectedSignIn}
use Rattle.verification.specs.declared.party.Policy.{Policy}
use Rattle.site_state.specs.Sessions.{Opening, OpensRegistration, OpensSignIn, challenge_of, registration_of, sign_in_of, usual}
use Rattle.site.specs.State.{SiteState, idle, party_of}
use Rattle.site.specs.Laws.{after_begin, after_retire}
use Rattle.authenticator.specs.State.{CredentialSource}
use Rattle.authenticator.specs.Steps.{Outcome}
use Rattle.agreement.specs.Lived.{with_holder, with_site}
use Rattle.agreement.specs.World.{Asks, AtSite, Begins, Deletes, Done, Event, Holder, Moment, Nothing, Registers, Retires, SignsIn, World, after_call, after_delete}
use Rattle.shown_runs.proofs.Accepting.{after_registration, after_sign_in, created, creating_text, got}
use Rattle.shown_runs.proofs.Answering.{emptied, first_outcome, next_outcome}
use Rattle.shown_runs.proofs.Making.{made}
use Rattle.shown_runs.proofs.Requests.{asking_any, asking_one, creating}
use Rattle.shown_runs.proofs.Texts.{get_text, random}
use Rattle.shown_runs.proofs.Values.{com_id, com_page, device, filled, offered, org_id, org_page, source, words}
use Rattle.shown_runs.proofs.Values as given

pub com_is_text : IsUtf8 com_id
com_is_text = plain com_id refl

pub org_is_text : IsUtf8 org_id
org_is_text = plain org_id refl

abbrev policy : Policy
policy = record { accept_none = true; accept_self = true }

-- ---- sessions

-- for the registration of user n; for a sign-in by any credential; and for one by credential 1 of user 1, with verification
abbrev pub for_user : ℕ → Opening
for_user n = OpensRegistration (n ∷ []) offered false random usual

abbrev pub for_any : Opening
for_any = OpensSignIn None [] false random

abbrev pub for_one : Opening
for_one = OpensSignIn (Some (1 ∷ [])) (filled 1 ∷ []) true random

abbrev pub expects_user : ℕ → ℕ → ExpectedRegistration
expects_user session n = registration_of session (n ∷ []) offered false random usual

abbrev pub expects_any : ℕ → ExpectedSignIn
expects_any session = sign_in_of session None [] false random

abbrev pub expects_one : ℕ → ExpectedSignIn
expects_one session = sign_in_of session (Some (1 ∷ [])) (filled 1 ∷ []) true random

abbrev pub new_text : List ℕ → ℕ → List ℕ
new_text page session = creating_text page (challenge_of session random)

-- ---- site 0: of the strict profile. Credentials 1 and 2 are registered; 2 is retired and deleted; 1 signs in twice

abbrev pub a0 : SiteState
a0 = idle (party_of Strict com_id (com_page ∷ [])) policy [] 1

abbrev pub a1 : SiteState
a1 = after_begin a0 (for_user 1)

abbrev pub a2 : SiteState
a2 = after_registration a1 1 (expects_user 1 1) 1

abbrev pub a3 : SiteState
a3 = after_begin a2 (for_user 2)

abbrev pub a4 : SiteState
a4 = after_registration a3 2 (expects_user 2 2) 2

abbrev pub a5 : SiteState
a5 = after_begin a4 for_any

abbrev pub a6 : SiteState
a6 = after_begin a5 for_one

abbrev pub a7 : SiteState
a7 = after_retire a6 (filled 2)

abbrev pub a8 : SiteState
a8 = after_sign_in a7 3 1 1 false

abbrev pub a9 : SiteState
a9 = after_delete a8 (filled 2)

abbrev pub a10 : SiteState
a10 = after_sign_in a9 4 1 2 true

-- ---- site 1: of Level 3. Credential 3 is registered, and signs in

abbrev pub c0 : SiteState
c0 = idle (party_of Level3 org_id (org_page ∷ [])) policy [] 1

abbrev pub c1 : SiteState
c1 = after_begin c0 (for_user 3)

abbrev pub c2 : SiteState
c2 = after_registration c1 1 (expects_user 1 3) 3

abbrev pub c3 : SiteState
c3 = after_begin c2 for_any

abbrev pub c4 : SiteState
c4 = after_sign_in c3 2 3 1 false

-- ---- authenticator 0: it makes credentials 1 and 2, answers with 2 and then with 1, and later with 1, and is reset

abbrev pub one_stored : List CredentialSource
one_stored = source com_id 1 0 ∷ []

abbrev pub two_stored : List CredentialSource
two_stored = source com_id 1 0 ∷ source com_id 2 0 ∷ []

abbrev pub one_counted : List CredentialSource
one_counted = source com_id 1 0 ∷ source com_id 2 1 ∷ []

abbrev pub both_counted : List CredentialSource
both_counted = source com_id 1 1 ∷ source com_id 2 1 ∷ []

abbrev pub one_more : List CredentialSource
one_more = source com_id 1 2 ∷ source com_id 2 1 ∷ []

abbrev pub makes_one : Outcome
makes_one = made types.None com_id 1 (new_text com_page 1) []

abbrev pub makes_two : Outcome
makes_two = made types.None com_id 2 (new_text com_page 2) one_stored

abbrev pub answers_two : Outcome
answers_two = first_outcome types.None two_stored None com_id 2 0 false (get_text com_page 3) (omega arith) refl (filled 1 ∷ []) (omega arith, omega arith)

abbrev pub answers_next : Outcome
answers_next = next_outcome types.None one_counted com_id 1 0 false (get_text com_page 3) (omega arith) refl

abbrev pub answers_one : Outcome
answers_one = first_outcome types.None both_counted None com_id 1 1 true (get_text com_page 4) (omega arith) refl [] tt

abbrev pub h0 : Holder
h0 = record { state = device types.None [] None; signed = []; made = [] }

abbrev pub h1 : Holder
h1 = after_call h0 makes_one

abbrev pub h2 : Holder
h2 = after_call h1 makes_two

abbrev pub h3 : Holder
h3 = after_call h2 answers_two

abbrev pub h4 : Holder
h4 = after_call h3 answers_next

abbrev pub h5 : Holder
h5 = after_call h4 answers_one

abbrev pub h6 : Holder
h6 = after_call h5 (emptied types.None)

-- ---- authenticator 1, which attests by the key itself

abbrev pub makes_three : Outcome
makes_three = made types.SelfSigned org_id 3 (new_text org_page 1) []

abbrev pub answers_three : Outcome
answers_three = first_outcome types.SelfSigned (source org_id 3 0 ∷ []) None org_id 3 0 false (get_text org_page 2) (omega arith) refl [] tt

abbrev pub k0 : Holder
k0 = record { state = device types.SelfSigned [] None; signed = []; made = [] }

abbrev pub k1 : Holder
k1 = after_call k0 makes_three

abbrev pub k2 : Holder
k2 = after_call k1 answers_three

-- ---- responses

abbrev pub by_two : AuthenticatorAssertionResponse
by_two = got com_id 2 1 false (get_text com_page 3)

abbrev pub by_one : AuthenticatorAssertionResponse
by_one = got com_id 1 1 false (get_text com_page 3)

-- with a signature of one byte
abbrev pub wrong : AuthenticatorAssertionResponse
wrong = record by_one { signature = 0 ∷ [] }

abbrev pub by_one_again : AuthenticatorAssertionResponse
by_one_again = got com_id 1 2 true (get_text com_page 4)

abbrev pub by_three : AuthenticatorAssertionResponse
by_three = got org_id 3 1 false (get_text org_page 2)

-- ---- the moments

abbrev pub world : World
world = record { site = λ i. if i == 1 then c0 else a0; holder = λ k. if k == 1 then k0 else h0 }

abbrev pub done : World → Event → World → Moment
done old event new = record { old = old; event = event; end = Done; new = new }

abbrev pub refused : World → Event → Moment
refused old event = record { old = old; event = event; end = Nothing; new = old }

abbrev pub asks : ℕ → List ℕ → ℕ → Event
asks k bs n = Asks k 1 bs given.consent (words n)

abbrev pub m1 : Moment
m1 = done world (AtSite 0 (Begins (for_user 1))) (with_site 0 a1 world)

abbrev pub m2 : Moment
m2 = done m1.new (asks 0 (creating com_id 1 (new_text com_page 1)) 1) (with_holder 0 h1 m1.new)

abbrev pub m3 : Moment
m3 = done m2.new (AtSite 0 (Registers 1 (created types.None com_id 1 (new_text com_page 1)))) (with_site 0 a2 m2.new)

abbrev pub m4 : Moment
m4 = done m3.new (AtSite 0 (Begins (for_user 2))) (with_site 0 a3 m3.new)

abbrev pub m5 : Moment
m5 = done m4.new (asks 0 (creating com_id 2 (new_text com_page 2)) 2) (with_holder 0 h2 m4.new)

abbrev pub m6 : Moment
m6 = done m5.new (AtSite 0 (Registers 2 (created types.None com_id 2 (new_text com_page 2)))) (with_site 0 a4 m5.new)

abbrev pub m7 : Moment
m7 = done m6.new (AtSite 0 (Begins for_any)) (with_site 0 a5 m6.new)

abbrev pub m8 : Moment
m8 = done m7.new (asks 0 (asking_any com_id (get_text com_page 3)) 0) (with_holder 0 h3 m7.new)

abbrev pub m9 : Moment
m9 = done m8.new (asks 0 (8 ∷ []) 0) (with_holder 0 h4 m8.new)

abbrev pub m10 : Moment
m10 = done m9.new (AtSite 0 (Begins for_one)) (with_site 0 a6 m9.new)

abbrev pub m11 : Moment
m11 = done m10.new (AtSite 0 (Retires (filled 2))) (with_site 0 a7 m10.new)

-- by the credential that is retired; with a wrong signature
abbrev pub m12 : Moment
m12 = refused m11.new (AtSite 0 (SignsIn 3 by_two))

abbrev pub m13 : Moment
m13 = refused m12.new (AtSite 0 (SignsIn 3 wrong))

abbrev pub m14 : Moment
m14 = done m13.new (AtSite 0 (SignsIn 3 by_one)) (with_site 0 a8 m13.new)

-- the response again, to its session and to one that is open
abbrev pub m15 : Moment
m15 = refused m14.new (AtSite 0 (SignsIn 3 by_one))

abbrev pub m16 : Moment
m16 = refused m15.new (AtSite 0 (SignsIn 4 by_one))

abbrev pub m17 : Moment
m17 = done m16.new (AtSite 0 (Deletes (filled 2))) (with_site 0 a9 m16.new)

abbrev pub m18 : Moment
m18 = done m17.new (asks 0 (asking_one com_id 1 (get_text com_page 4)) 0) (with_holder 0 h5 m17.new)

abbrev pub m19 : Moment
m19 = done m18.new (AtSite 0 (SignsIn 4 by_one_again)) (with_site 0 a10 m18.new)

abbrev pub m20 : Moment
m20 = done m19.new (AtSite 1 (Begins (for_user 3))) (with_site 1 c1 m19.new)

abbrev pub m21 : Moment
m21 = done m20.new (asks 1 (creating org_id 3 (new_text org_page 1)) 3) (with_holder 1 k1 m20.new)

abbrev pub m22 : Moment
m22 = done m21.new (AtSite 1 (Registers 1 (created types.SelfSigned org_id 3 (new_text org_page 1)))) (with_site 1 c2 m21.new)

abbrev pub m23 : Moment
m23 = done m22.new (AtSite 1 (Begins for_any)) (with_site 1 c3 m22.new)

abbrev pub m24 : Moment
m24 = done m23.new (asks 1 (asking_any org_id (get_text org_page 2)) 0) (with_holder 1 k2 m23.new)

abbrev pub m25 : Moment
m25 = done m24.new (AtSite 1 (SignsIn 2 by_three)) (with_site 1 c4 m24.new)

abbrev pub m26 : Moment
m26 = done m25.new (asks 0 (7 ∷ []) 0) (with_holder 0 h6 m25.new)

-- up to the first response, what the session waits for then, and the rest
abbrev pub up_to_response : List Moment
up_to_response = m1 ∷ m2 ∷ m3 ∷ m4 ∷ m5 ∷ m6 ∷ m7 ∷ m8 ∷ m9 ∷ []

abbrev pub meanwhile : List Moment
meanwhile = m10 ∷ m11 ∷ m12 ∷ m13 ∷ []

abbrev pub then_on : List Moment
then_on = m15 ∷ m16 ∷ m17 ∷ m18 ∷ m19 ∷ m20 ∷ m21 ∷ m22 ∷ m23 ∷ m24 ∷ m25 ∷ m26 ∷ []

abbrev pub run : List Moment
run = up_to_response ++ (meanwhile ++ m14 ∷ then_on)
