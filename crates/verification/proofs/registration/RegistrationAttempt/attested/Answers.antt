-- What is owed of `RegistrationAttempt::attested`.
use Rattle.std.proofs.Common.{◌≡◌, Some, sym, refl}
use Rattle.verification.specs.Views.{judged_without_table, registration_view}
use Rattle.authdata.specs.Objects.{Attestation, ObjectOf, lent_object_view}
use Rattle.authdata.specs.Layout.{AttestedCredential, AuthenticatorData, AuthOf, lent_attested_view, lent_auth_view}
use Rattle.authdata.specs.declared.profile.Profile.{Profile}
use Rattle.verification.specs.Registration.{Attests, JudgedRegistration}
use Rattle.verification.proofs.Registrations.{no_credential, no_object, wrong_party, not_present, not_verified, not_offered, not_named, data_passes}
use Rattle.verification.proofs.registration.RegistrationAttempt.attested.Goals as goal

-- what was found in the object's bytes, as the profile has them, is what the response attests
attests : (x : JudgedRegistration) (o : Attestation) (a : AuthenticatorData) (d : AttestedCredential) {p : Profile}
    → ObjectOf o x.response.object → p ≡ x.rp.profile → AuthOf p a o.auth_data × (a.attested ≡ Some d) → Attests x.rp.profile x.response o a d
attests x o a d object profile found = record { object = object; auth_data = rw (sym profile) found.0; attested = found.1 }

pub returns-in_default-clause-refused : goal.returns-in_default-clause-refused
returns-in_default-clause-refused c = no_object (judged_without_table c.args.self.now) (c.in_default.ensures.none refl)

pub returns-in_default-attested_in-clause-refused : goal.returns-in_default-attested_in-clause-refused
returns-in_default-attested_in-clause-refused c =
    no_credential (judged_without_table c.args.self.now) (lent_object_view c.in-Some.object) c.in-Some.ensures.found
    (rw (sym c.profile.ensures) (c.in_default-attested_in.ensures.none refl))

pub returns-then-not-is_hash-clause-refused : goal.returns-then-not-is_hash-clause-refused
returns-then-not-is_hash-clause-refused c =
    let x = judged_without_table c.args.self.now in
    let h = attests x (lent_object_view c.in-Some.object) (lent_auth_view c.in-Some-attested_in.auth_data) (lent_attested_view c.in-Some-attested_in.credential)
    c.in-Some.ensures.found c.profile.ensures c.in-Some-attested_in.ensures.found in
    wrong_party _ _ _ _ h (λ same. let yes = c.is_hash.ensures.1 same in let no = c.if-not-is_hash.true in absurd cc)

pub returns-then-not-is_present_as-clause-refused : goal.returns-then-not-is_present_as-clause-refused
returns-then-not-is_present_as-clause-refused c =
    let x = judged_without_table c.args.self.now in
    let h = attests x (lent_object_view c.in-Some.object) (lent_auth_view c.in-Some-attested_in.auth_data) (lent_attested_view c.in-Some-attested_in.credential)
    c.in-Some.ensures.found c.profile.ensures c.in-Some-attested_in.ensures.found in
    not_present _ _ _ _ h (c.is_hash.ensures.0 c.if-not-is_hash.false) (registration_view c.args.session.now) c.requires
    (λ present. let yes = c.is_present_as.ensures.1 (rw c.profile-2.ensures present) in let no = c.if-not-is_present_as.true in absurd cc)

pub returns-then-not-is_verified_as-clause-refused : goal.returns-then-not-is_verified_as-clause-refused
returns-then-not-is_verified_as-clause-refused c =
    let x = judged_without_table c.args.self.now in
    let h = attests x (lent_object_view c.in-Some.object) (lent_auth_view c.in-Some-attested_in.auth_data) (lent_attested_view c.in-Some-attested_in.credential)
    c.in-Some.ensures.found c.profile.ensures c.in-Some-attested_in.ensures.found in
    not_verified _ _ _ _ h (c.is_hash.ensures.0 c.if-not-is_hash.false) (registration_view c.args.session.now) c.requires
    (rw (sym c.profile-2.ensures) (c.is_present_as.ensures.0 c.if-not-is_present_as.false))
    (λ verified. let yes = c.is_verified_as.ensures.1 verified in let no = c.if-not-is_verified_as.true in absurd cc)

pub returns-then-not-offers-clause-refused : goal.returns-then-not-offers-clause-refused
returns-then-not-offers-clause-refused c =
    let x = judged_without_table c.args.self.now in
    let h = attests x (lent_object_view c.in-Some.object) (lent_auth_view c.in-Some-attested_in.auth_data) (lent_attested_view c.in-Some-attested_in.credential)
    c.in-Some.ensures.found c.profile.ensures c.in-Some-attested_in.ensures.found in
    not_offered _ _ _ _ h (c.is_hash.ensures.0 c.if-not-is_hash.false) (registration_view c.args.session.now) c.requires
    (rw (sym c.profile-2.ensures) (c.is_present_as.ensures.0 c.if-not-is_present_as.false))
    (c.is_verified_as.ensures.0 c.if-not-is_verified_as.false) (λ offered. let yes = c.offers.ensures.1 offered in let no = c.if-not-offers.true in absurd cc)

pub returns-then-not-is_named-clause-refused : goal.returns-then-not-is_named-clause-refused
returns-then-not-is_named-clause-refused c =
    let x = judged_without_table c.args.self.now in
    let h = attests x (lent_object_view c.in-Some.object) (lent_auth_view c.in-Some-attested_in.auth_data) (lent_attested_view c.in-Some-attested_in.credential)
    c.in-Some.ensures.found c.profile.ensures c.in-Some-attested_in.ensures.found in
    not_named _ _ _ _ h (c.is_hash.ensures.0 c.if-not-is_hash.false) (registration_view c.args.session.now) c.requires
    (rw (sym c.profile-2.ensures) (c.is_present_as.ensures.0 c.if-not-is_present_as.false))
    (c.is_verified_as.ensures.0 c.if-not-is_verified_as.false) (c.offers.ensures.0 c.if-not-offers.false) (λ named. let yes = c.is_named.ensures.1 named in let no = c.if-not-is_named.true in absurd cc)

pub returns-clause-passes : goal.returns-clause-passes
returns-clause-passes c =
    let x = judged_without_table c.args.self.now in
    let h = attests x (lent_object_view c.in-Some.object) (lent_auth_view c.in-Some-attested_in.auth_data) (lent_attested_view c.in-Some-attested_in.credential)
    c.in-Some.ensures.found c.profile.ensures c.in-Some-attested_in.ensures.found in
    data_passes x _ _ _ h (c.is_hash.ensures.0 c.if-not-is_hash.false) (registration_view c.args.session.now) c.requires
    (rw (sym c.profile-2.ensures) (c.is_present_as.ensures.0 c.if-not-is_present_as.false))
    (c.is_verified_as.ensures.0 c.if-not-is_verified_as.false) (c.offers.ensures.0 c.if-not-offers.false) (c.is_named.ensures.0 c.if-not-is_named.false)
