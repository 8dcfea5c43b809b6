-- What the crate's types stand for.
use Rattle.std.specs.Prelude.{ℕ, Bool, false, List, map, option_map}
use Rattle.std.specs.Borrow.{Bor}
use Rattle.cose.specs.Keys.{lent_key_view}
use Rattle.authdata.specs.Responses.{AuthenticatorAssertionResponse}
use Rattle.authdata.specs.Responses as responses
use Rattle.verification.specs.Records.{Credential, NewCredential, ExpectedSignIn, ExpectedRegistration}
use Rattle.verification.specs.declared.record.RowView.{RowView}
use Rattle.verification.specs.declared.record.SignInSession.{SignInSession}
use Rattle.verification.specs.declared.record.RegistrationSession.{RegistrationSession}
use Rattle.verification.specs.declared.record.AssertionParts.{AssertionParts}
use Rattle.verification.specs.declared.record.RegistrationParts.{RegistrationParts}
use Rattle.verification.specs.declared.signing_in.SignInAttempt.{SignInAttempt}
use Rattle.verification.specs.declared.registration.RegistrationAttempt.{RegistrationAttempt}
use Rattle.verification.specs.declared.registration.AdmittedCredential.{AdmittedCredential}
use Rattle.verification.specs.SignIn.{JudgedSignIn}
use Rattle.verification.specs.Registration.{JudgedRegistration}

-- the texts that a list of borrowed texts lends
abbrev pub texts_of : List (Bor (List ℕ)) → List (List ℕ)
texts_of texts = map (λ text. text.now) texts

abbrev pub credential_view : RowView → Credential
credential_view c = record { id = c.id.now; user = c.user.now; key = lent_key_view c.key; sign_count = c.sign_count; eligible = c.eligible; retired = c.retired }

abbrev pub admitted_view : AdmittedCredential → NewCredential
admitted_view c = record { id = c.id.now; key = lent_key_view c.key; sign_count = c.sign_count; eligible = c.eligible }

abbrev pub sign_in_view : SignInSession → ExpectedSignIn
sign_in_view s = record {
  user = option_map (λ u. u.items) s.user;
  allow = map (λ id. id.items) s.allow.items;
  uv = s.uv;
  challenge = s.challenge;
}

abbrev pub registration_view : RegistrationSession → ExpectedRegistration
registration_view s = record {
  user = s.user.items;
  algorithms = s.algorithms.items;
  uv = s.uv;
  challenge = s.challenge;
  conditional = s.conditional;
  attestation = s.attestation;
}

abbrev pub assertion_parts_view : AssertionParts → AuthenticatorAssertionResponse
assertion_parts_view p = record {
  credential = p.credential.now;
  user = option_map (λ u. u.now) p.user;
  auth_data = p.auth_data.now;
  signature = p.signature.now;
  client_data = p.client_data.now;
}

abbrev pub registration_parts_view : RegistrationParts → responses.AuthenticatorAttestationResponse
registration_parts_view p = record { object = p.object.now; client_data = p.client_data.now; raw_id = option_map (λ id. id.now) p.raw_id }

abbrev pub judged_sign_in_view : SignInAttempt → JudgedSignIn
judged_sign_in_view x = record {
  rp = x.party.now;
  session = option_map (λ s. sign_in_view s.now) x.session;
  credential = option_map credential_view x.credential;
  response = assertion_parts_view x.response;
}

-- the registration as it is judged, where these ids are registered and there is room or not
abbrev pub judged_registration_view : RegistrationAttempt → (List ℕ → Bool) → Bool → JudgedRegistration
judged_registration_view x is_registered is_full = record {
  rp = x.party.now;
  policy = x.policy;
  session = option_map (λ s. registration_view s.now) x.session;
  response = registration_parts_view x.response;
  is_registered = is_registered;
  is_full = is_full;
}

-- the same where nothing is registered: for steps that do not look at the table
abbrev pub judged_without_table : RegistrationAttempt → JudgedRegistration
judged_without_table x = judged_registration_view x (λ _. false) false
