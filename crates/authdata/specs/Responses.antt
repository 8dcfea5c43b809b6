-- What a client hands to a relying party, without where it lies in memory: WebAuthn, section 5.2.
use Rattle.std.specs.Prelude.{ℕ, List, Option, None, option_map}
use Rattle.authdata.specs.declared.response.AssertionResponse.{AssertionResponse}
use Rattle.authdata.specs.declared.response.RegistrationResponse.{RegistrationResponse}

-- 5.2.2: authenticatorData, signature, userHandle, clientDataJSON, and the credential's id
pub record AuthenticatorAssertionResponse : Type 0 where
  pub credential : List ℕ
  pub user : Option (List ℕ)
  pub auth_data : List ℕ
  pub signature : List ℕ
  pub client_data : List ℕ

-- 5.2.1: attestationObject, clientDataJSON; and the credential's id as the client names it (5.1, rawId), where it is passed
pub record AuthenticatorAttestationResponse : Type 0 where
  pub object : List ℕ
  pub client_data : List ℕ
  pub raw_id : Option (List ℕ)

abbrev pub assertion_response_view : AssertionResponse → AuthenticatorAssertionResponse
assertion_response_view r = record {
  credential = r.credential.items;
  user = option_map (λ u. u.items) r.user;
  auth_data = r.auth_data.items;
  signature = r.signature.items;
  client_data = r.client_data.items;
}

abbrev pub registration_response_view : RegistrationResponse → AuthenticatorAttestationResponse
registration_response_view r = record { object = r.object.items; client_data = r.client_data.items; raw_id = None }
