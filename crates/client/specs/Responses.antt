-- What a client hands to a relying party: WebAuthn Level 2, sections 5.2.1 and 5.2.2.
use Rattle.std.specs.Prelude.{ℕ, List}
use Rattle.ctap_replies.specs.Replies as replies
use Rattle.authdata.specs.Objects.{Attestation}
use Rattle.authdata.specs.Responses as responses

-- the reply's members and the client data; how many credentials there are is the client's own
abbrev pub response_of : replies.Assertion → List ℕ → responses.AuthenticatorAssertionResponse
response_of r client_data = record {
  credential = r.credential;
  user = r.user;
  auth_data = r.auth_data;
  signature = r.signature;
  client_data = client_data;
}

-- the attestation object of a reply (section 6.5.4)
abbrev pub object_of : replies.Creation → Attestation
object_of r = record { fmt = r.fmt; statement = r.statement; auth_data = r.auth_data }
