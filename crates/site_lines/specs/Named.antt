-- A registration's response as a line has it: with the id that the client names (WebAuthn, section 5.1, rawId).
use Rattle.std.specs.Prelude.{Some}
use Rattle.authdata.specs.Responses.{AuthenticatorAttestationResponse}
use Rattle.site_acts.specs.declared.act.FinishRegistration.{FinishRegistration}

abbrev pub named_response : FinishRegistration → AuthenticatorAttestationResponse
named_response f = record { object = f.response.object.items; client_data = f.response.client_data.items; raw_id = Some f.credential.items }
