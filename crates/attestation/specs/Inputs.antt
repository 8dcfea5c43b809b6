-- What a verification procedure is given beside the statement: WebAuthn Level 2, section 6.5.4 and 8.
use Rattle.std.specs.Prelude.{ℕ, List}
use Rattle.authdata.specs.Layout.{AttestedCredential, lent_attested_view}
use Rattle.attestation.specs.declared.inputs.Inputs.{Inputs as LentInputs}

-- authenticator data as they came, and of them rpIdHash and the credential that they attest; and the hash of the client data
pub record Inputs : Type 0 where
  pub auth_data : List ℕ
  pub rp_id_hash : List ℕ
  pub credential : AttestedCredential
  pub hash : List ℕ

abbrev pub inputs_view : LentInputs → Inputs
inputs_view i = record {
  auth_data = i.auth_data.now;
  rp_id_hash = i.rp_id_hash.now;
  credential = lent_attested_view i.credential;
  hash = i.hash.now;
}
