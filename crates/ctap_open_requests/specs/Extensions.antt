-- Inputs of extensions by name: CTAP 2.1, sections 12.1 (credProtect), 12.2 (credBlob), 12.3 (largeBlobKey), 12.4
-- (minPinLength) and 12.5 (hmac-secret).
use Rattle.std.specs.Prelude.{ℕ, ◌==◌, List, Bool, true, false, Option, Some, None, option_map, codes, if◌then◌else◌}
use Rattle.ccbor.specs.Item as of
use Rattle.ctap_encoding.specs.Table.{Members, no_more, listed, some_bytes, a_truth, unsigned, record_of}
use Rattle.ctap_encoding.specs.Content.{Contents}
use Rattle.pin_client_messages.specs.Commands.{PublicPoint, key_members, point_content}

-- what is asked for is written as true
abbrev pub wanted : Bool → Option Bool
wanted true = Some true
wanted false = None

-- of makeCredential
pub record CreationInputs : Type 0 where
  pub cred_blob : Option (List ℕ)
  pub cred_protect : Option ℕ
  pub hmac_secret : Bool
  pub large_blob_key : Bool
  pub min_pin_length : Bool

abbrev pub creation_inputs : Members
creation_inputs =
    listed (of.text (codes "credBlob")) false some_bytes (
    listed (of.text (codes "credProtect")) false (unsigned 0) (
    listed (of.text (codes "hmac-secret")) false a_truth (
    listed (of.text (codes "largeBlobKey")) false a_truth (
    listed (of.text (codes "minPinLength")) false a_truth no_more))))

abbrev pub creation_inputs_content : CreationInputs → Contents creation_inputs
creation_inputs_content q =
    (q.cred_blob, (q.cred_protect, (wanted q.hmac_secret, (wanted q.large_blob_key, (wanted q.min_pin_length, tt)))))

-- the input of hmac-secret to getAssertion: keyAgreement, saltEnc, saltAuth, and pinUvAuthProtocol, which is left out
-- where it is one
pub record Secret : Type 0 where
  pub key : PublicPoint
  pub salt_enc : List ℕ
  pub salt_auth : List ℕ
  pub protocol : ℕ

abbrev pub secret_members : Members
secret_members =
    listed (of.uint 1) true (record_of key_members) (
    listed (of.uint 2) true some_bytes (
    listed (of.uint 3) true some_bytes (
    listed (of.uint 4) false (unsigned 0) no_more)))

abbrev pub named_protocol : ℕ → Option ℕ
named_protocol n = if n == 1 then None else Some n

abbrev pub secret_content : Secret → Contents secret_members
secret_content s = (point_content s.key, (s.salt_enc, (s.salt_auth, (named_protocol s.protocol, tt))))

-- of getAssertion
pub record AssertionInputs : Type 0 where
  pub cred_blob : Bool
  pub hmac_secret : Option Secret
  pub large_blob_key : Bool

abbrev pub assertion_inputs : Members
assertion_inputs =
    listed (of.text (codes "credBlob")) false a_truth (
    listed (of.text (codes "hmac-secret")) false (record_of secret_members) (
    listed (of.text (codes "largeBlobKey")) false a_truth no_more))

abbrev pub assertion_inputs_content : AssertionInputs → Contents assertion_inputs
assertion_inputs_content q = (wanted q.cred_blob, (option_map secret_content q.hmac_secret, (wanted q.large_blob_key, tt)))
