-- Inputs of extensions without where they lie in memory.
use Rattle.std.specs.Prelude.{option_map}
use Rattle.pin_client_messages.specs.CommandView.{point_view}
use Rattle.ctap_open_requests.specs.declared.extensions.CreationExtensions.{CreationExtensions}
use Rattle.ctap_open_requests.specs.declared.extensions.AssertionExtensions.{AssertionExtensions}
use Rattle.ctap_open_requests.specs.declared.extensions.HmacSecret.{HmacSecret}
use Rattle.ctap_open_requests.specs.Extensions.{CreationInputs, AssertionInputs, Secret}

abbrev pub creation_inputs_view : CreationExtensions → CreationInputs
creation_inputs_view e = record {
  cred_blob = option_map (λ b. b.now) e.cred_blob;
  cred_protect = e.cred_protect;
  hmac_secret = e.hmac_secret;
  large_blob_key = e.large_blob_key;
  min_pin_length = e.min_pin_length;
}

abbrev pub secret_view : HmacSecret → Secret
secret_view s = record { key = point_view s.key; salt_enc = s.salt_enc.now; salt_auth = s.salt_auth.now; protocol = s.protocol }

abbrev pub assertion_inputs_view : AssertionExtensions → AssertionInputs
assertion_inputs_view e = record {
  cred_blob = e.cred_blob;
  hmac_secret = option_map secret_view e.hmac_secret;
  large_blob_key = e.large_blob_key;
}
