-- Replies without where they lie in memory.
use Rattle.std.specs.Prelude.{map, option_map, string_bytes}
use Rattle.ccbor.specs.View.{view}
use Rattle.ctap_open_replies.specs.declared.reply.UserView.{UserView}
use Rattle.ctap_open_replies.specs.declared.reply.ParametersView.{ParametersView}
use Rattle.ctap_open_replies.specs.declared.reply.KeyCreation.{KeyCreation}
use Rattle.ctap_open_replies.specs.declared.reply.KeyAssertion.{KeyAssertion}
use Rattle.ctap_open_replies.specs.declared.reply.KeyInfo.{KeyInfo}
use Rattle.ctap_open_replies.specs.Replies.{User, Parameters, Creation, Assertion, Info}

abbrev pub user_view : UserView → User
user_view u = record {
  id = u.id.now;
  icon = option_map (λ b. b.now) u.icon;
  name = option_map (λ b. b.now) u.name;
  display_name = option_map (λ b. b.now) u.display_name;
}

abbrev pub parameters_view : ParametersView → Parameters
parameters_view p = record { alg = p.alg; kind = p.kind.now }

abbrev pub creation_view : KeyCreation → Creation
creation_view r = record {
  fmt = string_bytes r.fmt;
  auth_data = r.auth_data.items;
  statement = view r.statement;
  enterprise = r.enterprise;
  large_blob_key = option_map (λ v. v.items) r.large_blob_key;
}

abbrev pub assertion_view : KeyAssertion → Assertion
assertion_view r = record {
  credential = r.credential.now;
  auth_data = r.auth_data.now;
  signature = r.signature.now;
  user = option_map user_view r.user;
  number = r.number;
  user_selected = r.user_selected;
  large_blob_key = option_map (λ b. b.now) r.large_blob_key;
}

abbrev pub info_view : KeyInfo → Info
info_view r = record {
  versions = map (λ b. b.now) r.versions.items;
  extensions = option_map (λ v. map (λ b. b.now) v.items) r.extensions;
  aaguid = r.aaguid.now;
  options = option_map (λ v. map (λ o. (o.0.now, o.1)) v.items) r.options;
  max_msg_size = r.max_msg_size;
  pin_uv_auth_protocols = option_map (λ v. v.items) r.pin_uv_auth_protocols;
  max_credential_count_in_list = r.max_credential_count_in_list;
  max_credential_id_length = r.max_credential_id_length;
  transports = option_map (λ v. map (λ b. b.now) v.items) r.transports;
  algorithms = option_map (λ v. map parameters_view v.items) r.algorithms;
  min_pin_length = r.min_pin_length;
  firmware_version = r.firmware_version;
  remaining_discoverable_credentials = r.remaining_discoverable_credentials;
}
