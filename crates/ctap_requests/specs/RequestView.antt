-- Requests without where they lie in memory: a `Vec` is its items, a `String` its UTF-8. What is lent is seen as
-- what is owned.
use Rattle.std.specs.Prelude.{map, option_map, string_bytes}
use Rattle.ctap_requests.specs.declared.request.Descriptor.{Descriptor}
use Rattle.ctap_requests.specs.declared.request.DescriptorView.{DescriptorView}
use Rattle.ctap_requests.specs.declared.request.RelyingParty.{RelyingParty}
use Rattle.ctap_requests.specs.declared.request.User.{User}
use Rattle.ctap_requests.specs.declared.request.Parameters.{Parameters}
use Rattle.ctap_requests.specs.declared.request.CreationOptions.{CreationOptions}
use Rattle.ctap_requests.specs.declared.request.AssertionOptions.{AssertionOptions}
use Rattle.ctap_requests.specs.declared.request.MakeCredential.{MakeCredential}
use Rattle.ctap_requests.specs.declared.request.GetAssertion.{GetAssertion}
use Rattle.ctap_requests.specs.declared.request.GetAssertionView.{GetAssertionView}
use Rattle.ctap_requests.specs.declared.request.Request.{Request}
use Rattle.ctap_requests.specs.declared.request.Request.TheVariants as requests
use Rattle.ctap_requests.specs.declared.request.RequestView.{RequestView}
use Rattle.ctap_requests.specs.declared.request.RequestView.TheVariants as lent
use Rattle.ctap_requests.specs.Entities.{CredentialDescriptor, RpEntity, UserEntity, CredentialParameters, CreationFlags, AssertionFlags}
use Rattle.ctap_requests.specs.Requests.{CreationRequest, AssertionRequest, RequestMessage, make_credential, get_assertion, get_next_assertion, get_info, reset}

abbrev pub descriptor_view : Descriptor → CredentialDescriptor
descriptor_view d = record { id = d.id.items; kind = string_bytes d.kind }

abbrev pub lent_descriptor_view : DescriptorView → CredentialDescriptor
lent_descriptor_view d = record { id = d.id.now; kind = d.kind.now }

abbrev pub rp_view : RelyingParty → RpEntity
rp_view r = record { id = string_bytes r.id; name = option_map (λ s. string_bytes s) r.name }

abbrev pub user_view : User → UserEntity
user_view u = record {
  id = u.id.items;
  name = option_map (λ s. string_bytes s) u.name;
  display_name = option_map (λ s. string_bytes s) u.display_name;
}

abbrev pub parameters_view : Parameters → CredentialParameters
parameters_view p = record { alg = p.alg; kind = string_bytes p.kind }

abbrev pub creation_options_view : CreationOptions → CreationFlags
creation_options_view o = record { rk = o.rk; up = o.up; uv = o.uv }

abbrev pub assertion_options_view : AssertionOptions → AssertionFlags
assertion_options_view o = record { up = o.up; uv = o.uv }

abbrev pub creation_view : MakeCredential → CreationRequest
creation_view q = record {
  client_data_hash = q.client_data_hash.items;
  rp = rp_view q.rp;
  user = user_view q.user;
  pub_key_cred_params = map parameters_view q.pub_key_cred_params.items;
  exclude_list = option_map (λ v. map descriptor_view v.items) q.exclude_list;
  options = option_map creation_options_view q.options;
}

abbrev pub assertion_view : GetAssertion → AssertionRequest
assertion_view q = record {
  rp_id = string_bytes q.rp_id;
  client_data_hash = q.client_data_hash.items;
  allow_list = option_map (λ v. map descriptor_view v.items) q.allow_list;
  options = option_map assertion_options_view q.options;
}

abbrev pub lent_get_assertion_view : GetAssertionView → AssertionRequest
lent_get_assertion_view q = record {
  rp_id = q.rp_id.now;
  client_data_hash = q.client_data_hash.now;
  allow_list = option_map (λ v. map lent_descriptor_view v.items) q.allow_list;
  options = option_map assertion_options_view q.options;
}

abbrev pub request_view : Request → RequestMessage
request_view (requests.MakeCredential q) = make_credential (creation_view q)
request_view (requests.GetAssertion q) = get_assertion (assertion_view q)
request_view requests.GetNextAssertion = get_next_assertion
request_view requests.GetInfo = get_info
request_view requests.Reset = reset

abbrev pub lent_request_view : RequestView → RequestMessage
lent_request_view (lent.MakeCredential q) = make_credential (creation_view q)
lent_request_view (lent.GetAssertion q) = get_assertion (lent_get_assertion_view q)
lent_request_view lent.GetNextAssertion = get_next_assertion
lent_request_view lent.GetInfo = get_info
lent_request_view lent.Reset = reset
