-- Requests without where they lie in memory.
use Rattle.std.specs.Prelude.{map, option_map}
use Rattle.ccbor.specs.View.{view}
use Rattle.ctap_requests.specs.Entities.{RpEntity, UserEntity, CreationFlags}
use Rattle.ctap_open_requests.specs.declared.request.RelyingParty.{RelyingParty}
use Rattle.ctap_open_requests.specs.declared.request.User.{User}
use Rattle.ctap_open_requests.specs.declared.request.Options.{Options}
use Rattle.ctap_open_requests.specs.declared.request.PinUvAuth.{PinUvAuth}
use Rattle.ctap_open_requests.specs.declared.request.MakeCredential.{MakeCredential}
use Rattle.ctap_open_requests.specs.declared.request.GetAssertion.{GetAssertion}
use Rattle.ctap_open_requests.specs.Requests.{Auth, Creation, Assertion}

abbrev pub rp_view : RelyingParty → RpEntity
rp_view r = record { id = r.id.now; name = option_map (λ b. b.now) r.name }

abbrev pub user_view : User → UserEntity
user_view u = record { id = u.id.now; name = option_map (λ b. b.now) u.name; display_name = option_map (λ b. b.now) u.display_name }

abbrev pub options_view : Options → CreationFlags
options_view o = record { rk = o.rk; up = o.up; uv = o.uv }

abbrev pub auth_view : PinUvAuth → Auth
auth_view a = record { param = a.param.now; protocol = a.protocol }

abbrev pub creation_view : MakeCredential → Creation
creation_view q = record {
  client_data_hash = q.client_data_hash.now;
  rp = rp_view q.rp;
  user = user_view q.user;
  algorithms = q.algorithms.now;
  exclude = map (λ b. b.now) q.exclude.now;
  extensions = option_map view q.extensions;
  options = options_view q.options;
  auth = option_map auth_view q.auth;
}

abbrev pub assertion_view : GetAssertion → Assertion
assertion_view q = record {
  rp_id = q.rp_id.now;
  client_data_hash = q.client_data_hash.now;
  allow = map (λ b. b.now) q.allow.now;
  extensions = option_map view q.extensions;
  options = options_view q.options;
  auth = option_map auth_view q.auth;
}
