-- Requests, under the names that they have here; the crate `ctap_requests` defines them.
pub use Rattle.ctap_requests.specs.Requests.{CreationRequest, creation_members, creation_content, creation_item, AssertionRequest, assertion_members}
pub use Rattle.ctap_requests.specs.Requests.{assertion_content, assertion_item, RequestMessage, map_of, RequestOf, make_credential, get_assertion}
pub use Rattle.ctap_requests.specs.Requests.{get_next_assertion, get_info, reset}
