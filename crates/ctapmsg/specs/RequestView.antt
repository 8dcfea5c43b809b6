-- What requests are seen as, under the names that they have here; the crate `ctap_requests` defines them.
pub use Rattle.ctap_requests.specs.RequestView.{descriptor_view, lent_descriptor_view, rp_view, user_view, parameters_view, creation_options_view}
pub use Rattle.ctap_requests.specs.RequestView.{assertion_options_view, creation_view, assertion_view, lent_get_assertion_view, request_view}
pub use Rattle.ctap_requests.specs.RequestView.{lent_request_view}
