-- The maps inside requests, under the names that they have here; the crate `ctap_requests` defines them.
pub use Rattle.ctap_requests.specs.Entities.{CredentialDescriptor, descriptor_members, descriptor_content, RpEntity, rp_members, rp_content}
pub use Rattle.ctap_requests.specs.Entities.{UserEntity, user_members, user_content, CredentialParameters, parameters_members, parameters_content}
pub use Rattle.ctap_requests.specs.Entities.{CreationFlags, creation_options_members, creation_options_content, AssertionFlags}
pub use Rattle.ctap_requests.specs.Entities.{assertion_options_members, assertion_options_content}
