-- The status that answers a request, under the names that they have here; the crate `ctap_requests` defines them.
pub use Rattle.ctap_requests.specs.Status.{Rank, status_of, has_map, has_none, Fault, Applies, ranks, NoStatus, Refused, IsRequest, unknown_command}
pub use Rattle.ctap_requests.specs.Status.{bytes_after, not_canonical, another_kind, unlisted_key, missing_member, invalid_size, over_limit}
