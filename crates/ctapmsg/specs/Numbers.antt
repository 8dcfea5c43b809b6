-- The numbers of refusals; the crate `ctap_encoding` defines them.
pub use Rattle.ctap_encoding.specs.Numbers.{refusal_number}
