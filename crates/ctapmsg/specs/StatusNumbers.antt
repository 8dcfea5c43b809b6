-- The status bytes; the crate `ctap_encoding` defines them.
pub use Rattle.ctap_encoding.specs.StatusNumbers.{HasPinStatuses, HasReadingStatuses, HasRefusingStatuses}
