pub mod RowLemmas
pub mod Entries
pub mod Made
pub mod Maps
pub mod Limits
pub mod Numbered
pub mod Kept
pub mod Ages
mod Room
