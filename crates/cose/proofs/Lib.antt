pub mod KeyLemmas
pub mod Exact
pub mod Search
