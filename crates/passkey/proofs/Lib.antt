pub mod WordRows
pub mod Adding
