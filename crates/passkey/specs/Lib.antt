pub mod HexText
pub mod CommandLine
pub mod Private
pub mod Checked
