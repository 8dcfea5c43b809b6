pub mod Requests
pub mod RequestView
pub mod Extensions
pub mod ExtensionView
pub mod Limits
pub mod Pieces
