pub mod Replying
pub mod Asking
pub mod AskingView
pub mod Protected
pub mod ProtectedView
pub mod Informing
pub mod Pieces
