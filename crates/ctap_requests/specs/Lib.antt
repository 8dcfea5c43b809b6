pub mod Entities
pub mod Requests
pub mod RequestView
pub mod Status
pub mod Pieces
