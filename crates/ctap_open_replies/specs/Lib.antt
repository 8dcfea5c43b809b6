pub mod Telling
pub mod Replies
pub mod ReplyView
pub mod Reading
pub mod Pieces
