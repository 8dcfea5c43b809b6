pub mod Replies
pub mod ReplyView
pub mod Pieces
