pub mod Commands
pub mod CommandView
pub mod Replies
pub mod ReplyView
pub mod Pieces
