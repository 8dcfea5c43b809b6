pub mod Numbers
pub mod Options
pub mod Origins
pub mod Asked
pub mod Responses
pub mod Replies
pub mod Steps
