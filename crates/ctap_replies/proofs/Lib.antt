pub mod Laws
pub mod Texts
pub mod AssertionBytes
pub mod UsualReplies
