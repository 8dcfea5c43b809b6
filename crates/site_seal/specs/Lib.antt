pub mod Hmac
pub mod Seal
pub mod Views
pub mod Judged
