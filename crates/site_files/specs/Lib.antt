pub mod Earlier
pub mod Files
