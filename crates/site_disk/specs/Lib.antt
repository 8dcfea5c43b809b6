pub mod Kind
pub mod Mark
