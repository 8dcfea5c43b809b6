pub mod Table
pub mod TableView
pub mod Content
pub mod Reading
pub mod Building
pub mod Numbers
pub mod StatusNumbers
