pub mod Building
pub mod Flattened
pub mod Listed
pub mod Rows
