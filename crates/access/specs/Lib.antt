pub mod Accesses
pub mod Following
