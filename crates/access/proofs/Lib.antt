pub mod Follows
pub mod Prunes
