pub mod KeptTrees
pub mod Naming
pub mod NodeReaders
pub mod Readers
pub mod Sheets
pub mod Copies
pub mod Kinded
pub mod Siblings
