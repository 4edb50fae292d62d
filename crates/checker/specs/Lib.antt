pub mod Found
pub mod Notes
pub mod Predicates
pub mod Rules
pub mod Settings
pub mod Visits
