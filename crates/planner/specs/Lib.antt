pub mod ReadPlans
pub mod Readings
pub mod RootPlans
pub mod Segments
pub mod Targets
