pub mod Clips
pub mod PairKinds
pub mod Found
pub mod ClipSteps
pub mod Alike
pub mod SameRecords
