pub mod Answered
pub mod ComingLeaves
pub mod ElementTree
pub mod Looking
pub mod OpenElements
pub mod Turns
