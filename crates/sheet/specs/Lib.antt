pub mod Seen
pub mod SheetTrees
pub mod SheetExpressions
pub mod KeptTrees
pub mod Sections
pub mod Spans
pub mod Children
