pub mod Selection
pub mod SelectionLaws
pub mod RowGroups
pub mod Words
