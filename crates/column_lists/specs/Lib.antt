pub mod Names
pub mod Rows
pub mod RowLaws
pub mod Reading
