pub mod Reading
pub mod Last
pub mod Counting
pub mod Forms
pub mod Existing
