pub mod Noting
pub mod Allotting
