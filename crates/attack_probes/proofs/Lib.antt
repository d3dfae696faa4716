pub mod Attacking
pub mod Levels
pub mod Counting
pub mod Stacking
pub mod Spanning
pub mod Reading
pub mod Grouping
pub mod Verdicts
