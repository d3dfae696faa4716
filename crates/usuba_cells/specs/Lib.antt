pub mod Counters
pub mod State
