pub mod Judged
pub mod State
