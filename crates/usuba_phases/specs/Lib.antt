pub mod Early
pub mod State
