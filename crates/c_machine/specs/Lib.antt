pub mod Scope
pub mod Machine
pub mod Run
pub mod State
