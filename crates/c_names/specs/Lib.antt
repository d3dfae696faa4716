pub mod Scope
pub mod Names
pub mod Laws
pub mod State
