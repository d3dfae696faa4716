pub mod Derivation
pub mod Depth
pub mod Predictive
pub mod Answer
pub mod Private
