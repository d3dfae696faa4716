pub mod Signatures
pub mod Walking
pub mod State
