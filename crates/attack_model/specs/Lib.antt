pub mod Derivations
pub mod Ranges
