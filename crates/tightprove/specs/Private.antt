pub mod Images
pub mod Affine
pub mod Chains
pub mod Gathered
pub mod Bounds
