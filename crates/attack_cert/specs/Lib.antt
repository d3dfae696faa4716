pub mod Levels
pub mod Derivation
pub mod DerivationLaws
pub mod Kept
pub mod Levelled
