pub mod Derivations
pub mod Unfolding
pub mod Listings
pub mod UnfoldingLaws
pub mod Counts
pub mod Operands
