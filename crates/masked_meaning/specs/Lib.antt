pub mod MaskedCode
pub mod Lanes
