pub mod Coefficients
pub mod TableTerms
pub mod TableLaws
pub mod Extends
pub mod State
