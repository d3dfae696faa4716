pub mod WordStore
pub mod MeaningLaw
