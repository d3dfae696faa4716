pub mod Term
pub mod Builder
pub mod Circuit
pub mod CoreOfTerms
pub mod PlainRun
pub mod CoreText
pub mod State
