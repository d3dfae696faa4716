pub mod SourceTerms
pub mod SourceLaws
