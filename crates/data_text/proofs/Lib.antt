pub mod TokenLemmas
pub mod NumberLemmas
pub mod ReadLemmas
pub mod LawLemmas
pub mod RangeLemmas
