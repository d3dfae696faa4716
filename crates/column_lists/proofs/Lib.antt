pub mod NameLemmas
pub mod RowLemmas
pub mod ReadLemmas
pub mod WrittenLemmas
pub mod PlaceLemmas
