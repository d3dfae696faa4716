pub mod Choices
pub mod NumberLemmas
pub mod HeadLemmas
pub mod PlaceLemmas
pub mod SpellingLemmas
pub mod LongestLemmas
pub mod GapLemmas
