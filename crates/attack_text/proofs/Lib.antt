pub mod WriteLemmas
pub mod TestLemmas
pub mod RangeLemmas
pub mod EndLemmas
pub mod RoundLemmas
pub mod FormBackLemmas
pub mod SpelledLemmas
pub mod NarrowLemmas
