mod HeadLemmas
mod SpellingLemmas
mod OpeningLemmas
