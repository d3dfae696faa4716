mod ChainParts
mod Capped
mod BracketLemmas
mod Numbered
mod PartLemmas
mod Elements
mod PlaceLemmas
