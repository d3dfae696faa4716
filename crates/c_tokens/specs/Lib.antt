pub mod Words
pub mod Heads
pub mod Tokens
pub mod Openings
