pub mod Bytes
pub mod Numbers
pub mod Words
pub mod Heads
pub mod Tokens
pub mod Longest
pub mod Gaps
