pub mod Tokens
pub mod Numbers
pub mod Reading
pub mod Ranges
pub mod Laws
pub mod Writing
pub mod Parts
