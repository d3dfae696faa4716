mod Words
mod Tokens
mod Passing
mod Declaring
pub mod Files
pub mod Entry
