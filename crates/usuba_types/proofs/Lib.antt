mod Adding
mod Naming
mod Stopping
mod Standing
mod Declaring
mod Deciding
mod Fewness
pub mod Entry
