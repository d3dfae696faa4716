-- The theory behind the search.
pub mod Alone
pub mod Rests
pub mod Calls
pub mod Clearing
pub mod Closures
pub mod Gathering
pub mod Placing
pub mod Imaging
pub mod Leading
pub mod Passes
pub mod Pending
pub mod Reaching
pub mod Taking
pub mod Verdicts
mod Leaving
mod Settling
mod Raising
mod Opening
mod Following
