-- The theory behind the least selection.
pub mod Choosing
pub mod Numbers
pub mod Lasts
pub mod Standing
pub mod TakingIn
pub mod Reaching
pub mod Growing
