pub mod Numbering
pub mod Copies
pub mod Sizes
pub mod Running
pub mod ReadOff
