pub mod Running
pub mod Premises
pub mod Numbering
mod Cutting
