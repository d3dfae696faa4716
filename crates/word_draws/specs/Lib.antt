pub mod Draws
pub mod Known
