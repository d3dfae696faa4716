pub mod Sizes
pub mod SizeLaws
pub mod Judged
pub mod State
