pub mod CSubset
pub mod Parts
