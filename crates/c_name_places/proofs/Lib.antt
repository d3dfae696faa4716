pub mod Trees
pub mod Counted
