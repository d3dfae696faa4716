pub mod Passing
pub mod Trees
pub mod Turns
pub mod Scopes
pub mod Gadgets
