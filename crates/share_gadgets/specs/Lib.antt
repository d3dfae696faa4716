pub mod Sharing
pub mod Gadgets
pub mod MaskedRun
pub mod RunLaw
pub mod Known
pub mod Private
