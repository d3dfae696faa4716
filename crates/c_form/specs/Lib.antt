pub mod Slots
pub mod Template
pub mod MaskedForm
