-- What the private functions of this crate say of each other. No public clause needs these files.
pub mod Progress
pub mod Scopes
