-- What the contracts of private functions say of the state of the code. No public clause needs these files.
pub mod Names
pub mod Scopes
pub mod Phases
