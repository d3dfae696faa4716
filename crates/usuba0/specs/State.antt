-- What the models and the contracts of private functions say of the state of the code. No public clause needs these files.
pub mod TermCode
pub mod Heads
pub mod Walk
