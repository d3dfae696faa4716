-- What the contracts of private functions say of the state of the code. No public clause needs these files.
pub mod Ends
pub mod Free
