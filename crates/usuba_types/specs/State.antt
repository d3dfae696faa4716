-- What the contracts of private functions cite. No public clause needs these files.
pub mod Adding
pub mod Passing
pub mod Deciding
