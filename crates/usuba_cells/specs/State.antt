-- What the contracts of private functions say. No public clause needs these files.
pub mod Sums
pub mod Copies
pub mod Brackets
pub mod Places
