pub mod Fitting
pub mod Words
pub mod Reading
pub mod Subterms
pub mod CoreRun
pub mod Agreeing
