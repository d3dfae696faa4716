-- What the contracts of private functions cite. No public clause needs these files.
pub mod Making
