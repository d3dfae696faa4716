-- What the model of the table says of its fields, and what the contracts of private functions cite. No public clause needs
-- these files.
pub mod Flat
