-- Scopes, memory and gadgets of the code as the machine sees them. No public clause needs these files but through
-- `run_c`.
pub mod Scopes
pub mod Gadgets
pub mod Answers
