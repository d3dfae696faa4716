pub mod Verdict
pub mod Classes
pub mod Growth
pub mod Tasks
pub mod LeavingOut
pub mod Private
