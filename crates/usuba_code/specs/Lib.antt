pub mod Code
pub mod Machine
pub mod CodeLaw
pub mod State
