pub mod Kernels
pub mod Bits
pub mod Leads
pub mod Reducing
pub mod Meeting
