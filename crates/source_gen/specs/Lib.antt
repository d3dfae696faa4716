pub mod Source
pub mod Known
pub mod Report
