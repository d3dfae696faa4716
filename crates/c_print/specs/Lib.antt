pub mod WordSize
