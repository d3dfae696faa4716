pub mod Words
pub mod Rows
pub mod Basis
pub mod Echelon
