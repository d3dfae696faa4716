pub mod Answers
pub mod Arguments
pub mod Laws
pub mod Numbers
pub mod Orders
pub mod Ranges
pub mod Refusals
pub mod Values
