pub mod Count
pub mod Fetch
pub mod Written
pub mod Pieces
pub mod Gathered
pub mod Held
pub mod Trips
