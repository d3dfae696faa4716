mod Sums
mod Counting
mod Rooms
mod FileRooms
pub mod Entries
