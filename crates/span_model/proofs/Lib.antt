-- The theory behind the laws.
pub mod Sets
pub mod Members
pub mod Ranks
pub mod Touches
pub mod Closing
pub mod Probing
pub mod Unfolding
pub mod Carrying
pub mod Refreshing
pub mod LeavingOut
pub mod Bounding
pub mod SmallCases
