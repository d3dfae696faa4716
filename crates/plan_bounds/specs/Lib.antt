pub mod RoomLaw
pub mod RunLaw
