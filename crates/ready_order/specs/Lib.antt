pub mod Numbered
pub mod Order
pub mod Ordering
pub mod Uses
pub mod NumberedLaws
pub mod State
