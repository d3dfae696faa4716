pub mod AttackText
pub mod Forms
pub mod Ranges
pub mod Reading
pub mod Parts
pub mod NarrowTextLaw
