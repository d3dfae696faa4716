pub mod RefreshedCore
pub mod RefreshedLaws
pub mod State
