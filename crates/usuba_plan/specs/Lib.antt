pub mod Store
pub mod Made
pub mod Fit
pub mod Room
pub mod Running
pub mod Plans
pub mod PlanLaw
pub mod State
