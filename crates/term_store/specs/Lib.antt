pub mod TermStore
pub mod PlanCore
pub mod CoreLaw
