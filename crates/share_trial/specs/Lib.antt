pub mod Trial
pub mod TrialText
pub mod TrialLaw
pub mod Known
