mod Eaches
mod Stores
mod Stacking
mod Picking
mod Assigning
mod Splitting
mod Callees
mod Runs
mod NodeRuns
mod Targets
mod Choices
mod Taking
mod Fresh
mod NodePlans
pub mod FilePlans
pub mod Fitting
