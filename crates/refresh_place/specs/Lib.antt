pub mod RepairSet
pub mod RefreshedAttacks
