pub mod Origins
pub mod ColumnNames
pub mod RefreshedRows
pub mod RefreshedProducts
pub mod Attacks
pub mod Repairs
pub mod LeftOut
