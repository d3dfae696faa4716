pub mod Terminals
pub mod Expressions
pub mod Statements
pub mod Files
