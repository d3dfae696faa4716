-- How each command may end, a command a file.
pub mod Core
pub mod Rows
pub mod Check
pub mod Verify
pub mod Eval
pub mod Trial
pub mod Repair
pub mod Gen
pub mod Compile
pub mod Run
