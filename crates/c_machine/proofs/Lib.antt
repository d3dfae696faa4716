mod Bindings
mod Found
mod Rows
mod Statements
